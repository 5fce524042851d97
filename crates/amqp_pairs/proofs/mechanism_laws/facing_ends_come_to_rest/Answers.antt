use Rattle.amqp_pairs.proofs.Bodies.{none_in_flight}
use Rattle.amqp_pairs.proofs.Still.{both_still, client_given_all, listener_given_all}
use Rattle.amqp_pairs.proofs.mechanism_laws.facing_ends_come_to_rest.Goals as goal

pub returns : goal.returns
returns c = record {
  client = client_given_all;
  listener = listener_given_all;
  passed = λ x y gc sc gl sl fc fl f p q. both_still x y gc sc gl sl f.client f.listener (none_in_flight gc fc sl f.reads_listener p) (none_in_flight gl fl sc f.reads_client q);
}

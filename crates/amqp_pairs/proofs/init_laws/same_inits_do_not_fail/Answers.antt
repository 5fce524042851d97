use Rattle.amqp_pairs.proofs.InitFailures.{init_client_does_not, init_listener_does_not}
use Rattle.amqp_pairs.proofs.init_laws.same_inits_do_not_fail.Goals as goal

pub returns : goal.returns
returns c = record {
  client = init_client_does_not;
  listener = init_listener_does_not;
}

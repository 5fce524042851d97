use Rattle.amqp_pairs.proofs.InitFailures.{init_client_own, init_listener_own}
use Rattle.amqp_pairs.proofs.init_laws.same_inits_fail_on_their_own.Goals as goal

pub returns : goal.returns
returns c = record {
  client = init_client_own;
  listener = init_listener_own;
}

use Rattle.amqp_pairs.proofs.InitFailures.{init_client_fails, init_listener_fails}
use Rattle.amqp_pairs.proofs.init_laws.only_other_inits_fail.Goals as goal

pub returns : goal.returns
returns c = record {
  client = init_client_fails;
  listener = init_listener_fails;
}

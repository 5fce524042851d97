use Rattle.amqp_pairs.proofs.Mechanisms.{client_fails, listener_does_not}
use Rattle.amqp_pairs.proofs.mechanism_laws.other_mechanisms_fail.Goals as goal

pub returns : goal.returns
returns c = record {
  client = client_fails;
  listener = listener_does_not;
}

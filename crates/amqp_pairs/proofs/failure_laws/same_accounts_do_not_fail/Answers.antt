use Rattle.amqp_pairs.proofs.Failures.{client_does_not, listener_does_not}
use Rattle.amqp_pairs.proofs.failure_laws.same_accounts_do_not_fail.Goals as goal

pub returns : goal.returns
returns c = record {
  client = client_does_not;
  listener = listener_does_not;
}

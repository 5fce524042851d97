use Rattle.amqp_pairs.proofs.Failures.{client_fails, listener_fails}
use Rattle.amqp_pairs.proofs.failure_laws.only_other_accounts_fail.Goals as goal

pub returns : goal.returns
returns c = record {
  client = client_fails;
  listener = listener_fails;
}

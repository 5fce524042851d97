use Rattle.amqp_pairs.proofs.OwnFailures.{client_own, listener_own}
use Rattle.amqp_pairs.proofs.failure_laws.same_accounts_fail_on_their_own.Goals as goal

pub returns : goal.returns
returns c = record {
  client = client_own;
  listener = listener_own;
}

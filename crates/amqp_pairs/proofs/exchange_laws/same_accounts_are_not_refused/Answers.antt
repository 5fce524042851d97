use Rattle.amqp_pairs.proofs.Laws.{no_refusal, no_cause, no_next, no_client_cause}
use Rattle.amqp_pairs.proofs.exchange_laws.same_accounts_are_not_refused.Goals as goal

pub returns : goal.returns
returns c = record {
  listener = no_refusal;
  cause = no_cause;
  next_at_listener = λ x y salt count gc sc gl sl fc fl j same turn code body more. no_next x y salt count gc sc gl sl fc fl j same code body more turn;
  next_at_client = no_client_cause;
}

use Rattle.amqp_pairs.proofs.Laws.{refused_now, refused_next, client_next}
use Rattle.amqp_pairs.proofs.OwnCauses.{nothing_refused}
use Rattle.amqp_pairs.proofs.exchange_laws.only_other_accounts_are_refused.Goals as goal

pub returns : goal.returns
returns c = record {
  cause = refused_now;
  next_at_listener = λ x y salt count gc sc gl sl fc fl j turn code body more. refused_next x y salt count gc sc gl sl fc fl j code body more turn;
  client = nothing_refused;
  next_at_client = client_next;
}

use Rattle.amqp_pairs.proofs.Laws.{at_rest, in_flight, told_client}
use Rattle.amqp_pairs.proofs.exchange_laws.joined_ends_come_to_rest.Goals as goal

pub returns : goal.returns
returns c = record {
  passed = at_rest;
  refused = in_flight;
  told = λ x y salt count gc sc gl sl fc fl j code turn body next. told_client x y salt count gc sc gl sl fc fl j code body next turn;
}

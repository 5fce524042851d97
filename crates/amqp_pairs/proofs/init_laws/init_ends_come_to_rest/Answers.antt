use Rattle.amqp_pairs.proofs.InitLaws.{at_rest, in_flight, told_client}
use Rattle.amqp_pairs.proofs.init_laws.init_ends_come_to_rest.Goals as goal

pub returns : goal.returns
returns c = record {
  passed = at_rest;
  refused = in_flight;
  told = λ c x y gc sc gl sl fc fl j code turn body next. told_client c x y gc sc gl sl fc fl j code body next turn;
}

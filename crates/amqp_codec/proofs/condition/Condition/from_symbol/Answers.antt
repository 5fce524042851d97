use Rattle.amqp_codec.proofs.Conditions.{found_named}
use Rattle.amqp_codec.proofs.condition.Condition.from_symbol.Goals as goal

pub returns-clause-found : goal.returns-clause-found
returns-clause-found c = found_named c.args.symbol.now c.as_str.result.now c.condition_named.result c.condition_named.ensures c.as_str.ensures.value

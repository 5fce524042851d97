use Rattle.std.proofs.Common.{ap, arith}
use Rattle.amqp_data.specs.Data.{count}
use Rattle.amqp_data.proofs.Lists.{count_view}
use Rattle.amqp_data.proofs.value.ValueList.len.Goals as goal

pub returns : goal.returns
returns c = grind (arith, c.len.ensures, count_view c.self.inside.values.items, ap count c.self.view_is)

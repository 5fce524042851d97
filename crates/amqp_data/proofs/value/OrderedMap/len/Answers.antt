use Rattle.std.proofs.Common.{ap, arith}
use Rattle.amqp_data.specs.Data.{pair_count}
use Rattle.amqp_data.proofs.Placed.{pair_count_view}
use Rattle.amqp_data.proofs.value.OrderedMap.len.Goals as goal

pub returns : goal.returns
returns c = grind (arith, c.len.ensures, pair_count_view c.self.inside.entries.items, ap pair_count c.self.view_is)

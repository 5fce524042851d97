use Rattle.std.proofs.Common.{take}
use Rattle.amqp_data.specs.Data.{AreOfKind}
use Rattle.amqp_data.specs.View.{items_view}
use Rattle.amqp_data.proofs.array.are_of_kind.Given as goal

abbrev pub invariant-loop-value : goal.invariant-loop-value
invariant-loop-value l = AreOfKind l.kind (items_view (take l.value-index l.values))

use Rattle.std.proofs.Common.{drop}
use Rattle.amqp_data.specs.View.{items_view}
use Rattle.amqp_value.proofs.ArrayItems.{SizingElements}
use Rattle.amqp_value.proofs.elements.elements_size.Given as goal

abbrev pub invariant-loop-value : goal.invariant-loop-value
invariant-loop-value l = SizingElements l.code l.total (items_view (drop l.value-index l.values)) (items_view l.values)

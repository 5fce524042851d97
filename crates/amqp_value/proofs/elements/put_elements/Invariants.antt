use Rattle.std.proofs.Common.{drop}
use Rattle.amqp_data.specs.View.{items_view}
use Rattle.amqp_value.proofs.ArrayItems.{GoingElements}
use Rattle.amqp_value.proofs.elements.put_elements.Given as goal

abbrev pub invariant-loop-value : goal.invariant-loop-value
invariant-loop-value l = GoingElements l.code l.initial.out l.out (items_view (drop l.value-index l.values)) (items_view l.values)

use Rattle.std.proofs.Common.{◌≡◌, drop}
use Rattle.amqp_data.specs.View.{items_view}
use Rattle.amqp_value.specs.Canonical.{are_short}
use Rattle.amqp_value.proofs.elements.are_short.Given as goal

abbrev pub invariant-loop-value : goal.invariant-loop-value
invariant-loop-value l = are_short (items_view (drop l.value-index l.values)) ≡ are_short (items_view l.values)

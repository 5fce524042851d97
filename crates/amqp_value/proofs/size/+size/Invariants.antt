use Rattle.std.proofs.Common.{◌+◌, ◌*◌, drop}
use Rattle.amqp_data.specs.Trees.{weight, items_weight, pairs_weight}
use Rattle.amqp_data.specs.View.{view, items_view, pairs_view}
use Rattle.amqp_value.proofs.Sizes.{SizingItems, SizingPairs}
use Rattle.amqp_value.proofs.size.+size.Given as goal

abbrev pub invariant-items_size-loop-value : goal.invariant-items_size-loop-value
invariant-items_size-loop-value l = SizingItems l.total (items_view (drop l.value-index l.values)) (items_view l.values)

abbrev pub invariant-pairs_size-loop-entry : goal.invariant-pairs_size-loop-entry
invariant-pairs_size-loop-entry l = SizingPairs l.total (pairs_view (drop l.entry-index l.entries)) (pairs_view l.entries)

abbrev pub decreases-value_size : goal.decreases-value_size
decreases-value_size l = 2 * weight (view l.value.now)

abbrev pub decreases-described_size : goal.decreases-described_size
decreases-described_size l = 2 * (weight l.described.now.0 + weight l.described.now.1) + 1

abbrev pub decreases-list_size : goal.decreases-list_size
decreases-list_size l = 2 * items_weight (items_view l.values.now) + 1

abbrev pub decreases-items_size : goal.decreases-items_size
decreases-items_size l = 2 * items_weight (items_view l.values.now)

abbrev pub decreases-map_size : goal.decreases-map_size
decreases-map_size l = 2 * pairs_weight (pairs_view l.entries.now) + 1

abbrev pub decreases-entry_size : goal.decreases-entry_size
decreases-entry_size l = 2 * (weight (view l.entry.now.key) + weight (view l.entry.now.value)) + 1

abbrev pub decreases-pairs_size : goal.decreases-pairs_size
decreases-pairs_size l = 2 * pairs_weight (pairs_view l.entries.now)

use Rattle.std.proofs.Common.{◌+◌, ◌*◌, drop}
use Rattle.amqp_data.specs.Trees.{weight, items_weight, pairs_weight}
use Rattle.amqp_data.specs.View.{view, items_view, pairs_view}
use Rattle.amqp_value.proofs.Written.{GoingItems, GoingPairs}
use Rattle.amqp_value.proofs.writing.+write.Given as goal

abbrev pub invariant-put_items-loop-value : goal.invariant-put_items-loop-value
invariant-put_items-loop-value l = GoingItems l.initial.out l.out (items_view (drop l.value-index l.values)) (items_view l.values)

abbrev pub invariant-put_pairs-loop-entry : goal.invariant-put_pairs-loop-entry
invariant-put_pairs-loop-entry l = GoingPairs l.initial.out l.out (pairs_view (drop l.entry-index l.entries)) (pairs_view l.entries)

abbrev pub decreases-put_value : goal.decreases-put_value
decreases-put_value l = 2 * weight (view l.value.now)

abbrev pub decreases-put_described : goal.decreases-put_described
decreases-put_described l = 2 * (weight l.described.now.0 + weight l.described.now.1) + 1

abbrev pub decreases-put_list : goal.decreases-put_list
decreases-put_list l = 2 * items_weight (items_view l.values.now) + 1

abbrev pub decreases-put_items : goal.decreases-put_items
decreases-put_items l = 2 * items_weight (items_view l.values.now)

abbrev pub decreases-put_map : goal.decreases-put_map
decreases-put_map l = 2 * pairs_weight (pairs_view l.entries.now) + 1

abbrev pub decreases-put_pairs : goal.decreases-put_pairs
decreases-put_pairs l = 2 * pairs_weight (pairs_view l.entries.now)

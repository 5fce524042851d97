use Rattle.std.proofs.Common.{◌≡◌, drop}
use Rattle.amqp_data.specs.View.{items_view, pairs_view}
use Rattle.amqp_data.specs.Same.{same_items, same_pairs}
use Rattle.amqp_data.proofs.same.+same.Given as goal

abbrev pub invariant-same_slices-loop-i : goal.invariant-same_slices-loop-i
invariant-same_slices-loop-i l = same_items (items_view (drop l.i l.a)) (items_view (drop l.i l.b)) ≡ same_items (items_view l.a) (items_view l.b)

abbrev pub invariant-same_entries-loop-i : goal.invariant-same_entries-loop-i
invariant-same_entries-loop-i l = same_pairs (pairs_view (drop l.i l.a)) (pairs_view (drop l.i l.b)) ≡ same_pairs (pairs_view l.a) (pairs_view l.b)

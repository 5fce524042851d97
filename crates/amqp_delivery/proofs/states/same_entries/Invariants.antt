use Rattle.std.proofs.Common.{◌≡◌, drop}
use Rattle.amqp_data.specs.View.{pairs_view}
use Rattle.amqp_data.specs.Same.{same_pairs}
use Rattle.amqp_delivery.proofs.states.same_entries.Given as goal

abbrev pub invariant-loop-i : goal.invariant-loop-i
invariant-loop-i l = same_pairs (pairs_view (drop l.i l.left)) (pairs_view (drop l.i l.right)) ≡ same_pairs (pairs_view l.left) (pairs_view l.right)

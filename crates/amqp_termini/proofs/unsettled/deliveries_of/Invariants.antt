use Rattle.std.proofs.Common.{◌≡◌, length}
use Rattle.std.specs.Vec.Iter.{into_iter_items}
use Rattle.amqp_composites.specs.amqp_data.View.{pairs_view}
use Rattle.amqp_termini.specs.Unsettled.{deliveries_in}
use Rattle.amqp_termini.proofs.Deliveries.{with_front}
use Rattle.amqp_termini.proofs.unsettled.deliveries_of.Given as goal

abbrev pub invariant-loop-entry : goal.invariant-loop-entry
invariant-loop-entry l = with_front l.deliveries.items (deliveries_in (pairs_view (into_iter_items l.left))) ≡ deliveries_in (pairs_view (into_iter_items l.initial.left))

abbrev pub decreases-loop-entry : goal.decreases-loop-entry
decreases-loop-entry l = length (into_iter_items l.left)

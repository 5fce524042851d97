use Rattle.std.proofs.Common.{◌≡◌, take}
use Rattle.amqp_composites.specs.amqp_data.View.{pairs_view}
use Rattle.amqp_termini.specs.Unsettled.{pairs_of, AreStatesValid}
use Rattle.amqp_termini.proofs.unsettled.entries_of.Given as goal

abbrev pub invariant-loop-delivery : goal.invariant-loop-delivery
invariant-loop-delivery l = (pairs_view l.entries.items ≡ pairs_of (take l.delivery-index l.deliveries)) × AreStatesValid (take l.delivery-index l.deliveries)

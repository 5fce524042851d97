use Rattle.std.proofs.Common.{drop}
use Rattle.amqp_termini.specs.Unsettled.{pairs_of}
use Rattle.amqp_sizes.proofs.Pairs.{SizingPairs}
use Rattle.amqp_sizes.proofs.maps.deliveries_size.Given as goal

abbrev pub invariant-loop-delivery : goal.invariant-loop-delivery
invariant-loop-delivery l = SizingPairs l.total l.levels (pairs_of (drop l.delivery-index l.deliveries)) (pairs_of l.deliveries)

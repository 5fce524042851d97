use Rattle.std.proofs.Common.{drop}
use Rattle.amqp_data.specs.View.{pairs_view}
use Rattle.amqp_sizes.proofs.Pairs.{SizingPairs}
use Rattle.amqp_sizes.proofs.maps.entries_size.Given as goal

abbrev pub invariant-loop-entry : goal.invariant-loop-entry
invariant-loop-entry l = SizingPairs l.total l.levels (pairs_view (drop l.entry-index l.entries)) (pairs_view l.entries)

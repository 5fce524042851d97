use Rattle.std.proofs.Common.{◌≡◌, ◌+◌, drop}
use Rattle.std.specs.Prelude.{min}
use Rattle.book_history.specs.Counts.{handed_count}
use Rattle.book_history.proofs.counts.count_settled_in.Given as goal

abbrev pub invariant-loop-entry : goal.invariant-loop-entry
invariant-loop-entry l = min (l.count + handed_count (drop l.entry-index l.history.events)) 18446744073709551615 ≡ min (handed_count l.history.events) 18446744073709551615

use Rattle.std.proofs.Common.{◌≡◌, ◌+◌, drop, ◌≤◌}
use Rattle.book_history.specs.Counts.{accept_count}
use Rattle.book_history.proofs.counts.count_accepts.Given as goal

abbrev pub invariant-loop-entry : goal.invariant-loop-entry
invariant-loop-entry l = record {
  counted : l.count + accept_count (drop l.entry-index l.entries) ≡ accept_count l.entries;
  few : l.count ≤ l.entry-index;
}

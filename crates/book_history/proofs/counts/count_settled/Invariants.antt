use Rattle.std.proofs.Common.{◌≡◌, ◌+◌, drop, ◌≤◌}
use Rattle.book_history.specs.Counts.{settled_count}
use Rattle.book_history.proofs.counts.count_settled.Given as goal

abbrev pub invariant-loop-order : goal.invariant-loop-order
invariant-loop-order l = record {
  counted : l.count + settled_count (drop l.order-index l.orders) ≡ settled_count l.orders;
  few : l.count ≤ l.order-index;
}

use Rattle.std.proofs.Common.{◌≡◌, ◌+◌, ◌-◌, ◌*◌, ◌^◌, ◌≤◌, length}
use Rattle.amqp_delivery.specs.Search.{IsSearch}
use Rattle.amqp_delivery.proofs.search.find_range.Given as goal

abbrev pub invariant-loop-search : goal.invariant-loop-search
invariant-loop-search g l = record {
  search : IsSearch l.ranges l.attachment l.number l.search;
  began : l.fn.steps ≤ l.steps;
  left : 2 ^ (l.steps - l.fn.steps) * (l.search.high - l.search.low) ≤ length l.ranges;
  cost : 2 ^ (l.steps - l.fn.steps) ≤ 2 * length l.ranges + 1;
}

abbrev pub decreases-loop-search : goal.decreases-loop-search
decreases-loop-search g l = l.search.high - l.search.low

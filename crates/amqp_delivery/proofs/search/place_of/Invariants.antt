use Rattle.std.proofs.Common.{◌-◌}
use Rattle.amqp_delivery.specs.Search.{IsSearch}
use Rattle.amqp_delivery.proofs.search.place_of.Given as goal

abbrev pub invariant-loop-search : goal.invariant-loop-search
invariant-loop-search l = IsSearch l.ranges l.attachment l.number l.search

abbrev pub decreases-loop-search : goal.decreases-loop-search
decreases-loop-search l = l.search.high - l.search.low

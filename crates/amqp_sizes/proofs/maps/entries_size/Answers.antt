use Rattle.amqp_data.specs.View.{pairs_view}
use Rattle.amqp_value.proofs.Rest.{rest_pairs, no_rest_pairs}
use Rattle.amqp_sizes.proofs.Pairs.{pair_stops, pairs_long, pairs_go, pairs_end}
use Rattle.amqp_sizes.proofs.maps.entries_size.Goals as goal

pub returns-in_err-size : goal.returns-in_err-size
returns-in_err-size c =
    rw c.from_residual.ensures (pair_stops c.loop-entry.total c.args.levels _ _ _ _ (pairs_view c.args.entries.now) (rest_pairs c.args.entries.now c.loop-entry.entry-index c.entry-item.result c.loop-entry-test.true c.entry-item.is) c.loop-entry.invariant c.in_err-size.ensures)

pub returns-in_err-total : goal.returns-in_err-total
returns-in_err-total c =
    rw c.from_residual-in_err-total.ensures
    (pairs_long c.loop-entry.total c.in_ok-size.size c.args.levels _ _ _ _ (pairs_view c.args.entries.now) (rest_pairs c.args.entries.now c.loop-entry.entry-index c.entry-item.result c.loop-entry-test.true c.entry-item.is) c.loop-entry.invariant c.in_ok-size.ensures c.in_err-total.ensures.none)

pub loop-entry-preserved : goal.loop-entry-preserved
loop-entry-preserved c =
    pairs_go c.loop-entry.total c.in_ok-size.size c.in_ok-total.total c.args.levels _ _ _ _ (pairs_view c.args.entries.now) (rest_pairs c.args.entries.now c.loop-entry.entry-index c.entry-item.result c.loop-entry-test.true c.entry-item.is) c.loop-entry.invariant c.in_ok-size.ensures c.in_ok-total.ensures.some.0 c.in_ok-total.ensures.some.1

pub returns : goal.returns
returns c = pairs_end c.loop-entry.total c.args.levels _ (pairs_view c.args.entries.now) (no_rest_pairs c.args.entries.now c.loop-entry.entry-index c.loop-entry-test.false) c.loop-entry.invariant

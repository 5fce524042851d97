use Rattle.amqp_termini.specs.Unsettled.{pairs_of}
use Rattle.amqp_sizes.proofs.Pairs.{rest_deliveries, no_rest_deliveries, pair_stops, pairs_long, pairs_go, pairs_end}
use Rattle.amqp_sizes.proofs.maps.deliveries_size.Goals as goal

pub returns-in_err-size : goal.returns-in_err-size
returns-in_err-size c =
    rw c.from_residual.ensures (pair_stops c.loop-delivery.total c.args.levels _ _ _ _ (pairs_of c.args.deliveries.now) (rest_deliveries c.args.deliveries.now c.loop-delivery.delivery-index c.delivery-item.result c.loop-delivery-test.true c.delivery-item.is) c.loop-delivery.invariant c.in_err-size.ensures)

pub returns-in_err-total : goal.returns-in_err-total
returns-in_err-total c =
    rw c.from_residual-in_err-total.ensures
    (pairs_long c.loop-delivery.total c.in_ok-size.size c.args.levels _ _ _ _ (pairs_of c.args.deliveries.now) (rest_deliveries c.args.deliveries.now c.loop-delivery.delivery-index c.delivery-item.result c.loop-delivery-test.true c.delivery-item.is) c.loop-delivery.invariant c.in_ok-size.ensures c.in_err-total.ensures.none)

pub loop-delivery-preserved : goal.loop-delivery-preserved
loop-delivery-preserved c =
    pairs_go c.loop-delivery.total c.in_ok-size.size c.in_ok-total.total c.args.levels _ _ _ _ (pairs_of c.args.deliveries.now) (rest_deliveries c.args.deliveries.now c.loop-delivery.delivery-index c.delivery-item.result c.loop-delivery-test.true c.delivery-item.is) c.loop-delivery.invariant c.in_ok-size.ensures c.in_ok-total.ensures.some.0 c.in_ok-total.ensures.some.1

pub returns : goal.returns
returns c = pairs_end c.loop-delivery.total c.args.levels _ (pairs_of c.args.deliveries.now) (no_rest_deliveries c.args.deliveries.now c.loop-delivery.delivery-index c.loop-delivery-test.false) c.loop-delivery.invariant

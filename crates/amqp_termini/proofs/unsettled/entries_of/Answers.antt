use Rattle.amqp_termini.proofs.Deliveries.{next_made, next_valid}
use Rattle.amqp_termini.proofs.unsettled.entries_of.Goals as goal

pub loop-delivery-preserved : goal.loop-delivery-preserved
loop-delivery-preserved c =
    rw c.in_ok-push.ensures.items (
      next_made c.args.deliveries.now c.loop-delivery.delivery-index c.delivery-item.result c.loop-delivery.entries.items _ c.loop-delivery-test.true c.delivery-item.is c.loop-delivery.invariant.0 c.in_ok-key.ensures.value c.in_ok-value.ensures.value,
      next_valid c.args.deliveries.now c.loop-delivery.delivery-index c.delivery-item.result c.loop-delivery-test.true c.delivery-item.is c.loop-delivery.invariant.1 c.in_ok-value.ensures.valid,
    )

use Rattle.std.proofs.Common.{List, ℕ, sym, ap, ◌∙◌}
use Rattle.std.specs.Str.{bytes_eq}
use Rattle.amqp_termini.specs.declared.unsettled.UnsettledDelivery.{UnsettledDelivery}
use Rattle.amqp_termini.specs.Unsettled.{state_of}
use Rattle.amqp_termini.proofs.Deliveries.{found, passed, not_found}
use Rattle.amqp_termini.proofs.unsettled.UnsettledMap.get.Goals as goal

pub loop-delivery-init : goal.loop-delivery-init
loop-delivery-init c = ap (λ (us : List UnsettledDelivery). state_of c.args.delivery_tag.now us) (c.deref-delivery-items.ensures.value ∙ c.self.view_is)

pub returns-then-eq : goal.returns-then-eq
returns-then-eq c =
    found c.args.delivery_tag.now c.deref-delivery-items.result.now c.loop-delivery.delivery-index c.delivery-item.result _ c.loop-delivery-test.true c.delivery-item.is c.loop-delivery.invariant
    (ap (λ (s : List ℕ). bytes_eq s c.args.delivery_tag.now) (sym c.as_slice.ensures) ∙ sym c.eq.ensures ∙ c.if-eq.true)

pub loop-delivery-preserved : goal.loop-delivery-preserved
loop-delivery-preserved c =
    passed c.args.delivery_tag.now c.deref-delivery-items.result.now c.loop-delivery.delivery-index c.delivery-item.result _ c.loop-delivery-test.true c.delivery-item.is c.loop-delivery.invariant
    (ap (λ (s : List ℕ). bytes_eq s c.args.delivery_tag.now) (sym c.as_slice.ensures) ∙ sym c.eq.ensures ∙ c.if-eq.false)

pub returns : goal.returns
returns c = not_found c.args.delivery_tag.now c.deref-delivery-items.result.now c.loop-delivery.delivery-index _ c.loop-delivery-test.false c.loop-delivery.invariant

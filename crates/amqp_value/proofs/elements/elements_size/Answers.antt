use Rattle.std.proofs.Common.{Some, None, subst, arith}
use Rattle.amqp_value.specs.Writing.{MeasuresElement}
use Rattle.amqp_value.specs.declared.code.SizeWidth.{SizeWidth}
use Rattle.amqp_data.specs.View.{view}
use Rattle.amqp_value.proofs.ArrayItems.{elements_go, element_stops, elements_end}
use Rattle.amqp_value.proofs.elements.elements_size.Goals as goal

pub returns-in_err-size : goal.returns-in_err-size
returns-in_err-size c =
    rw c.from_residual.ensures (element_stops c.args.code c.loop-value.total c.args.values.now c.loop-value.value-index c.value-item.result c.loop-value-test.true c.value-item.is c.loop-value.invariant (subst (λ (w : SizeWidth). MeasuresElement w None (view c.value-item.result)) c.width.ensures c.in_err-size.ensures))

pub loop-value-preserved : goal.loop-value-preserved
loop-value-preserved c =
    elements_go c.args.code c.loop-value.total c.in_ok-size.size c.args.values.now c.loop-value.value-index c.value-item.result c.loop-value-test.true c.value-item.is c.loop-value.invariant (subst (λ (w : SizeWidth). MeasuresElement w (Some c.in_ok-size.size) (view c.value-item.result)) c.width.ensures c.in_ok-size.ensures) (omega (arith, c.if-size-total.false))

pub returns : goal.returns
returns c = elements_end c.args.code c.loop-value.total c.args.values.now c.loop-value.value-index (omega arith) c.loop-value.invariant

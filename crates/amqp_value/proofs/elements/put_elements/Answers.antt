use Rattle.std.proofs.Common.{arith}
use Rattle.amqp_value.proofs.ArrayItems.{element_put, elements_put}
use Rattle.amqp_value.proofs.elements.put_elements.Goals as goal

pub loop-value-preserved : goal.loop-value-preserved
loop-value-preserved c =
    element_put c.args.code c.args.out.now c.loop-value.out c.put_element.new.out c.args.values.now c.loop-value.value-index c.value-item.result c.loop-value-test.true c.value-item.is c.loop-value.invariant (rw c.width.ensures at c.in_ok-put_element.ensures)

pub returns : goal.returns
returns c = elements_put c.args.code c.args.out.now c.loop-value.out c.args.values.now c.loop-value.value-index (omega arith) c.loop-value.invariant

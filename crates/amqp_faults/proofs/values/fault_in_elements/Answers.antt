use Rattle.std.proofs.Common.{◌≡◌, arith}
use Rattle.amqp_faults.specs.Faults.{element_past, in_element, more_elements}
use Rattle.amqp_faults.proofs.Made.{left_values}
use Rattle.amqp_faults.proofs.values.fault_in_elements.Goals as goal

pub returns-in-Err-clause-wrong : goal.returns-in-Err-clause-wrong
returns-in-Err-clause-wrong c =
    rw c.within_block.ensures (in_element c.args.depth c.args.layout c.args.count c.elements.counter c.args.elements.now c.elements.rest.now c.in-Err.reason c.elements-test.true c.elements.invariant.0 c.in-Err.ensures)

pub returns-clause-wrong : goal.returns-clause-wrong
returns-clause-wrong c =
    let all : c.elements.counter ≡ c.args.count = omega arith in
    rw c.whole.ensures (more_elements c.args.depth c.args.layout c.args.count c.args.elements.now c.elements.rest.now (left_values (element_past c.args.depth c.args.layout) c.args.count c.elements.counter c.args.elements.now c.elements.rest.now all c.elements.invariant.0) (omega arith))

use Rattle.amqp_body_faults.specs.Bodies.{no_value}
use Rattle.amqp_body_faults.proofs.body.body_fault.Goals as goal

pub returns-in-Some-clause-wrong : goal.returns-in-Some-clause-wrong
returns-in-Some-clause-wrong c =
    let found = rw c.in-Some.is at c.in_ok-fault.ensures in
    no_value c.args.input.now c.in-Some.fault.offset c.in-Some.fault.reason found.wrong

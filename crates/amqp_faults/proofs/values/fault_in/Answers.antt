use Rattle.std.proofs.Common.{arith}
use Rattle.amqp_faults.proofs.Made.{has_front, no_front}
use Rattle.amqp_faults.proofs.values.fault_in.Goals as goal

pub returns-in-Some : goal.returns-in-Some
returns-in-Some c =
    let rest = rw c.in-Some.is at c.in_ok-past.ensures in
    has_front c.args.levels c.args.input.now c.in-Some.field-0.now (λ i. omega (arith, c.type_inv.input i)) rest.0

pub returns-in_ok-fault-in-None : goal.returns-in_ok-fault-in-None
returns-in_ok-fault-in-None c =
    let none = rw c.in-None.is at c.in_ok-past.ensures in
    record { wrong = c.in_ok-fault-in-None.ensures.wrong; within = c.in_ok-fault-in-None.ensures.within; none = no_front c.args.levels c.args.input.now none }

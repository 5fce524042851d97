use Rattle.std.proofs.Common.{◌+◌, ◌-◌, ◌<◌, length, refl, arith}
use Rattle.amqp_message_faults.proofs.Walked.{starts, goes_on, all_walked, is_wrong, none_left}
use Rattle.amqp_message_faults.proofs.message.fault_among.Goals as goal

pub sections-init : goal.sections-init
sections-init c = starts c.args.input.now

pub returns-in-Wrong-clause-wrong : goal.returns-in-Wrong-clause-wrong
returns-in-Wrong-clause-wrong c =
    let found = rw c.in-Wrong.is at c.in_ok-fault.ensures in
    let some : 0 < length c.sections.rest.now = grind (arith, c.sections-test.ensures, c.is_empty.ensures, c.sections-test.true) in
    is_wrong c.args.input.now c.sections.rest.now c.sections.last c.in-Wrong.fault.offset (length c.args.input.now - length c.sections.rest.now + c.in-Wrong.fault.offset) c.in-Wrong.fault.reason c.sections.invariant some found.0 refl

pub sections-preserved : goal.sections-preserved
sections-preserved c =
    let found = rw c.in-Section.is at c.in_ok-fault.ensures in
    rw c.split_at.ensures.back (goes_on c.args.input.now c.sections.rest.now c.sections.last c.in-Section.kind c.in-Section.used c.sections.invariant found)

pub unreachable-requires : goal.unreachable-requires
unreachable-requires c =
    let none = none_left c.sections.rest.now (grind (arith, c.sections-test.ensures, c.is_empty.ensures, c.sections-test.false)) in
    all_walked c.args.input.now c.sections.rest.now c.sections.last c.sections.invariant none c.requires

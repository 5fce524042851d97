use Rattle.std.proofs.Common.{arith, length, take, drop, ◌-◌}
use Rattle.std.proofs.lemmas.List.{length-take}
use Rattle.amqp_conversation.specs.Why.{amqp'}
use Rattle.amqp_conversation.proofs.why.amqp_fault.Goals as goal

pub behind-requires : goal.behind-requires
behind-requires c =
    let found = rw c.in-Some.is at c.in_ok-fault.ensures in
    omega (arith, found.within, length-take (c.args.size - c.args.start) (drop c.args.start c.args.bytes.now), c.requires.order, c.ranges.size)

pub returns-in-Some : goal.returns-in-Some
returns-in-Some c =
    let found = rw c.in-Some.is at c.in_ok-fault.ensures in
    rw c.behind.ensures (amqp' c.args.bytes.now c.args.start c.args.size c.in-Some.fault c.requires found)

use Rattle.std.proofs.Common.{◌≡◌, ◌+◌, ◌-◌, ◌≤◌, length, ap, ◌∙◌, arith}
use Rattle.amqp_delivery.specs.Ranges.{pairs_in}
use Rattle.amqp_delivery.proofs.Parting.{fewer_ranges}
use Rattle.amqp_delivery.proofs.Sizes.{removed_fewer}
use Rattle.amqp_delivery.proofs.ranges.RangeList.remove.Goals as goal

pub take_out-requires-clause-room : goal.take_out-requires-clause-room
take_out-requires-clause-room c = let fewer = fewer_ranges c.self.inside.ranges.items c.self.invariant.0 in search (arith, fewer, c.self.invariant.1)

pub invariant_of-self : goal.invariant_of-self
invariant_of-self c =
    let fewer = removed_fewer (c.args.attachment, c.args.number) (pairs_in c.self.inside.ranges.items) in
    let size = ap length c.take_out.ensures.pairs in
    (c.take_out.ensures.runs, omega (arith, fewer, size, c.self.invariant.1, c.take_out.ensures.room))

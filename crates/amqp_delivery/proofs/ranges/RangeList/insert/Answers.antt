use Rattle.std.proofs.Common.{◌≡◌, ◌+◌, ◌-◌, ◌≤◌, length, ap, ◌∙◌, arith}
use Rattle.amqp_delivery.specs.Ranges.{pairs_in}
use Rattle.amqp_delivery.proofs.Sizes.{inserted_more}
use Rattle.amqp_delivery.proofs.ranges.RangeList.insert.Goals as goal

pub invariant_of-self : goal.invariant_of-self
invariant_of-self c =
    let more = inserted_more (c.args.attachment, c.args.number) (pairs_in c.self.inside.ranges.items) in
    let size = ap length c.put.ensures.pairs in
    (c.put.ensures.runs, search (arith, more, size, c.requires, c.self.view_is, c.put.ensures.room))

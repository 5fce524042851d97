use Rattle.std.proofs.Common.{sym, ◌∙◌, arith}
use Rattle.amqp_delivery.proofs.Joining.{added_met}
use Rattle.amqp_delivery.proofs.ranges.add_at.Goals as goal

pub returns-then-do_meet-clause-added : goal.returns-then-do_meet-clause-added
returns-then-do_meet-clause-added c =
    added_met c.args.ranges.now.items c.args.place c.args.range c.index.result.now c.index-then-do_meet.result.now (search (arith, c.if-place-len.true)) c.index.ensures c.index-then-do_meet.ensures (sym c.do_meet.ensures ∙ c.if-do_meet.true)

use Rattle.std.proofs.Common.{◌≡◌, ◌+◌, ◌-◌, ◌<◌, ◌≤◌, sym, ◌∙◌, arith, inl, inr}
use Rattle.amqp_delivery.proofs.Joining.{none_joined, joined_apart, joined_met}
use Rattle.amqp_delivery.proofs.ranges.join_at.Goals.{then-place-eq0-via-then-place-eq0, then-place-eq0-via-else-place-eq0+then-place-len}
use Rattle.amqp_delivery.proofs.ranges.join_at.Goals as goal

pub returns-then-place-eq0-clause-joined : goal.returns-then-place-eq0-clause-joined
returns-then-place-eq0-clause-joined c =
    none_joined c.args.ranges.now.items c.args.place (elim c.then-place-eq0.branch [
      | then-place-eq0-via-then-place-eq0 w ↦ inl (search (arith, w.if-place-eq0.true))
      | then-place-eq0-via-else-place-eq0+then-place-len w ↦ inr (search (arith, w.if-place-len.true, w.len.ensures))
    ])

pub returns-then-do_meet-clause-joined : goal.returns-then-do_meet-clause-joined
returns-then-do_meet-clause-joined c =
    joined_met c.args.ranges.now.items c.args.place c.index.result.now c.index-2.result.now c.remove-after.result (search (arith, c.if-place-eq0.false)) (search (arith, c.if-place-len.false)) c.index.ensures c.index-2.ensures c.remove-after.ensures.value (sym c.do_meet.ensures ∙ c.if-do_meet.true) _ c.remove-after.ensures.items

pub returns-else-do_meet-clause-joined : goal.returns-else-do_meet-clause-joined
returns-else-do_meet-clause-joined c =
    joined_apart c.args.ranges.now.items c.args.place c.index.result.now c.index-2.result.now (search (arith, c.if-place-eq0.false)) (search (arith, c.if-place-len.false)) c.index.ensures c.index-2.ensures (sym c.do_meet.ensures ∙ c.if-do_meet.false)

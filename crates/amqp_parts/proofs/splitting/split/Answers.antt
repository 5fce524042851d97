use Rattle.amqp_parts.proofs.Parts.{begins, goes_on, goes_out, all_bytes, size_less}
use Rattle.amqp_parts.proofs.splitting.split.Goals as goal

pub loop-left-init : goal.loop-left-init
loop-left-init c = rw (c.in_ok-push.ensures.items, c.new-parts.ensures.items) (begins c.args.max_frame c.args.transfer c.args.payload c.in_ok-first.field-0 c.in_ok-first.ensures)

pub loop-left-smaller : goal.loop-left-smaller
loop-left-smaller c = size_less c.args.max_frame c.loop-left.left c.in-Some.part c.in_ok-first-2.field-0 c.in-Some.is (rw (← c.into_parts-transfer.ensures.0, ← c.into_parts-transfer.ensures.1) c.in_ok-first-2.ensures)

pub loop-left-preserved : goal.loop-left-preserved
loop-left-preserved c = rw c.in_ok-push-2.ensures.items (goes_on c.args.max_frame c.args.transfer c.args.payload c.loop-left.parts.items c.loop-left.left c.in-Some.part c.in_ok-first-2.field-0 c.loop-left.invariant c.in-Some.is (rw (← c.into_parts-transfer.ensures.0, ← c.into_parts-transfer.ensures.1) c.in_ok-first-2.ensures))

pub returns-clause-parts : goal.returns-clause-parts
returns-clause-parts c = goes_out c.args.max_frame c.args.transfer c.args.payload c.loop-left.parts.items c.loop-left.left c.loop-left.invariant c.in_default.not-Some

pub returns-clause-bytes : goal.returns-clause-bytes
returns-clause-bytes c = all_bytes c.args.max_frame c.args.transfer c.args.payload c.loop-left.parts.items (goes_out c.args.max_frame c.args.transfer c.args.payload c.loop-left.parts.items c.loop-left.left c.loop-left.invariant c.in_default.not-Some)

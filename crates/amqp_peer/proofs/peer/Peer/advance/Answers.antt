use Rattle.std.proofs.Common.{sym}
use Rattle.amqp_peer.proofs.Hands.{worked_hands, pending_hands, stopped_hands, failed_hands}
use Rattle.amqp_peer.proofs.Turns.{worked_step, pending_step, stopped_step, failed_step}
use Rattle.amqp_peer.proofs.peer.Peer.advance.Goals as goal

pub returns-in_ok-greet-in-Ok-Worked-clause-more : goal.returns-in_ok-greet-in-Ok-Worked-clause-more
returns-in_ok-greet-in-Ok-Worked-clause-more g c =
    let st = rw c.in-Ok-Worked.field-0-is at c.in-Ok-Worked.ensures.stepped in
    λ e. rw (c.in_ok-greet-in-Ok-Worked.ensures.ok, ← c.self.view_is) (worked_step g.L.Link c.args.at _ c.step.new.self st)

pub returns-in-Ok-Pending-clause-rests : goal.returns-in-Ok-Pending-clause-rests
returns-in-Ok-Pending-clause-rests g c =
    let st = rw c.in-Ok-Pending.field-0-is at c.in-Ok-Pending.ensures.stepped in
    λ e. rw (← c.self.view_is) (pending_step g.L.Link c.args.at _ c.step.new.self st)

pub returns-in_ok-conclude-in-Ok-Stopped-clause-rests : goal.returns-in_ok-conclude-in-Ok-Stopped-clause-rests
returns-in_ok-conclude-in-Ok-Stopped-clause-rests g c =
    let st = rw c.in-Ok-Stopped.field-0-is at c.in-Ok-Stopped.ensures.stepped in
    λ e. rw (c.in_ok-conclude-in-Ok-Stopped.ensures.ok, ← c.self.view_is) (stopped_step g.L.Link c.args.at _ c.step.new.self st)

pub returns-in_ok-error-in-Err-clause-more : goal.returns-in_ok-error-in-Err-clause-more
returns-in_ok-error-in-Err-clause-more g c =
    λ e. rw (c.note.ensures, ← c.self.view_is) (failed_step g.L.Link c.args.at _ c.step.new.self c.in-Err.error c.in_ok-error-in-Err.error c.in-Err.ensures.stepped (sym c.in_ok-error-in-Err.ensures))

pub returns-in_ok-greet-in-Ok-Worked-clause-hands : goal.returns-in_ok-greet-in-Ok-Worked-clause-hands
returns-in_ok-greet-in-Ok-Worked-clause-hands g c =
    let st = rw c.in-Ok-Worked.field-0-is at c.in-Ok-Worked.ensures.stepped in
    λ e. rw (c.in_ok-greet-in-Ok-Worked.ensures.ok, ← c.self.view_is) (worked_hands g.L.Link c.args.at _ c.step.new.self st)

pub returns-in-Ok-Pending-clause-hands_last : goal.returns-in-Ok-Pending-clause-hands_last
returns-in-Ok-Pending-clause-hands_last g c =
    let st = rw c.in-Ok-Pending.field-0-is at c.in-Ok-Pending.ensures.stepped in
    λ e. rw (← c.self.view_is) (pending_hands g.L.Link c.args.at _ c.step.new.self st)

pub returns-in_ok-conclude-in-Ok-Stopped-clause-hands_last : goal.returns-in_ok-conclude-in-Ok-Stopped-clause-hands_last
returns-in_ok-conclude-in-Ok-Stopped-clause-hands_last g c =
    let st = rw c.in-Ok-Stopped.field-0-is at c.in-Ok-Stopped.ensures.stepped in
    λ e. rw (c.in_ok-conclude-in-Ok-Stopped.ensures.ok, ← c.self.view_is) (stopped_hands g.L.Link c.args.at _ c.step.new.self st)

pub returns-in_ok-error-in-Err-clause-hands : goal.returns-in_ok-error-in-Err-clause-hands
returns-in_ok-error-in-Err-clause-hands g c =
    λ e. rw (c.note.ensures, ← c.self.view_is) (failed_hands g.L.Link c.args.at _ c.step.new.self c.in-Err.error c.in_ok-error-in-Err.error c.in-Err.ensures.stepped (sym c.in_ok-error-in-Err.ensures))

use Rattle.sasl_gate.proofs.GateSteps.{body_taken, failed_body}
use Rattle.sasl_gate.proofs.gate.negotiation.Negotiation.take_body.Goals as goal

pub returns-in-Ok-Taken-clause-stepped : goal.returns-in-Ok-Taken-clause-stepped
returns-in-Ok-Taken-clause-stepped g c =
    let phase = rw (← c.self.view_is) at c.requires.phase in
    let f = rw (← c.self.view_is) at c.requires.frame in
    let taken = rw c.in-Ok-Taken.field-0-is at c.in-Ok-Taken.ensures.taken in
    let same = rw c.in-Ok-Taken.field-0-is at c.in-Ok-Taken.ensures.same in
    λ left. rw (← c.self.view_is, c.take_frame.ensures) (body_taken g.L.Link g.X.Exchange _ c.on_body.new.self left c.args.size f.0 f.1 c.args.body phase same f.2 f.3 taken)

pub returns-in-Ok-Refused-clause-stepped : goal.returns-in-Ok-Refused-clause-stepped
returns-in-Ok-Refused-clause-stepped g c =
    let phase = rw (← c.self.view_is) at c.requires.phase in
    let f = rw (← c.self.view_is) at c.requires.frame in
    let turn = rw (← c.self.view_is) at c.requires.turn in
    let out = rw (← c.self.view_is) at c.requires.flushed in
    let refused = rw c.in-Ok-Refused.field-0-is at c.in-Ok-Refused.ensures.refused in
    let kept = rw c.in-Ok-Refused.field-0-is at c.in-Ok-Refused.ensures.kept in
    λ left. rw (← c.self.view_is, c.fail.ensures.failed, c.fail.ensures.ends, kept) (failed_body g.L.Link g.X.Exchange _ left c.in-Ok-Refused.error c.args.body c.args.size f.0 f.1 phase out (g.met.X.Exchange.same_self c.self.inside.exchange) turn f.2 f.3 refused)

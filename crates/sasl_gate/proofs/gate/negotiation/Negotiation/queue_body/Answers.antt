use Rattle.std.proofs.Common.{◌≡◌, ◌∙◌, ◌++◌, ap, List, ℕ}
use Rattle.sasl_gate.specs.Frames.{canonical_of}
use Rattle.amqp_wire.specs.Frame.{frame_of}
use Rattle.sasl_gate.specs.Frames.{sasl_frame}
use Rattle.sasl_gate.proofs.GateSteps.{body_sent}
use Rattle.sasl_gate.proofs.gate.negotiation.Negotiation.queue_body.Goals as goal

pub returns-in-Ok-clause-stepped : goal.returns-in-Ok-clause-stepped
returns-in-Ok-clause-stepped g c =
    let phase = rw (← c.self.view_is) at c.requires.phase in
    let owed = rw (← c.self.view_is) at c.requires.owed in
    let bytes : c.as_slice.result.now ≡ canonical_of owed.0 = c.as_slice.ensures ∙ owed.2 in
    let queued : c.queue_frame.new.self ≡ record c.self.inside.codec { output = c.self.inside.codec.output ++ sasl_frame owed.0 } =
    c.in-Ok.ensures.ok ∙ ap (λ (u : List ℕ). record c.self.inside.codec { output = c.self.inside.codec.output ++ frame_of 1 0 u }) bytes in
    λ left. rw (← c.self.view_is) (body_sent g.L.Link g.X.Exchange _ c.on_sent.new.self c.queue_frame.new.self left owed.0 phase c.on_sent.ensures.same queued owed.3
    (λ given sent h. c.on_sent.ensures.grows owed.0 given sent owed.1 h))

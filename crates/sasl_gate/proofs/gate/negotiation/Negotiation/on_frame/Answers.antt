use Rattle.sasl_exchange.specs.declared.error.NegotiationError.TheVariants.{DecodeError}
use Rattle.sasl_gate.proofs.GateSteps.{failed_front}
use Rattle.sasl_gate.proofs.gate.negotiation.Negotiation.on_frame.Goals as goal

pub returns-in-Ok-None-clause-stepped : goal.returns-in-Ok-None-clause-stepped
returns-in-Ok-None-clause-stepped g c =
    let none = rw c.in-Ok-None.field-0-is at c.in-Ok-None.ensures in
    let f = c.requires.frame in
    λ left. rw (c.fail.ensures.failed, c.fail.ensures.ends) (failed_front g.L.Link g.X.Exchange c.args.self.now left DecodeError c.requires.phase (g.met.X.Exchange.same_self c.args.self.now.exchange) c.requires.turn
    (record { size = c.args.size; start = c.args.start; channel = f.0; body = f.1; none = none }))

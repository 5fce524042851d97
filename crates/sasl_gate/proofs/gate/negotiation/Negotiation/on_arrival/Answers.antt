use Rattle.sasl_exchange.specs.declared.error.NegotiationError.TheVariants.{FramingError, NotImplemented}
use Rattle.sasl_gate.proofs.GateSteps.{failed_front}
use Rattle.sasl_gate.proofs.gate.negotiation.Negotiation.on_arrival.Goals as goal

pub returns-in-Refused-clause-arrived : goal.returns-in-Refused-clause-arrived
returns-in-Refused-clause-arrived g c =
    let front = rw c.in-Refused.is at c.requires.front in
    λ left. rw (c.in-Refused.is, c.fail.ensures.failed, c.fail.ensures.ends) (failed_front g.L.Link g.X.Exchange c.args.self.now left FramingError c.requires.phase (g.met.X.Exchange.same_self c.args.self.now.exchange) c.requires.turn front)

pub returns-in-Foreign-clause-arrived : goal.returns-in-Foreign-clause-arrived
returns-in-Foreign-clause-arrived g c =
    let front = rw c.in-Foreign.is at c.requires.front in
    λ left. rw (c.in-Foreign.is, c.fail-in-Foreign.ensures.failed, c.fail-in-Foreign.ensures.ends) (failed_front g.L.Link g.X.Exchange c.args.self.now left NotImplemented c.requires.phase (g.met.X.Exchange.same_self c.args.self.now.exchange) c.requires.turn front)

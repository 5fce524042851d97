use Rattle.sasl_gate.proofs.GateSteps.{failed_overlong}
use Rattle.sasl_gate.proofs.gate.negotiation.Negotiation.send.Goals as goal

pub returns-in-Ok-None-clause-stepped : goal.returns-in-Ok-None-clause-stepped
returns-in-Ok-None-clause-stepped g c =
    let owed = rw c.in-Ok-None.field-0-is at c.in-Ok-None.ensures in
    λ left. rw (c.fail.ensures.failed, c.fail.ensures.ends) (failed_overlong g.L.Link g.X.Exchange c.args.self.now left owed.0 c.requires.phase (g.met.X.Exchange.same_self c.args.self.now.exchange) owed.1 owed.2)

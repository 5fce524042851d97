use Rattle.std.proofs.Common.{ap, sym}
use Rattle.sasl_gate.specs.Negotiation.{Negotiating}
use Rattle.sasl_gate.proofs.GateSteps.{failed_refusal}
use Rattle.sasl_gate.proofs.gate.negotiation.Negotiation.take_turn.Goals as goal

pub returns-in-Refuse-clause-stepped : goal.returns-in-Refuse-clause-stepped
returns-in-Refuse-clause-stepped g c =
    let same = ap (λ (n : Negotiating _ _). n.exchange) c.self.view_is in
    let turn = rw same at (sym c.in-Refuse.ensures) in
    rw (c.fail.ensures.failed, c.fail.ensures.ends) (failed_refusal g.L.Link g.X.Exchange c.args.self.now c.args.reads_left.now c.in-Refuse.code c.requires.phase c.requires.flushed (g.met.X.Exchange.same_self c.args.self.now.exchange)
    (λ given sent h. g.met.X.Exchange.refusal c.args.self.now.exchange c.in-Refuse.code given sent turn h))

use Rattle.std.proofs.Common.{◌≡◌, ◌∙◌, ap, refl, sym, take, List, ℕ, true, false}
use Rattle.sasl_gate.specs.Negotiation.{Negotiating}
use Rattle.sasl_gate.specs.Frames.{sasl_header}
use Rattle.sasl_gate.proofs.GateSteps.{header_taken, header_mismatch}
use Rattle.sasl_gate.proofs.gate.negotiation.Negotiation.on_header.Goals as goal

pub returns-then-not-is_sasl_header-clause-stepped : goal.returns-then-not-is_sasl_header-clause-stepped
returns-then-not-is_sasl_header-clause-stepped g c =
    let same = ap (λ (n : Negotiating _ _). n.codec.input) c.self.view_is in
    let header : c.header-header.result ≡ take 8 c.args.self.now.codec.input = c.header-header.ensures ∙ ap (λ (u : List ℕ). take 8 u) same in
    λ left. rw (c.fail.ensures.failed, c.fail.ensures.ends) (header_mismatch g.L.Link g.X.Exchange c.args.self.now left c.header-header.result c.requires.phase (g.met.X.Exchange.same_self c.args.self.now.exchange) c.requires.whole header
    (λ e. let bad : false ≡ true = c.if-not-is_sasl_header.ensures.1 (c.as_slice.ensures ∙ e) in cc))

pub returns-in-Ok-clause-stepped : goal.returns-in-Ok-clause-stepped
returns-in-Ok-clause-stepped g c =
    let phase = rw (← c.self.view_is) at c.requires.phase in
    let front : take 8 c.self.inside.codec.input ≡ sasl_header = sym c.header-header.ensures ∙ sym c.as_slice.ensures ∙ c.if-not-is_sasl_header.ensures.0 refl in
    λ left. rw (← c.self.view_is, c.in-Ok.ensures.ok) (header_taken g.L.Link g.X.Exchange _ left phase (g.met.X.Exchange.same_self c.self.inside.exchange) front)

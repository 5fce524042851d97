use Rattle.std.proofs.Common.{◌≡◌, ◌∙◌, ap, refl, sym, take, List, ℕ, true, false}
use Rattle.amqp_opening.specs.Opening.{Opened, amqp_header}
use Rattle.amqp_opening.proofs.Openings.{ran_mismatch, ran_exchanged}
use Rattle.amqp_opening.proofs.opening.Opening.on_header.Goals as goal

pub returns-then-not-is_amqp_header : goal.returns-then-not-is_amqp_header
returns-then-not-is_amqp_header g c left =
    let same = ap (λ (o : Opened _ _). o.negotiation.codec.input) c.self.view_is in
    let front : c.header-header.result ≡ take 8 c.args.self.now.negotiation.codec.input = c.header-header.ensures ∙ ap (λ (u : List ℕ). take 8 u) (ap (λ k. k.input) c.codec.ensures ∙ same) in
    rw (c.fail.ensures.ended, c.fail.ensures.result) (ran_mismatch g.L.Link g.X.Exchange c.args.self.now left c.requires.stage (g.met.X.Exchange.same_self c.args.self.now.negotiation.exchange) c.requires.whole
    (λ e. let bad : false ≡ true = c.if-not-is_amqp_header.ensures.1 (c.as_slice.ensures ∙ front ∙ e) in cc))

pub returns-in-Ok : goal.returns-in-Ok
returns-in-Ok g c left =
    let stage = rw (← c.self.view_is) at c.requires.stage in
    let out = rw (← c.self.view_is) at c.requires.flushed in
    let front : take 8 c.self.inside.negotiation.codec.input ≡ amqp_header =
    ap (λ (u : List ℕ). take 8 u) (sym (ap (λ k. k.input) c.codec.ensures)) ∙ sym c.header-header.ensures ∙ sym c.as_slice.ensures ∙ c.if-not-is_amqp_header.ensures.0 refl in
    rw (← c.self.view_is, c.in-Ok.ensures.ok, c.codec_mut.ensures.value) (ran_exchanged g.L.Link g.X.Exchange _ left stage (g.met.X.Exchange.same_self c.self.inside.negotiation.exchange) out front)

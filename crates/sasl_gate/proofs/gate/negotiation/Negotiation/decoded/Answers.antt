use Rattle.std.proofs.Common.{◌≡◌, ◌-◌, ◌∙◌, ap, sym, subst, take, drop, length, List, ℕ}
use Rattle.std.proofs.lemmas.List.{take_rest}
use Rattle.sasl_exchange.specs.amqp_sasl_bodies.SaslBytes.{SpellsSasl}
use Rattle.sasl_gate.specs.Negotiation.{Negotiating}
use Rattle.sasl_gate.proofs.gate.negotiation.Negotiation.decoded.Goals as goal

pub returns-in-Err-Decode : goal.returns-in-Err-Decode
returns-in-Err-Decode g c =
    let none = rw c.in-Err-Decode.field-0-is at c.in-Err-Decode.ensures in
    let frame : c.frame.result.now ≡ take c.args.size c.args.self.now.codec.input = c.frame.ensures ∙ ap (λ (n : Negotiating _ _). take c.args.size n.codec.input) c.self.view_is in
    let cut : take (length c.frame.result.now - c.args.start) (drop c.args.start c.frame.result.now) ≡ drop c.args.start (take c.args.size c.args.self.now.codec.input) =
    take_rest c.frame.result.now c.args.start ∙ ap (λ (u : List ℕ). drop c.args.start u) frame in
    λ x s. none x (subst (λ (u : List ℕ). SpellsSasl u x) (sym cut) s)

use Rattle.std.proofs.Common.{◌≡◌, ◌∙◌, ◌<◌, ap, sym, arith, length, false, true, heap_items}
use Rattle.amqp_engine.specs.Seats.{first_free}
use Rattle.amqp_engine.proofs.Account.{lowest_there, lowest_new}
use Rattle.amqp_engine.proofs.seats.Seats.lowest.Goals as goal

pub returns-in-Some : goal.returns-in-Some
returns-in-Some c =
    let p = c.self.inside in
    let x = c.in-Some.field-0.now in
    let there : first_free p.taken.items ≡ x.0 = (lowest_there (heap_items p.freed) p.taken.items x c.self.invariant.0 c.in-Some.ensures.item.3.0 c.in-Some.ensures.lookup (c.in-Some.ensures.greatest c.self.invariant.1)).1 in
    rw (c.from.ensures, ← c.self.view_is) (sym there)

pub returns-in-None : goal.returns-in-None
returns-in-None c =
    let p = c.self.inside in
    let none : 0 < length (heap_items p.freed) → ⊥ = λ l. let e : false ≡ true = c.in-None.ensures.variant.1 (omega (arith, l, p.freed.data.ok.0)) in cc in
    let new : first_free p.taken.items ≡ length p.taken.items = lowest_new (heap_items p.freed) p.taken.items c.self.invariant.0 none in
    c.len.ensures ∙ p.taken.ok.0 ∙ sym new ∙ ap first_free c.self.view_is

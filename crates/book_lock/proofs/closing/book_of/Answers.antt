use Rattle.std.proofs.Common.{◌≡◌, None, Some, ap, sym, ◌∙◌, subst}
use mathlib.Core.Option.{some-injective}
use Rattle.book_lock.specs.Tickets.{Held}
use Rattle.book_lock.specs.Begins.{Follows, of_seat}
use Rattle.book_lock.proofs.Keeping.{comes_home, held_or}
use Rattle.book_lock.proofs.closing.book_of.Goals as goal

pub unreachable-requires : goal.unreachable-requires
unreachable-requires g c =
    let found = comes_home c.args.table.shared.key c.args.place.id c.args.place.me.0 _ _ c.close_with-closed.ensures.values.2 c.requires.idle.turn c.requires.all in
    let e : None ≡ Some found.0 = sym c.in-None.is ∙ some-injective _ _ (sym c.take-slot.ensures.value ∙ found.1) in
    absurd cc

pub returns-clause-follows : goal.returns-clause-follows
returns-clause-follows g c =
    let found = comes_home c.args.table.shared.key c.args.place.id c.args.place.me.0 _ _ c.close_with-closed.ensures.values.2 c.requires.idle.turn c.requires.all in
    let is : c.in-Some.book ≡ found.0 = ap (held_or found.0) (sym c.in-Some.is ∙ some-injective _ _ (sym c.take-slot.ensures.value ∙ found.1)) in
    subst (λ (x : Held). Follows c.args.place.me.0.front c.args.place.me.0.numbers x.history) (sym is) found.2

pub returns-clause-others : goal.returns-clause-others
returns-clause-others g c n far =
    let found = comes_home c.args.table.shared.key c.args.place.id c.args.place.me.0 _ _ c.close_with-closed.ensures.values.2 c.requires.idle.turn c.requires.all in
    let is : c.in-Some.book ≡ found.0 = ap (held_or found.0) (sym c.in-Some.is ∙ some-injective _ _ (sym c.take-slot.ensures.value ∙ found.1)) in
    ap (λ (x : Held). of_seat n x.history) is ∙ found.3 n far

use Rattle.std.proofs.Common.{◌∙◌, ap, refl}
use Rattle.book_lock.specs.Rule.{first_of, rest_of}
use Rattle.book_lock.proofs.Opening.{from_step}
use Rattle.book_lock.proofs.desk.next_seat.Goals as goal

pub new-requires-clause-numbers : goal.new-requires-clause-numbers
new-requires-clause-numbers g c =
    ap (λ m. m.0.numbers) c.split-place.ensures.other ∙ ap first_of (c.requires.numbers ∙ from_step c.args.number _ c.args.count c.requires.some refl)

pub returns-clause-numbers : goal.returns-clause-numbers
returns-clause-numbers g c =
    ap (λ m. m.0.numbers) c.split-place.ensures.me ∙ ap rest_of (c.requires.numbers ∙ from_step c.args.number _ c.args.count c.requires.some refl)

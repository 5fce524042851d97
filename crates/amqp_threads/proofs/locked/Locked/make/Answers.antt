use Rattle.std.proofs.Common.{◌≡◌, ◌∷◌, ◌++◌, [], List, length, arith, ap, ◌∙◌, sym, subst, length-append}
use Rattle.book_history.specs.History.{Event, Replays}
use Rattle.book_history.proofs.Replaying.{replays_call}
use Rattle.amqp_threads.proofs.locked.Locked.make.Goals as goal

pub invariant_of-self-2 : goal.invariant_of-self-2
invariant_of-self-2 g c =
    let es = c.self.inside.history.events in
    let e = c.in_ok-made.made.entered in
    let whole : c.push.new.self.events ≡ es ++ e ∷ [] = c.push.ensures ∙ ap (λ (xs : List Event). xs ++ e ∷ []) c.reserve_one.ensures.events in
    let replays = replays_call g.L.DeskName.book es c.self.inside.book.book c.args.seat c.args.call.now e c.make_call.new.book.book c.self.invariant.0 c.in_ok-made.ensures.entered c.in_ok-made.ensures.book in
    let longer = ap length whole in
    let one = length-append es (e ∷ []) in
    let total = c.add.ensures.total in
    let same = c.self.invariant.1 in
    (subst (λ (xs : List Event). Replays g.L.DeskName.book xs c.make_call.new.book.book) (sym whole) replays, omega (arith, longer, one, total, same))

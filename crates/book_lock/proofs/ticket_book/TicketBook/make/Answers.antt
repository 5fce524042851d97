use Rattle.std.proofs.Common.{◌≡◌, ◌∷◌, ◌++◌, [], List, ap, ◌∙◌, sym, subst}
use Rattle.book_history.specs.History.{Event, Replays}
use Rattle.book_history.proofs.Replaying.{replays_call}
use Rattle.book_lock.specs.Begins.{of_seat}
use Rattle.book_lock.specs.Tickets.{Held}
use Rattle.book_lock.proofs.Beginning.{adds_other}
use Rattle.book_lock.proofs.ticket_book.TicketBook.make.Goals as goal

pub invariant_of-self-2 : goal.invariant_of-self-2
invariant_of-self-2 g c =
    let es = c.self.inside.history.events in
    let e = c.in_ok-made.made.entered in
    let whole : c.push.new.self.events ≡ es ++ e ∷ [] = c.push.ensures ∙ ap (λ (xs : List Event). xs ++ e ∷ []) c.reserve_one.ensures.events in
    let replays = replays_call g.L.TicketName.book es c.self.inside.book.book c.args.seat c.args.call.now e c.make_call.new.book.book c.self.invariant c.in_ok-made.ensures.entered c.in_ok-made.ensures.book in
    subst (λ (xs : List Event). Replays g.L.TicketName.book xs c.make_call.new.book.book) (sym whole) replays

pub returns-clause-goes_on : goal.returns-clause-goes_on
returns-clause-goes_on g c =
    let es = c.self.inside.history.events in
    let e = c.in_ok-made.made.entered in
    let whole : c.push.new.self.events ≡ es ++ e ∷ [] = c.push.ensures ∙ ap (λ (xs : List Event). xs ++ e ∷ []) c.reserve_one.ensures.events in
    (e ∷ [], whole ∙ ap (λ (h : Held). h.history ++ e ∷ []) c.self.view_is)

pub returns-clause-work : goal.returns-clause-work
returns-clause-work g c n ne =
    let es = c.self.inside.history.events in
    let e = c.in_ok-made.made.entered in
    let whole : c.push.new.self.events ≡ es ++ e ∷ [] = c.push.ensures ∙ ap (λ (xs : List Event). xs ++ e ∷ []) c.reserve_one.ensures.events in
    let seat : e.seat ≡ c.args.seat = ap (λ (x : Event). x.seat) c.in_ok-made.ensures.entered in
    ap (of_seat n) whole ∙ (adds_other n es e (λ q. ne (sym q ∙ seat)) ∙ ap (λ (h : Held). of_seat n h.history) c.self.view_is)

pub returns-clause-legal : goal.returns-clause-legal
returns-clause-legal g c =
    let es = c.self.inside.history.events in
    let e = c.in_ok-made.made.entered in
    let whole : c.push.new.self.events ≡ es ++ e ∷ [] = c.push.ensures ∙ ap (λ (xs : List Event). xs ++ e ∷ []) c.reserve_one.ensures.events in
    let replays = replays_call g.L.TicketName.book es c.self.inside.book.book c.args.seat c.args.call.now e c.make_call.new.book.book c.self.invariant c.in_ok-made.ensures.entered c.in_ok-made.ensures.book in
    (c.make_call.new.book.book, subst (λ (xs : List Event). Replays g.L.TicketName.book xs c.make_call.new.book.book) (sym whole) replays)

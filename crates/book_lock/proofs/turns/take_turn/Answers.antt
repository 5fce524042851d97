use Rattle.std.proofs.Common.{arith, ◌≡◌, ℕ, List, length, ap, sym, ◌∙◌, subst}
use Rattle.book_history.specs.History.{Event}
use Rattle.book_lock.specs.declared.rule.TicketView.{TicketView}
use Rattle.book_lock.specs.Begins.{Begins, IsAmong, of_seat}
use Rattle.book_lock.proofs.turns.take_turn.Goals as goal

pub advance-requires-clause-holds : goal.advance-requires-clause-holds
advance-requires-clause-holds g c =
    let me = ap (λ m. m.0) c.put_in.ensures.me ∙ ap (λ m. m.0) c.take_out-book.ensures.me in
    let history = c.take_out-book.ensures.book ∙ sym (ap (λ (v : TicketView). v.front) me) in
    let ticket : c.put_in.new.place.me.0.ticket ≡ c.args.ticket = ap (λ (v : TicketView). v.ticket) me ∙ c.requires.ticket in
    let long = ap (λ (es : List Event). length es) c.take_out-book.ensures.book in (
      c.make-answered.new.self,
      ap (λ m. m.1) c.put_in.ensures.me,
      subst (λ (f : List Event). Begins f c.make-answered.new.self.history) history c.make-answered.ensures.goes_on,
      omega (arith, c.make-answered.ensures.one, c.requires.short, ticket, long),
      λ n ne. c.make-answered.ensures.work n (λ e. ne (subst (λ (v : TicketView). IsAmong n v.numbers) (sym me) (subst (λ (k : ℕ). IsAmong k c.args.place.now.me.0.numbers) (sym e) c.requires.number))) ∙ ap (of_seat n) history,
    )

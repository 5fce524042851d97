use Rattle.std.proofs.Common.{List, ap, sym, ◌∙◌, subst}
use Rattle.book_lock.specs.Seats.{Seat, AllAt, AllHere, new_seat}
use Rattle.amqp_delivery.specs.Book.{view_of}
use Rattle.lock_cases.proofs.Seats.{last_of_two, two_here}
use Rattle.lock_cases.proofs.row.noted_row.Goals as goal

pub noted_calls-requires-clause-first : goal.noted_calls-requires-clause-first
noted_calls-requires-clause-first g c =
    let two = last_of_two (view_of c.args.book.book 0) (new_seat (view_of c.args.book.book 0) 0 c.in-Ok.made.0.table.shared.table_id) c.in-Ok.made.1.items c.pop.new.self.items c.pop-2.new.self.items c.in-Some-pop.first c.in-Some.second c.in-Ok.ensures.count c.in-Ok.ensures.seats c.in-Some.ensures.items c.in-Some-pop.ensures.items in
    ap (λ (s : Seat). s.table) two.0

pub noted_calls-requires-clause-second : goal.noted_calls-requires-clause-second
noted_calls-requires-clause-second g c =
    let two = last_of_two (view_of c.args.book.book 0) (new_seat (view_of c.args.book.book 0) 0 c.in-Ok.made.0.table.shared.table_id) c.in-Ok.made.1.items c.pop.new.self.items c.pop-2.new.self.items c.in-Some-pop.first c.in-Some.second c.in-Ok.ensures.count c.in-Ok.ensures.seats c.in-Some.ensures.items c.in-Some-pop.ensures.items in
    ap (λ (s : Seat). s.table) two.1

pub close-book-requires-clause-tables : goal.close-book-requires-clause-tables
close-book-requires-clause-tables g c =
    let t = c.in-Ok.made.0.table.shared.table_id in
    let two = last_of_two (view_of c.args.book.book 0) (new_seat (view_of c.args.book.book 0) 0 t) c.in-Ok.made.1.items c.pop.new.self.items c.pop-2.new.self.items c.in-Some-pop.first c.in-Some.second c.in-Ok.ensures.count c.in-Ok.ensures.seats c.in-Some.ensures.items c.in-Some-pop.ensures.items in
    subst (λ (ss : List Seat). AllAt t ss) (sym c.in_ok-seats.ensures.items) (
      c.in_ok-noted_calls.ensures.first_table ∙ ap (λ (s : Seat). s.table) two.0,
      (c.in_ok-noted_calls.ensures.second_table ∙ ap (λ (s : Seat). s.table) two.1, tt),
    )

pub close-book-requires-clause-all : goal.close-book-requires-clause-all
close-book-requires-clause-all g c =
    let t = c.in-Ok.made.0.table.shared.table_id in let k = c.in-Ok.made.0.table.shared.key in
    let two = last_of_two (view_of c.args.book.book 0) (new_seat (view_of c.args.book.book 0) 0 t) c.in-Ok.made.1.items c.pop.new.self.items c.pop-2.new.self.items c.in-Some-pop.first c.in-Some.second c.in-Ok.ensures.count c.in-Ok.ensures.seats c.in-Some.ensures.items c.in-Some-pop.ensures.items in
    subst (λ (ss : List Seat). AllHere k ss) (sym c.in_ok-seats.ensures.items) (two_here k c.noted_calls.new.first c.noted_calls.new.second c.in-Ok.ensures.numbers
    (c.in_ok-noted_calls.ensures.first_number ∙ ap (λ (s : Seat). s.number) two.0) (c.in_ok-noted_calls.ensures.second_number ∙ ap (λ (s : Seat). s.number) two.1))

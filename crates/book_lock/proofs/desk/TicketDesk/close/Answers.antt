use Rattle.std.proofs.Common.{◌<◌, ℕ, List, sym, ◌∙◌, subst, inl, inr, ⊎_elim}
use Rattle.atomic_table.specs.Seated.{TableId}
use Rattle.book_history.specs.History.{Event}
use Rattle.book_lock.specs.Begins.{Begins, IsAmong}
use Rattle.book_lock.specs.Seats.{Seat, AllAt, AllOwn, AllSeen, HasOwn, numbers_of}
use Rattle.book_lock.proofs.Seating.{is_own, own_follows}
use Rattle.book_lock.proofs.Beginning.{begins_more}
use Rattle.book_lock.proofs.Handing.{all_begin, at_last, number_last, own_last, all_follow, seen_last}
use Rattle.book_lock.proofs.desk.TicketDesk.close.Goals as goal

pub meet_all-requires-clause-table : goal.meet_all-requires-clause-table
meet_all-requires-clause-table g c =
    let s = c.in-Some.seat in let xs = c.pop.new.self.items in
    let a = at_last c.args.self.table.shared.table_id xs s (subst (λ (ss : List Seat). AllAt c.args.self.table.shared.table_id ss) c.in-Some.ensures.items c.requires.tables) in
    c.into_place-place.ensures.table ∙ (a.1 ∙ sym c.into_table-table.ensures.table)

pub meet_all-requires-clause-others : goal.meet_all-requires-clause-others
meet_all-requires-clause-others g c =
    let s = c.in-Some.seat in let xs = c.pop.new.self.items in
    let a = at_last c.args.self.table.shared.table_id xs s (subst (λ (ss : List Seat). AllAt c.args.self.table.shared.table_id ss) c.in-Some.ensures.items c.requires.tables) in
    subst (λ (t : TableId). AllAt t xs) (sym c.into_table-table.ensures.table) a.0

pub book_of-requires-clause-table : goal.book_of-requires-clause-table
book_of-requires-clause-table g c =
    let s = c.in-Some.seat in let xs = c.pop.new.self.items in
    let a = at_last c.args.self.table.shared.table_id xs s (subst (λ (ss : List Seat). AllAt c.args.self.table.shared.table_id ss) c.in-Some.ensures.items c.requires.tables) in
    c.meet_all.ensures.table ∙ (c.into_place-place.ensures.table ∙ (a.1 ∙ sym c.into_table-table.ensures.table))

pub book_of-requires-clause-all : goal.book_of-requires-clause-all
book_of-requires-clause-all g c n lt =
    let s = c.in-Some.seat in let xs = c.pop.new.self.items in
    let here = c.requires.all n (subst (λ (k : ℕ). n < k) c.into_table-table.ensures.numbers lt) in
    c.meet_all.ensures.numbers n (⊎_elim (λ a. inr a) (λ a. inl (subst (IsAmong n) (sym c.into_place-place.ensures.numbers) a)) (number_last n xs s (subst (λ (ss : List Seat). IsAmong n (numbers_of ss)) c.in-Some.ensures.items here)))

pub returns-clause-own : goal.returns-clause-own
returns-clause-own g c =
    let s = c.in-Some.seat in let xs = c.pop.new.self.items in
    let p = c.into_place-place.result.me.0 in let q = c.meet_all.new.place.me.0 in let h = c.book_of.result.history in
    let mine = is_own s.number p.numbers c.into_place-place.ensures.numbers in
    let first = own_follows s.number s.receipts p.front q.front p.numbers mine c.meet_all.ensures.follows (subst (λ (f : List Event). HasOwn s.number s.receipts f) (sym c.into_place-place.ensures.front) c.into_place-place.ensures.own) in
    let one = own_follows s.number s.receipts q.front h q.numbers (c.meet_all.ensures.numbers s.number (inl mine)) c.book_of.ensures.follows first in
    let all = all_follow q.front h q.numbers xs (λ n a. c.meet_all.ensures.numbers n (inr a)) c.book_of.ensures.follows c.meet_all.ensures.own in
    subst (λ (es : List Event). AllOwn es c.args.seats.items) (sym c.into_parts.ensures.same) (subst (λ (ss : List Seat). AllOwn h ss) (sym c.in-Some.ensures.items) (own_last h xs s all one))

pub returns-clause-seen : goal.returns-clause-seen
returns-clause-seen g c =
    let s = c.in-Some.seat in let xs = c.pop.new.self.items in
    let p = c.into_place-place.result.me.0 in let q = c.meet_all.new.place.me.0 in let h = c.book_of.result.history in
    let mine : Begins s.front q.front = subst (λ (f : List Event). Begins f q.front) c.into_place-place.ensures.front c.meet_all.ensures.follows.0 in
    let one = begins_more s.front q.front h mine c.book_of.ensures.follows.0 in
    let all = all_begin q.front h xs c.book_of.ensures.follows.0 c.meet_all.ensures.seen in
    subst (λ (es : List Event). AllSeen es c.args.seats.items) (sym c.into_parts.ensures.same) (subst (λ (ss : List Seat). AllSeen h ss) (sym c.in-Some.ensures.items) (seen_last h xs s all one))

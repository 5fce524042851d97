use Rattle.std.proofs.Common.{List, ap}
use Rattle.book_lock.specs.Seats.{Seat}
use Rattle.book_lock.proofs.Seating.{meets_joined, meets_longer, noted_own}
use Rattle.book_lock.proofs.seat.TicketSeat.meet.Goals as goal

pub invariant_of-self : goal.invariant_of-self
invariant_of-self g c =
    let j = meets_joined c.self.inside.place.me c.into_place.result.me c.join.new.place.me c.compare.new.place.me c.join.ensures.me c.compare.ensures.me c.self.invariant.0 in
    noted_own c.self.inside.number c.self.inside.place.me c.into_place.result.me c.compare.new.place.me c.self.inside.receipts.items j c.into_place.ensures.numbers c.self.invariant

pub returns-clause-longer : goal.returns-clause-longer
returns-clause-longer g c =
    (meets_longer c.self.inside.place.me c.into_place.result.me c.join.new.place.me c.compare.new.place.me c.args.self.now.front c.args.note.front c.join.ensures.me c.compare.ensures.me (ap (λ (s : Seat). s.front) c.self.view_is) c.into_place.ensures.front).1

pub returns-clause-one : goal.returns-clause-one
returns-clause-one g c =
    (meets_longer c.self.inside.place.me c.into_place.result.me c.join.new.place.me c.compare.new.place.me c.args.self.now.front c.args.note.front c.join.ensures.me c.compare.ensures.me (ap (λ (s : Seat). s.front) c.self.view_is) c.into_place.ensures.front).0

pub returns-clause-own : goal.returns-clause-own
returns-clause-own g c =
    let j = meets_joined c.self.inside.place.me c.into_place.result.me c.join.new.place.me c.compare.new.place.me c.join.ensures.me c.compare.ensures.me c.self.invariant.0 in
    (noted_own c.self.inside.number c.self.inside.place.me c.into_place.result.me c.compare.new.place.me c.self.inside.receipts.items j c.into_place.ensures.numbers c.self.invariant).2

use Rattle.book_lock.proofs.Seating.{sees_joined, met_own, met_seen}
use Rattle.book_lock.proofs.closing.meet.Goals as goal

pub returns-clause-own : goal.returns-clause-own
returns-clause-own g c =
    let j = sees_joined c.args.place.now.me c.into_place.result.me c.join.new.place.me c.see.new.place.me c.join.ensures.me c.see.ensures.me c.requires.idle in
    met_own c.args.seat.number c.args.place.now.me c.into_place.result.me c.see.new.place.me c.args.seat.receipts c.args.seat.front j c.into_place.ensures.numbers c.into_place.ensures.front c.into_place.ensures.own

pub returns-clause-seen : goal.returns-clause-seen
returns-clause-seen g c =
    let j = sees_joined c.args.place.now.me c.into_place.result.me c.join.new.place.me c.see.new.place.me c.join.ensures.me c.see.ensures.me c.requires.idle in
    met_seen c.args.place.now.me c.into_place.result.me c.see.new.place.me c.args.seat.front j c.into_place.ensures.front

use Rattle.std.proofs.Common.{rules}
use Rattle.book_lock.proofs.Seating.{passed_own, taken_own}
use Rattle.book_lock.proofs.seat.TicketSeat.call.Goals as goal

pub invariant_of-self-in-Err : goal.invariant_of-self-in-Err
invariant_of-self-in-Err g c = passed_own c.self.inside.number c.self.inside.place.me c.run_turn.new.place.me c.self.inside.receipts.items c.reserve.new.self.items c.in-Err.ensures.passed (search rules) c.self.invariant

pub invariant_of-self-2 : goal.invariant_of-self-2
invariant_of-self-2 g c = taken_own c.self.inside.number c.self.inside.place.me c.run_turn.new.place.me c.self.inside.receipts.items c.push-pushed.new.self.items c.in-Ok.answered.receipt c.in-Ok.answered.kept c.in-Ok.ensures.call.0 c.in-Ok.ensures.taken c.in-Ok.ensures.both (search rules) c.self.invariant

pub returns-in-Err-clause-own : goal.returns-in-Err-clause-own
returns-in-Err-clause-own g c = (passed_own c.self.inside.number c.self.inside.place.me c.run_turn.new.place.me c.self.inside.receipts.items c.reserve.new.self.items c.in-Err.ensures.passed (search rules) c.self.invariant).2

pub returns-clause-own : goal.returns-clause-own
returns-clause-own g c = (taken_own c.self.inside.number c.self.inside.place.me c.run_turn.new.place.me c.self.inside.receipts.items c.push-pushed.new.self.items c.in-Ok.answered.receipt c.in-Ok.answered.kept c.in-Ok.ensures.call.0 c.in-Ok.ensures.taken c.in-Ok.ensures.both (search rules) c.self.invariant).2

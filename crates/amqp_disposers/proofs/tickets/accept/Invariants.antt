use Rattle.book_lock.specs.Seats.{Keeps}
use Rattle.amqp_disposers.proofs.tickets.accept.Given as goal

abbrev pub invariant-loop : goal.invariant-loop
invariant-loop g l = Keeps l.fn.seat l.seat

use Rattle.std.proofs.Common.{◌≡◌, map, Ok}
use Rattle.amqp_disposers.proofs.tickets.seats_of.Given as goal

abbrev pub invariant-loop-seat : goal.invariant-loop-seat
invariant-loop-seat g l = l.yielded ≡ map Ok l.seats.items

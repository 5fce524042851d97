use Rattle.std.proofs.Common.{◌≡◌, ◌+◌, vec_len}
use Rattle.amqp_threads.specs.Seats.{calls_of}
use Rattle.amqp_threads.proofs.desk.whole.Given as goal

abbrev pub invariant-loop-seat : goal.invariant-loop-seat
invariant-loop-seat g l = (l.all.parts + vec_len l.seats ≡ vec_len l.fn.seats) × (l.all.amount + calls_of l.seats.items ≡ calls_of l.fn.seats.items)

abbrev pub decreases-loop-seat : goal.decreases-loop-seat
decreases-loop-seat g l = vec_len l.seats

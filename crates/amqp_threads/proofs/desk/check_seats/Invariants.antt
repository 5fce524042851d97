use Rattle.std.proofs.Common.{◌≡◌, ℕ, ◌<◌, slice_get, Some}
use Rattle.book_history.specs.Receipts.{Stand}
use Rattle.amqp_threads.specs.Seats.{Seat}
use Rattle.amqp_threads.proofs.desk.check_seats.Given as goal

abbrev pub invariant-loop-seat : goal.invariant-loop-seat
invariant-loop-seat g l = (k : ℕ) (s : Seat) → k < l.seat-index → slice_get l.seats k ≡ Some s → Stand 0 l.history.events s.receipts

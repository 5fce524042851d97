use Rattle.std.proofs.Common.{◌≡◌, ℕ, ◌+◌, ◌<◌, vec_len, slice_get, Some}
use Rattle.amqp_threads.specs.Seats.{new_seat, calls_of}
use Rattle.amqp_threads.proofs.desk.seats_of.Given as goal

abbrev pub invariant-loop-number : goal.invariant-loop-number
invariant-loop-number g l = record {
  parts : l.all.parts + l.number ≡ l.count;
  amount : l.all.amount ≡ 0;
  count : vec_len l.seats ≡ l.number;
  seats : (k : ℕ) → k < l.number → slice_get l.seats.items k ≡ Some (new_seat l.view k);
}

use Rattle.std.proofs.Common.{◌≡◌, ℕ, ◌-◌, ◌<◌, false, [], vec_len, slice_get, Some}
use Rattle.book_lock.specs.Begins.{from}
use Rattle.book_lock.specs.Seats.{new_seat}
use Rattle.book_lock.proofs.desk.seats_of.Given as goal

abbrev pub invariant-loop-number : goal.invariant-loop-number
invariant-loop-number g l = record {
  table : l.first.table_id ≡ l.lock.table_id;
  idle : l.first.me.0.turn ≡ false;
  front : l.first.me.0.front ≡ [];
  told : l.first.me.0.told_numbers ≡ [];
  numbers : l.first.me.0.numbers ≡ from l.number (l.count - l.number);
  count : vec_len l.seats ≡ l.number;
  seats : (k : ℕ) → k < l.number → slice_get l.seats.items k ≡ Some (new_seat l.view k l.lock.table_id);
}

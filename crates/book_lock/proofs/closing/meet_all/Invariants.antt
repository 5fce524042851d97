use Rattle.std.proofs.Common.{◌≡◌, ℕ, ◌⊎◌, List, vec_len}
use Rattle.book_history.specs.History.{Event}
use Rattle.book_lock.specs.Begins.{Begins, IsAmong, Follows}
use Rattle.book_lock.specs.Calls.{Idle}
use Rattle.book_lock.specs.Seats.{AllAt, AllOwn, AllSeen, numbers_of}
use Rattle.book_lock.proofs.closing.meet_all.Given as goal

abbrev pub invariant-loop-seat : goal.invariant-loop-seat
invariant-loop-seat g l = record {
  table : l.place.table_id ≡ l.fn.place.table_id;
  idle : Idle l.place.me;
  others : AllAt l.lock.table_id l.seats.items;
  within : (n : ℕ) → IsAmong n l.fn.place.me.0.numbers → IsAmong n l.place.me.0.numbers;
  here : (n : ℕ) → IsAmong n (numbers_of l.fn.seats.items) → IsAmong n (numbers_of l.seats.items) ⊎ IsAmong n l.place.me.0.numbers;
  follows : Follows l.fn.place.me.0.front l.fn.place.me.0.numbers l.place.me.0.front;
  left : (h : List Event) → Follows l.place.me.0.front l.place.me.0.numbers h → AllOwn h l.seats.items → AllOwn h l.fn.seats.items;
  seen : (h : List Event) → Begins l.place.me.0.front h → AllSeen h l.seats.items → AllSeen h l.fn.seats.items;
}

abbrev pub decreases-loop-seat : goal.decreases-loop-seat
decreases-loop-seat g l = vec_len l.seats

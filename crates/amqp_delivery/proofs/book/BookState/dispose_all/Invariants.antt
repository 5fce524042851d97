use Rattle.std.proofs.Common.{◌≡◌, ℕ, ◌+◌, ◌-◌, ◌*◌, ◌≤◌, length, drop, None}
use Rattle.amqp_delivery.specs.Book.{walk_all, open_runs}
use Rattle.amqp_delivery.proofs.book.BookState.dispose_all.Given as goal

-- what is left gives the whole, and there are room and copies for it
abbrev pub invariant-loop-info : goal.invariant-loop-info
invariant-loop-info l = record {
  of : l.copies.of ≡ l.fn.state;
  copies : 2 * (length l.infos - l.info-index) + open_runs l.run ≤ l.copies.count;
  room : l.fn.self.room + (length l.infos - l.info-index) + 1 + open_runs l.run ≤ l.self.room;
  whole : walk_all l.fn.view l.fn.state (record { book = l.self.book; run = l.run; found = l.found }) (drop l.info-index l.infos)
      ≡ walk_all l.fn.view l.fn.state (record { book = l.fn.self.book; run = None; found = 0 }) l.fn.infos;
}

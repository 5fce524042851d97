use Rattle.std.proofs.Common.{◌≡◌, take, drop}
use Rattle.book_history.specs.Receipts.{Stand}
use Rattle.book_history.specs.Receipts.{next_place}
use Rattle.amqp_threads.proofs.desk.check_seat.Given as goal

abbrev pub invariant-loop-receipt : goal.invariant-loop-receipt
invariant-loop-receipt l = record {
  low : l.low ≡ next_place (take l.receipt-index l.receipts);
  stand : Stand l.low l.history.events (drop l.receipt-index l.receipts) → Stand 0 l.history.events l.receipts;
}

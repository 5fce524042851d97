use Rattle.std.proofs.Common.{◌≡◌, drop}
use Rattle.amqp_disposers.specs.Deliveries.{registered_all, first_book}
use Rattle.amqp_disposers.proofs.deliveries.book_of.Given as goal

abbrev pub invariant-loop-info : goal.invariant-loop-info
invariant-loop-info l = registered_all l.book.book (drop l.info-index l.infos) ≡ registered_all first_book l.infos

use Rattle.std.proofs.Common.{◌≡◌, ℕ, ◌<◌, List, length, slice_get, Some, subst, rules, arith}
use Rattle.std.proofs.lemmas.Option.{slice_get_within}
use Rattle.std.specs.Prelude.{refl}
use Rattle.amqp_threads.specs.Closing.{Differing}
use Rattle.book_history.specs.declared.entry.Receipt.{Receipt}
use Rattle.amqp_threads.proofs.Closing.{fails_in}
use Rattle.amqp_threads.proofs.desk.check_seats.Goals as goal

pub returns-in-Err-clause-differs : goal.returns-in-Err-clause-differs
returns-in-Err-clause-differs g c =
    let lt : c.loop-seat.seat-index < length c.args.seats.now = search rules in
    let e : c.receipts.result.now ≡ c.seat-item.result.receipts = search rules in
    fails_in c.args.seats.now c.args.seats.now c.loop-seat.seat-index c.seat-item.result c.args.history.now.events c.in-Err.error refl lt c.seat-item.is
    (subst (λ (rs : List Receipt). Differing c.args.history.now.events rs c.in-Err.error) e c.in-Err.ensures.differs)

pub returns-clause-stand : goal.returns-clause-stand
returns-clause-stand g c = λ k s at.
    let within = slice_get_within c.args.seats.now k s at in
    c.loop-seat.invariant k s (omega arith) at

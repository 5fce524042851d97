use Rattle.std.proofs.Common.{◌≡◌, ℕ, ◌+◌, ◌≤◌, ◌<◌, length, slice_get, Some, sym, ap, ◌∙◌, subst, drop, arith, rules}
use Rattle.std.proofs.lemmas.Option.{slice_get_read}
use Rattle.std.specs.Prelude.{refl}
use Rattle.book_history.specs.Receipts.{Stand}
use Rattle.book_history.proofs.Standing.{next_place_push, stand_step}
use Rattle.amqp_threads.proofs.desk.check_seat.Goals as goal

pub loop-receipt-preserved : goal.loop-receipt-preserved
loop-receipt-preserved c =
    let rs = c.args.receipts.now in
    let h = c.args.history.now.events in
    let r = c.receipt-item.result in
    let i = c.loop-receipt.receipt-index in
    let lt : i < length rs = search rules in
    let e = c.in_ok-low.ensures.stand in
    record {
      low = e.2 ∙ sym (next_place_push rs i r (slice_get_read rs (length rs) i r refl lt c.receipt-item.is));
      stand = λ rest. c.loop-receipt.invariant.stand (stand_step c.loop-receipt.low h rs i r c.receipt-item.is lt e.0 e.1 (subst (λ (n : ℕ). Stand n h (drop (i + 1) rs)) e.2 rest));
    }

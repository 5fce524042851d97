-- Receipts that stand, one more at a time.
use Rattle.std.specs.Prelude.{◌≡◌, ℕ, zero, suc, ◌+◌, ◌<◌, ◌≤◌, List, [], ◌∷◌, take, drop, get_or, length, slice_get, Some}
use Rattle.std.proofs.Common.{arith, add-one, drop-cons}
use Rattle.book_history.specs.History.{Event}
use Rattle.book_history.specs.Receipts.{Stand, next_place}
use Rattle.book_history.specs.declared.entry.Receipt.{Receipt}

push_at : (rs : List Receipt) (i : ℕ) (r : Receipt) → slice_get rs i ≡ Some r → next_place (take (suc i) rs) ≡ r.place + 1
push_at [] i r at = absurd cc
push_at (x ∷ []) zero r at = grind arith
push_at (x ∷ []) (suc i) r at = absurd cc
push_at (x ∷ y ∷ rs) zero r at = grind arith
push_at (x ∷ y ∷ rs) (suc i) r at = push_at (y ∷ rs) i r at

-- the place after the receipts up to one is the place after that one
pub next_place_push : (rs : List Receipt) (i : ℕ) (r : Receipt) → slice_get rs i ≡ Some r → next_place (take (i + 1) rs) ≡ r.place + 1
next_place_push rs i r at = rw add-one (push_at rs i r at)

-- one more receipt stands
pub stand_step : (low : ℕ) (h : List Event) (rs : List Receipt) (i : ℕ) (r : Receipt) → r ≡ get_or rs i r → i < length rs → low ≤ r.place → slice_get h r.place ≡ Some r.entry → Stand (r.place + 1) h (drop (i + 1) rs) → Stand low h (drop i rs)
stand_step low h rs i r is lt rises at rest =
    let next : Stand (r.place + 1) h (drop (suc i) rs) = rw (add-one i) at rest in
    rw (drop-cons rs i r lt, ← is) (rises, at, next)

-- The channels of this end.
use Prim.Native.Nat.{zero, suc}
use Rattle.std.proofs.Common.{◌≡◌, ◌<◌, ◌≤◌, ℕ, Bool, true, false, List, [], ◌∷◌, ◌++◌, length, refl, ap, arith}
use Rattle.std.specs.Prelude.{slice_set}
use Rattle.amqp_engine.specs.Seats.{first_free, seat_taken, taken_up_to}

pub seat_set : (seats : List Bool) (channel : ℕ) → channel < length seats → seat_taken seats channel ≡ slice_set seats channel true
seat_set [] channel l = absurd (omega (arith, l))
seat_set (x ∷ seats) zero l = refl
seat_set (x ∷ seats) (suc channel) l = ap (λ (ys : List Bool). x ∷ ys) (seat_set seats channel (omega (arith, l)))

pub seat_push : (seats : List Bool) (channel : ℕ) → channel ≡ length seats → seat_taken seats channel ≡ seats ++ true ∷ []
seat_push [] channel e = refl
seat_push (x ∷ seats) zero e = absurd (omega (arith, e))
seat_push (x ∷ seats) (suc channel) e = ap (λ (ys : List Bool). x ∷ ys) (seat_push seats channel (omega (arith, e)))

pub first_free_le : (seats : List Bool) → first_free seats ≤ length seats
first_free_le [] = omega arith
first_free_le (true ∷ seats) = omega (arith, first_free_le seats)
first_free_le (false ∷ seats) = omega arith

-- all channels before the first free one are taken, and no more
pub full_counts : (n : ℕ) (seats : List Bool) → n ≤ first_free seats → taken_up_to n seats ≡ n
full_counts zero seats l = refl
full_counts (suc n) [] l = absurd (omega (arith, l))
full_counts (suc n) (true ∷ seats) l = let e : taken_up_to n seats ≡ n = full_counts n seats (omega (arith, l)) in omega (arith, e)
full_counts (suc n) (false ∷ seats) l = absurd (omega (arith, l))

taken_le : (n : ℕ) (seats : List Bool) → taken_up_to n seats ≤ n
taken_le zero seats = omega arith
taken_le (suc n) [] = omega arith
taken_le (suc n) (true ∷ seats) = omega (arith, taken_le n seats)
taken_le (suc n) (false ∷ seats) = omega (arith, taken_le n seats)

pub counts_full : (n : ℕ) (seats : List Bool) → taken_up_to n seats ≡ n → n ≤ first_free seats
counts_full zero seats e = omega arith
counts_full (suc n) [] e = absurd (omega (arith, e))
counts_full (suc n) (true ∷ seats) e = let l : n ≤ first_free seats = counts_full n seats (omega (arith, e)) in omega (arith, l)
counts_full (suc n) (false ∷ seats) e = let l : taken_up_to n seats ≤ n = taken_le n seats in absurd (omega (arith, l, e))

-- What taking and freeing a channel make of what is kept of the channels.
use Prim.Native.Nat.{zero, suc}
use Rattle.std.proofs.Common.{◌≡◌, ◌∙◌, ap, subst, refl, sym, arith, zero-add, get_or, length, ℕ, ◌+◌, ◌<◌, ◌≤◌, Bool, true, false, cond, nat_eq, List, [], ◌∷◌, ◌++◌, IsPermutation, Result, Ok, Err, IsOk, OnOk}
use Rattle.std.specs.Prelude.{slice_index_or, slice_set}
use Rattle.std.proofs.lemmas.Bool.{eqb-true, eqb-false, eq-eqb, ne_eqb}
use Rattle.std.proofs.lemmas.List.Sorted.{sum_by-IsPermutation}
use Rattle.std.proofs.lemmas.List.Sums.{sum_by-cons}
use Rattle.std.proofs.lemmas.Map.Keys.{ge_from_not_lt}
use Rattle.std.specs.BinaryHeap.{IsUpperBound}
use Rattle.std.specs.declared.cmp.Reverse.{Reverse}
use Rattle.amqp_engine.specs.Seats.{first_free}
use Rattle.amqp_engine.specs.Kept.{lowest_first, times, due, IsAccount, occupied}

-- ---- how often a channel stands in the heap

times-cons : (k : ℕ) (x : Reverse ℕ) (xs : List (Reverse ℕ)) → times k (x ∷ xs) ≡ cond (nat_eq k x.0) 1 0 + times k xs
times-cons k x xs = sum_by-cons (λ (y : Reverse ℕ). cond (nat_eq k y.0) 1 0) x xs

times-moved : (k : ℕ) (xs ys : List (Reverse ℕ)) → IsPermutation xs ys → times k ys ≡ times k xs
times-moved k xs ys p = sum_by-IsPermutation (λ (y : Reverse ℕ). cond (nat_eq k y.0) 1 0) xs ys p

times-own : (k : ℕ) (x : Reverse ℕ) (xs : List (Reverse ℕ)) → k ≡ x.0 → times k (x ∷ xs) ≡ 1 + times k xs
times-own k x xs e = times-cons k x xs ∙ ap (λ b. cond b 1 0 + times k xs) (eq-eqb k x.0 e)

times-other : (k : ℕ) (x : Reverse ℕ) (xs : List (Reverse ℕ)) → (k ≡ x.0 → ⊥) → times k (x ∷ xs) ≡ times k xs
times-other k x xs e = times-cons k x xs ∙ ap (λ b. cond b 1 0 + times k xs) (ne_eqb k x.0 e) ∙ zero-add (times k xs)

times-below : (k : ℕ) (x : Reverse ℕ) (xs : List (Reverse ℕ)) → IsUpperBound lowest_first x xs → k < x.0 → times k xs ≡ 0
times-below k x [] h less = refl
times-below k x (y ∷ ys) h less =
    let above : x.0 ≤ y.0 = ge_from_not_lt y.0 x.0 h.0 in
    let rest : times k ys ≡ 0 = times-below k x ys h.1 less in
    times-other k y ys (λ e. omega arith) ∙ rest

due-one : (b : Bool) → 0 < due b → b ≡ false
due-one true l = absurd (omega (arith, l))
due-one false l = refl

due-none : (b : Bool) → 0 ≡ due b → b ≡ true
due-none true e = refl
due-none false e = absurd (omega (arith, e))

-- ---- the first free channel

found : (seats : List Bool) (c : ℕ) → slice_index_or seats c true ≡ false → ((k : ℕ) → k < c → slice_index_or seats k true ≡ true) → first_free seats ≡ c
found [] c f below = absurd (cc f)
found (true ∷ seats) zero f below = absurd (cc f)
found (true ∷ seats) (suc c) f below =
    let e : first_free seats ≡ c = found seats c f (λ k l. below (suc k) (omega (arith, l))) in omega (arith, e)
found (false ∷ seats) zero f below = refl
found (false ∷ seats) (suc c) f below = let e : false ≡ true = below 0 (omega arith) in absurd (cc e)

full : (seats : List Bool) → ((k : ℕ) → slice_index_or seats k true ≡ true) → first_free seats ≡ length seats
full [] all = refl
full (true ∷ seats) all = let e : first_free seats ≡ length seats = full seats (λ k. all (suc k)) in omega (arith, e)
full (false ∷ seats) all = let e : false ≡ true = all 0 in absurd (cc e)

lowest_at : (xs rest : List (Reverse ℕ)) (seats : List Bool) (x : Reverse ℕ) → IsAccount xs seats → xs ≡ x ∷ rest → IsUpperBound lowest_first x xs → (slice_index_or seats x.0 true ≡ false) × (first_free seats ≡ x.0)
lowest_at xs rest seats x a at bound =
    let one : times x.0 xs ≡ 1 + times x.0 rest = ap (times x.0) at ∙ times-own x.0 x rest refl in
    let each : times x.0 xs ≡ due (slice_index_or seats x.0 true) = a x.0 in
    let free : slice_index_or seats x.0 true ≡ false = due-one (slice_index_or seats x.0 true) (omega (arith, one, each)) in
    (free, found seats x.0 free (λ k less. due-none (slice_index_or seats k true) (sym (times-below k x xs bound less) ∙ a k)))

-- the heap's first is the first free channel
pub lowest_there : (xs : List (Reverse ℕ)) (seats : List Bool) (x : Reverse ℕ) → IsAccount xs seats → 0 < length xs → x ≡ get_or xs 0 x → IsUpperBound lowest_first x xs → (slice_index_or seats x.0 true ≡ false) × (first_free seats ≡ x.0)
lowest_there [] seats x a some at bound = absurd (omega (arith, some))
lowest_there (y ∷ rest) seats x a some at bound = lowest_at (y ∷ rest) rest seats x a (ap (λ z. z ∷ rest) (sym at)) bound

-- where none is in the heap, it is the first that was never taken
pub lowest_new : (xs : List (Reverse ℕ)) (seats : List Bool) → IsAccount xs seats → (0 < length xs → ⊥) → first_free seats ≡ length seats
lowest_new [] seats a none = full seats (λ k. due-none (slice_index_or seats k true) (a k))
lowest_new (x ∷ xs) seats a none = absurd (none (omega arith))

-- ---- what a change of one channel makes of all

pub in_range : (seats : List Bool) (c : ℕ) → slice_index_or seats c true ≡ false → c < length seats
in_range [] c f = absurd (cc f)
in_range (x ∷ seats) zero f = omega arith
in_range (x ∷ seats) (suc c) f = let l : c < length seats = in_range seats c f in omega (arith, l)

pub in_range_taken : (seats : List Bool) (c : ℕ) → slice_index_or seats c false ≡ true → c < length seats
in_range_taken [] c t = absurd (cc t)
in_range_taken (x ∷ seats) zero t = omega arith
in_range_taken (x ∷ seats) (suc c) t = let l : c < length seats = in_range_taken seats c t in omega (arith, l)

-- a channel that no session has is free as before
pub unset : (seats : List Bool) (c : ℕ) → slice_index_or seats c false ≡ false → seats ≡ slice_set seats c false
unset [] c f = refl
unset (x ∷ seats) zero f = ap (λ (y : Bool). y ∷ seats) f
unset (x ∷ seats) (suc c) f = ap (λ (ys : List Bool). x ∷ ys) (unset seats c f)

at_taken : (seats : List Bool) (c : ℕ) → slice_index_or (slice_set seats c true) c true ≡ true
at_taken [] c = refl
at_taken (x ∷ seats) zero = refl
at_taken (x ∷ seats) (suc c) = at_taken seats c

at_freed : (seats : List Bool) (c : ℕ) → slice_index_or seats c false ≡ true → slice_index_or (slice_set seats c false) c true ≡ false
at_freed [] c t = absurd (cc t)
at_freed (x ∷ seats) zero t = refl
at_freed (x ∷ seats) (suc c) t = at_freed seats c t

at_other : (seats : List Bool) (c k : ℕ) (v : Bool) → (c ≡ k → ⊥) → slice_index_or (slice_set seats c v) k true ≡ slice_index_or seats k true
at_other [] c k v n = refl
at_other (x ∷ seats) zero zero v n = absurd (n refl)
at_other (x ∷ seats) zero (suc k) v n = refl
at_other (x ∷ seats) (suc c) zero v n = refl
at_other (x ∷ seats) (suc c) (suc k) v n = at_other seats c k v (λ e. n (ap (λ m. suc m) e))

taken_both : (seats : List Bool) (c : ℕ) → slice_index_or seats c false ≡ true → slice_index_or seats c true ≡ true
taken_both [] c t = absurd (cc t)
taken_both (x ∷ seats) zero t = t
taken_both (x ∷ seats) (suc c) t = taken_both seats c t

at_pushed : (seats : List Bool) (k : ℕ) → slice_index_or (seats ++ true ∷ []) k true ≡ slice_index_or seats k true
at_pushed [] zero = refl
at_pushed [] (suc k) = refl
at_pushed (x ∷ seats) zero = refl
at_pushed (x ∷ seats) (suc k) = at_pushed seats k

-- ---- how many are taken

occupied-cons : (x : Bool) (seats : List Bool) → occupied (x ∷ seats) ≡ cond x 1 0 + occupied seats
occupied-cons x seats = sum_by-cons (λ (taken : Bool). cond taken 1 0) x seats

pub occupied_few : (seats : List Bool) → occupied seats ≤ length seats
occupied_few [] = omega arith
occupied_few (true ∷ seats) = omega (arith, occupied-cons true seats, occupied_few seats)
occupied_few (false ∷ seats) = omega (arith, occupied-cons false seats, occupied_few seats)

pub occupied_taken : (seats : List Bool) (c : ℕ) → slice_index_or seats c true ≡ false → occupied (slice_set seats c true) ≡ occupied seats + 1
occupied_taken [] c f = absurd (cc f)
occupied_taken (true ∷ seats) zero f = absurd (cc f)
occupied_taken (false ∷ seats) zero f = omega (arith, occupied-cons true seats, occupied-cons false seats)
occupied_taken (x ∷ seats) (suc c) f =
    let e : occupied (slice_set seats c true) ≡ occupied seats + 1 = occupied_taken seats c f in
    omega (arith, occupied-cons x (slice_set seats c true), occupied-cons x seats, e)

pub occupied_freed : (seats : List Bool) (c : ℕ) → slice_index_or seats c false ≡ true → occupied (slice_set seats c false) + 1 ≡ occupied seats
occupied_freed [] c t = absurd (cc t)
occupied_freed (false ∷ seats) zero t = absurd (cc t)
occupied_freed (true ∷ seats) zero t = omega (arith, occupied-cons true seats, occupied-cons false seats)
occupied_freed (x ∷ seats) (suc c) t =
    let e : occupied (slice_set seats c false) + 1 ≡ occupied seats = occupied_freed seats c t in
    omega (arith, occupied-cons x (slice_set seats c false), occupied-cons x seats, e)

pub occupied_pushed : (seats : List Bool) → occupied (seats ++ true ∷ []) ≡ occupied seats + 1
occupied_pushed [] = refl
occupied_pushed (x ∷ seats) = omega (arith, occupied-cons x (seats ++ true ∷ []), occupied-cons x seats, occupied_pushed seats)

-- ---- the account

pub begun : (xs : List (Reverse ℕ)) (seats : List Bool) → IsAccount xs seats → IsAccount xs (seats ++ true ∷ [])
begun xs seats a k = a k ∙ ap due (sym (at_pushed seats k))

pub popped : (xs ys : List (Reverse ℕ)) (seats : List Bool) (x : Reverse ℕ) → IsAccount xs seats → slice_index_or seats x.0 true ≡ false → IsPermutation xs (x ∷ ys) → IsAccount ys (slice_set seats x.0 true)
popped xs ys seats x a f p q = each (nat_eq x.0 q) refl
  where
    each : (b : Bool) → nat_eq x.0 q ≡ b → times q ys ≡ due (slice_index_or (slice_set seats x.0 true) q true)
    each true e =
        let same : x.0 ≡ q = eqb-true x.0 q e in
        let one : times x.0 xs ≡ 1 + times x.0 ys = sym (times-moved x.0 xs (x ∷ ys) p) ∙ times-own x.0 x ys refl in
        let was : times x.0 xs ≡ 1 = a x.0 ∙ ap due f in
        let none : times x.0 ys ≡ 0 = omega (arith, one, was) in
        subst (λ k. times k ys ≡ due (slice_index_or (slice_set seats x.0 true) k true)) same (none ∙ ap due (sym (at_taken seats x.0)))
    each false e =
        sym (times-other q x ys (λ k. eqb-false x.0 q e (sym k))) ∙ times-moved q xs (x ∷ ys) p ∙ a q ∙ ap due (sym (at_other seats x.0 q true (eqb-false x.0 q e)))

pub freed : (xs ys : List (Reverse ℕ)) (seats : List Bool) (x : Reverse ℕ) → IsAccount xs seats → slice_index_or seats x.0 false ≡ true → IsPermutation (x ∷ xs) ys → IsAccount ys (slice_set seats x.0 false)
freed xs ys seats x a t p q = each (nat_eq x.0 q) refl
  where
    each : (b : Bool) → nat_eq x.0 q ≡ b → times q ys ≡ due (slice_index_or (slice_set seats x.0 false) q true)
    each true e =
        let same : x.0 ≡ q = eqb-true x.0 q e in
        let none : times x.0 xs ≡ 0 = a x.0 ∙ ap due (taken_both seats x.0 t) in
        let one : times x.0 ys ≡ 1 = times-moved x.0 (x ∷ xs) ys p ∙ times-own x.0 x xs refl ∙ ap (λ n. 1 + n) none in
        subst (λ k. times k ys ≡ due (slice_index_or (slice_set seats x.0 false) k true)) same (one ∙ ap due (sym (at_freed seats x.0 t)))
    each false e =
        times-moved q (x ∷ xs) ys p ∙ times-other q x xs (λ k. eqb-false x.0 q e (sym k)) ∙ a q ∙ ap due (sym (at_other seats x.0 q false (eqb-false x.0 q e)))

-- what is promised where a call succeeds
pub at_ok : {A E P : Type 0} (r : Result A E) → IsOk r → OnOk r P → P
at_ok (Ok a) h p = p
at_ok (Err e) h p = absurd (no h)
  where
    no : false ≡ true → ⊥
    no e = cc

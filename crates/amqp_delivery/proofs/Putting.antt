-- Putting a pair into ranges, and taking one out.
use Rattle.std.specs.Prelude.{◌≡◌, ℕ, zero, suc, ◌+◌, ◌-◌, ◌*◌, ◌<◌, ◌≤◌, ◌==◌, nat_le, Bool, true, false, cond, List, [], ◌∷◌, ◌++◌, refl}
use Rattle.std.proofs.Common.{ap, sym, ◌∙◌, arith, append-nil}
use Rattle.std.proofs.lemmas.List.{append_assoc}
use Rattle.std.proofs.lemmas.Bool.Decides.{nat_tests}
use Rattle.amqp_delivery.specs.declared.ranges.Range.{Range}
use Rattle.amqp_delivery.specs.Ranges.{rank, rank_of, insert_pair, remove_pair, single, meets, glue_at, glue, spread_from, spread, pairs_in, low_end, high_end, IsBefore, AreRuns, AllBelow, StartsFrom, StartsAbove, Seam}
use Rattle.amqp_delivery.proofs.Spreading.{pairs_glue, are_runs_glue}

pub PairsBelow : ℕ → List (ℕ × ℕ) → Type 0
PairsBelow x [] = Unit {0}
PairsBelow x (p ∷ ps) = (rank_of p < x) × PairsBelow x ps

pub PairsFrom : ℕ → List (ℕ × ℕ) → Type 0
PairsFrom x [] = Unit {0}
PairsFrom x (p ∷ ps) = x ≤ rank_of p

pub PairsAbove : ℕ → List (ℕ × ℕ) → Type 0
PairsAbove x [] = Unit {0}
PairsAbove x (p ∷ ps) = x < rank_of p

below_false : (m n : ℕ) → n < m → nat_le m n ≡ false
below_false m n h = grind (arith, nat_tests, h)

at_least : (m n : ℕ) → m ≤ n → nat_le m n ≡ true
at_least m n h = grind (arith, nat_tests, h)

not_same : (m n : ℕ) → m < n → (m == n) ≡ false
not_same m n h = grind (arith, nat_tests, h)

eq_self : (n : ℕ) → (n == n) ≡ true
eq_self n = grind (arith, nat_tests)

insert_between : (p : ℕ × ℕ) (ps qs : List (ℕ × ℕ)) → PairsBelow (rank_of p) ps → PairsFrom (rank_of p) qs → insert_pair p (ps ++ qs) ≡ ps ++ p ∷ qs
unfolding PairsBelow PairsFrom
insert_between p [] [] hb hf = refl
insert_between p [] (q ∷ qs) hb hf = ap (λ (b : Bool). cond b (p ∷ q ∷ qs) (q ∷ insert_pair p qs)) (at_least (rank_of p) (rank_of q) hf)
insert_between p (r ∷ ps) qs hb hf =
    ap (λ (b : Bool). cond b (p ∷ r ∷ (ps ++ qs)) (r ∷ insert_pair p (ps ++ qs))) (below_false (rank_of p) (rank_of r) hb.0)
    ∙ ap (λ (xs : List (ℕ × ℕ)). r ∷ xs) (insert_between p ps qs hb.1 hf)

remove_below : (p r : ℕ × ℕ) (ps : List (ℕ × ℕ)) → rank_of r < rank_of p → remove_pair p (r ∷ ps) ≡ r ∷ remove_pair p ps
remove_below p r ps h = ap (λ (b : Bool). cond b (cond (rank_of p == rank_of r) ps (r ∷ ps)) (r ∷ remove_pair p ps)) (below_false (rank_of p) (rank_of r) h)

remove_between : (p : ℕ × ℕ) (ps qs : List (ℕ × ℕ)) → PairsBelow (rank_of p) ps → remove_pair p (ps ++ p ∷ qs) ≡ ps ++ qs
unfolding PairsBelow
remove_between p [] qs h = rw (at_least (rank_of p) (rank_of p) (omega arith), eq_self (rank_of p)) refl
remove_between p (r ∷ ps) qs h = remove_below p r (ps ++ p ∷ qs) h.0 ∙ ap (λ (xs : List (ℕ × ℕ)). r ∷ xs) (remove_between p ps qs h.1)

remove_absent : (p : ℕ × ℕ) (ps qs : List (ℕ × ℕ)) → PairsBelow (rank_of p) ps → PairsAbove (rank_of p) qs → remove_pair p (ps ++ qs) ≡ ps ++ qs
unfolding PairsBelow PairsAbove
remove_absent p [] [] h ha = refl
remove_absent p [] (q ∷ qs) h ha = rw (at_least (rank_of p) (rank_of q) (omega (arith, ha)), not_same (rank_of p) (rank_of q) ha) refl
remove_absent p (r ∷ ps) qs h ha = remove_below p r (ps ++ qs) h.0 ∙ ap (λ (xs : List (ℕ × ℕ)). r ∷ xs) (remove_absent p ps qs h.1 ha)

-- ---- pairs of ranges

row_below : (a n k x : ℕ) → rank a (n + k) ≤ x → PairsBelow x (spread_from a n k)
unfolding PairsBelow
row_below a n zero x h = tt
row_below a n (suc k) x h = (omega (arith, h), row_below a (n + 1) k x (omega (arith, h)))

both_below : (x : ℕ) (ps qs : List (ℕ × ℕ)) → PairsBelow x ps → PairsBelow x qs → PairsBelow x (ps ++ qs)
unfolding PairsBelow
both_below x [] qs hp hq = hq
both_below x (p ∷ ps) qs hp hq = (hp.0, both_below x ps qs hp.1 hq)

pairs_below : (x : ℕ) (ts : List Range) → AreRuns ts → AllBelow x ts → PairsBelow x (pairs_in ts)
unfolding PairsBelow
pairs_below x [] h hb = tt
pairs_below x (r ∷ rs) h hb =
    let hr = h.0 in
    let hx = hb.0 in
    both_below x (spread r) (pairs_in rs) (row_below r.attachment r.first (r.last + 1 - r.first) x (omega (arith, hr, hx))) (pairs_below x rs h.2 hb.1)

count_of : (r : Range) → r.first ≤ r.last → r.last + 1 - r.first ≡ suc (r.last - r.first)
count_of r h = omega (arith, h)

pairs_from : (x : ℕ) (bs : List Range) → AreRuns bs → StartsFrom x bs → PairsFrom x (pairs_in bs)
unfolding PairsFrom
pairs_from x [] h hs = tt
pairs_from x (r ∷ rs) h hs = rw (count_of r h.0) hs

pairs_above : (x : ℕ) (bs : List Range) → AreRuns bs → StartsAbove x bs → PairsAbove x (pairs_in bs)
unfolding PairsAbove
pairs_above x [] h hs = tt
pairs_above x (r ∷ rs) h hs = rw (count_of r h.0) hs

-- ---- a pair alone

one_more : (n : ℕ) → n + 1 - n ≡ 1
one_more n = omega arith

pub single_pairs : (p : ℕ × ℕ) → pairs_in (single p ∷ []) ≡ p ∷ []
single_pairs p = rw (one_more p.1) refl

single_runs : (p : ℕ × ℕ) → AreRuns (single p ∷ [])
single_runs p = (omega arith, tt, tt)

single_seam : (p : ℕ × ℕ) (bs : List Range) → StartsFrom (rank_of p) bs → Seam (single p ∷ []) bs
single_seam p [] h = tt
single_seam p (s ∷ ss) h = h

starts_glue_at : (b : Bool) (r s : Range) (ss : List Range) → StartsFrom (low_end r) (glue_at b r s ss)
starts_glue_at true r s ss = omega arith
starts_glue_at false r s ss = omega arith

starts_single : (p : ℕ × ℕ) (bs : List Range) → StartsFrom (rank_of p) (glue (single p ∷ []) bs)
starts_single p [] = omega arith
starts_single p (s ∷ ss) = starts_glue_at (meets (single p) s) (single p) s ss

low_seam : (x : ℕ) (ts bs : List Range) → AllBelow x ts → StartsFrom x bs → Seam ts bs
low_seam x [] bs h hs = tt
low_seam x (r ∷ []) [] h hs = tt
low_seam x (r ∷ []) (s ∷ ss) h hs = let hx = h.0 in omega (arith, hx, hs)
low_seam x (r ∷ q ∷ rs) bs h hs = low_seam x (q ∷ rs) bs h.1 hs

-- ---- a pair between ranges

pub put_runs : (p : ℕ × ℕ) (ts bs : List Range) → AreRuns ts → AreRuns bs → AllBelow (rank_of p) ts → StartsFrom (rank_of p) bs → AreRuns (glue ts (glue (single p ∷ []) bs))
put_runs p ts bs ht hb below above =
    let inner = are_runs_glue (single p ∷ []) bs (single_runs p) hb (single_seam p bs above) in
    are_runs_glue ts (glue (single p ∷ []) bs) ht inner (low_seam (rank_of p) ts (glue (single p ∷ []) bs) below (starts_single p bs))

pub put_pairs : (p : ℕ × ℕ) (ts bs : List Range) → AreRuns ts → AreRuns bs → AllBelow (rank_of p) ts → StartsFrom (rank_of p) bs
    → pairs_in (glue ts (glue (single p ∷ []) bs)) ≡ insert_pair p (pairs_in ts ++ pairs_in bs)
put_pairs p ts bs ht hb below above =
    let inner = are_runs_glue (single p ∷ []) bs (single_runs p) hb (single_seam p bs above) in
    pairs_glue ts (glue (single p ∷ []) bs) ht inner
    ∙ ap (λ (xs : List (ℕ × ℕ)). pairs_in ts ++ xs) (pairs_glue (single p ∷ []) bs (single_runs p) hb ∙ ap (λ (xs : List (ℕ × ℕ)). xs ++ pairs_in bs) (single_pairs p))
    ∙ sym (insert_between p (pairs_in ts) (pairs_in bs) (pairs_below (rank_of p) ts ht below) (pairs_from (rank_of p) bs hb above))

pub taken_runs : (x : ℕ) (ts bs : List Range) → AreRuns ts → AreRuns bs → AllBelow x ts → StartsFrom x bs → AreRuns (glue ts bs)
taken_runs x ts bs ht hb below above = are_runs_glue ts bs ht hb (low_seam x ts bs below above)

pub taken_pairs : (p : ℕ × ℕ) (ts bs : List Range) → AreRuns ts → AreRuns bs → AllBelow (rank_of p) ts → pairs_in (glue ts bs) ≡ remove_pair p (pairs_in ts ++ p ∷ pairs_in bs)
taken_pairs p ts bs ht hb below = pairs_glue ts bs ht hb ∙ sym (remove_between p (pairs_in ts) (pairs_in bs) (pairs_below (rank_of p) ts ht below))

pub absent_pairs : (p : ℕ × ℕ) (ts bs : List Range) → AreRuns ts → AreRuns bs → AllBelow (rank_of p) ts → StartsAbove (rank_of p) bs → remove_pair p (pairs_in ts ++ pairs_in bs) ≡ pairs_in ts ++ pairs_in bs
absent_pairs p ts bs ht hb below above = remove_absent p (pairs_in ts) (pairs_in bs) (pairs_below (rank_of p) ts ht below) (pairs_above (rank_of p) bs hb above)

-- ---- parts of runs

pub pairs_append : (ts bs : List Range) → pairs_in (ts ++ bs) ≡ pairs_in ts ++ pairs_in bs
pairs_append [] bs = refl
pairs_append (r ∷ rs) bs = ap (λ (xs : List (ℕ × ℕ)). spread r ++ xs) (pairs_append rs bs) ∙ sym (append_assoc (spread r) (pairs_in rs) (pairs_in bs))

pub runs_left : (ts bs : List Range) → AreRuns (ts ++ bs) → AreRuns ts
runs_left [] bs h = tt
runs_left (r ∷ []) bs h = (h.0, tt, tt)
runs_left (r ∷ q ∷ rs) bs h = (h.0, h.1, runs_left (q ∷ rs) bs h.2)

pub runs_right : (ts bs : List Range) → AreRuns (ts ++ bs) → AreRuns bs
runs_right [] bs h = h
runs_right (r ∷ rs) bs h = runs_right rs bs h.2

-- Ranges and their pairs.
use Rattle.std.specs.Prelude.{◌≡◌, ℕ, zero, suc, ◌+◌, ◌-◌, ◌*◌, ◌<◌, ◌≤◌, ◌==◌, ◌&&◌, nat_le, Bool, true, false, cond, List, [], ◌∷◌, ◌++◌, refl}
use Rattle.std.proofs.Common.{ap, sym, ◌∙◌, arith, subst, append-nil}
use Rattle.std.proofs.lemmas.List.{append_assoc}
use Rattle.std.proofs.lemmas.Bool.Decides.{nat_tests}
use Rattle.amqp_delivery.specs.declared.ranges.Range.{Range}
use Rattle.amqp_delivery.specs.Ranges.{rank, rank_of, insert_pair, remove_pair, single, meets, glue_at, cons_run, runs, glue, spread_from, spread, pairs_in, low_end, high_end, IsBefore, AreRuns, AllBelow, StartsFrom, Seam}

-- ---- what meeting says

and_true : (b c : Bool) → (b && c) ≡ true → (b ≡ true) × (c ≡ true)
and_true true c e = (refl, e)
and_true false c e = absurd cc

pub met : (r s : Range) → meets r s ≡ true → (r.attachment ≡ s.attachment) × (r.last + 1 ≡ s.first)
met r s e =
    let t = and_true (r.attachment == s.attachment) (r.last + 1 == s.first) e in
    (grind (arith, nat_tests, t.0), grind (arith, nat_tests, t.1))

pub meets_like : (r s t u : Range) → r.attachment ≡ t.attachment → r.last ≡ t.last → s.attachment ≡ u.attachment → s.first ≡ u.first → meets r s ≡ meets t u
meets_like r s t u ea el eb ef = rw (ea, el, eb, ef) refl

-- ---- rows of pairs

pub spread_split : (a n j k : ℕ) → spread_from a n (j + k) ≡ spread_from a n j ++ spread_from a (n + j) k
spread_split a n zero k = let e : 0 + k ≡ k = omega arith in let f : n + 0 ≡ n = omega arith in rw (e, f) refl
spread_split a n (suc j) k =
    let e : suc j + k ≡ suc (j + k) = omega arith in
    let f : n + suc j ≡ n + 1 + j = omega arith in
    rw (e, f) (ap (λ (xs : List (ℕ × ℕ)). (a, n) ∷ xs) (spread_split a (n + 1) j k))

-- the pairs of two ranges that meet
pub spread_joined : (r s : Range) → meets r s ≡ true → r.first ≤ r.last → s.first ≤ s.last → spread (record { attachment = r.attachment; first = r.first; last = s.last }) ≡ spread r ++ spread s
spread_joined r s e hr hs =
    let m = met r s e in
    let j = r.last + 1 - r.first in
    let k = s.last + 1 - s.first in
    let whole : s.last + 1 - r.first ≡ j + k = omega (arith, m.1) in
    let next : r.first + j ≡ s.first = omega (arith, m.1) in
    ap (spread_from r.attachment r.first) whole ∙ spread_split r.attachment r.first j k ∙ rw (next, m.0) refl

-- the pairs of ranges joined are the pairs of both
pub pairs_glue_at : (b : Bool) (r s : Range) (ss : List Range) → meets r s ≡ b → r.first ≤ r.last → s.first ≤ s.last → pairs_in (glue_at b r s ss) ≡ spread r ++ (spread s ++ pairs_in ss)
pairs_glue_at true r s ss e hr hs = ap (λ (xs : List (ℕ × ℕ)). xs ++ pairs_in ss) (spread_joined r s e hr hs) ∙ append_assoc (spread r) (spread s) (pairs_in ss)
pairs_glue_at false r s ss e hr hs = refl

pub pairs_glue : (ts bs : List Range) → AreRuns ts → AreRuns bs → pairs_in (glue ts bs) ≡ pairs_in ts ++ pairs_in bs
pairs_glue [] bs ha hb = refl
pairs_glue (r ∷ []) [] ha hb = sym (append-nil (pairs_in (r ∷ [])))
pairs_glue (r ∷ []) (s ∷ ss) ha hb =
    pairs_glue_at (meets r s) r s ss refl ha.0 hb.0 ∙ ap (λ (xs : List (ℕ × ℕ)). xs ++ pairs_in (s ∷ ss)) (sym (append-nil (spread r)))
pairs_glue (r ∷ q ∷ rs) bs ha hb =
    ap (λ (xs : List (ℕ × ℕ)). spread r ++ xs) (pairs_glue (q ∷ rs) bs ha.2 hb) ∙ sym (append_assoc (spread r) (pairs_in (q ∷ rs)) (pairs_in bs))

-- ---- ranges glued are runs

before_merged : (r s : Range) (ss : List Range) → r.attachment ≡ s.attachment → IsBefore s ss → IsBefore (record { attachment = r.attachment; first = r.first; last = s.last }) ss
before_merged r s [] e h = tt
before_merged r s (t ∷ ts) e h = (rw e h.0, rw e h.1)

are_runs_glue_at : (b : Bool) (r s : Range) (ss : List Range) → meets r s ≡ b → r.first ≤ r.last → high_end r ≤ low_end s → AreRuns (s ∷ ss) → AreRuns (glue_at b r s ss)
are_runs_glue_at true r s ss e hr seam hs = let m = met r s e in let hf = hs.0 in (omega (arith, m.1, hf), before_merged r s ss m.0 hs.1, hs.2)
are_runs_glue_at false r s ss e hr seam hs = (hr, (seam, e), hs)

-- what stands before ranges stands before them glued to others
before_glue_at : (b : Bool) (p r s : Range) (ss : List Range) → high_end p ≤ low_end r → meets p r ≡ false → IsBefore p (glue_at b r s ss)
before_glue_at true p r s ss h e = (h, e)
before_glue_at false p r s ss h e = (h, e)

before_glue : (p q : Range) (rs bs : List Range) → IsBefore p (q ∷ rs) → IsBefore p (glue (q ∷ rs) bs)
before_glue p q [] [] h = h
before_glue p q [] (s ∷ ss) h = before_glue_at (meets q s) p q s ss h.0 h.1
before_glue p q (r ∷ rs) bs h = h

pub are_runs_glue : (ts bs : List Range) → AreRuns ts → AreRuns bs → Seam ts bs → AreRuns (glue ts bs)
are_runs_glue [] bs ha hb seam = hb
are_runs_glue (r ∷ []) [] ha hb seam = ha
are_runs_glue (r ∷ []) (s ∷ ss) ha hb seam = are_runs_glue_at (meets r s) r s ss refl ha.0 seam hb
are_runs_glue (r ∷ q ∷ rs) bs ha hb seam = (ha.0, before_glue r q rs bs ha.1, are_runs_glue (q ∷ rs) bs ha.2 hb seam)

-- ---- runs of the pairs of ranges are the ranges

one_run : (p : ℕ × ℕ) (rs : List Range) (r : Range) → r ≡ single p → IsBefore r rs → cons_run p rs ≡ r ∷ rs
one_run p [] r e h = ap (λ (x : Range). x ∷ []) (sym e)
one_run p (s ∷ ss) r e h =
    let f : meets (single p) s ≡ false = ap (λ (x : Range). meets x s) (sym e) ∙ h.1 in
    ap (λ (b : Bool). glue_at b (single p) s ss) f ∙ ap (λ (x : Range). x ∷ s ∷ ss) (sym e)

abbrev row : ℕ → ℕ → ℕ → Range
row a n k = record { attachment = a; first = n; last = n + k }

eq_self : (n : ℕ) → (n == n) ≡ true
eq_self n = grind (arith, nat_tests)

next_meets : (a n k : ℕ) → meets (single (a, n)) (row a (n + 1) k) ≡ true
next_meets a n k = rw (eq_self a, eq_self (n + 1)) refl

before_row : (a n k : ℕ) (rs : List Range) → IsBefore (row a n (suc k)) rs → IsBefore (row a (n + 1) k) rs
before_row a n k [] h = tt
before_row a n k (s ∷ ss) h = let e : n + 1 + k ≡ n + suc k = omega arith in (rw e h.0, rw e h.1)

runs_row : (a n k : ℕ) (ps : List (ℕ × ℕ)) → IsBefore (row a n k) (runs ps) → runs (spread_from a n (suc k) ++ ps) ≡ row a n k ∷ runs ps
runs_row a n zero ps h = let e : n + 0 ≡ n = omega arith in one_run (a, n) (runs ps) (row a n 0) (ap (λ (m : ℕ). record { attachment = a; first = n; last = m }) e) h
runs_row a n (suc k) ps h =
    let e : n + 1 + k ≡ n + suc k = omega arith in
    ap (cons_run (a, n)) (runs_row a (n + 1) k ps (before_row a n k (runs ps) h))
    ∙ ap (λ (b : Bool). glue_at b (single (a, n)) (row a (n + 1) k) (runs ps)) (next_meets a n k)
    ∙ ap (λ (m : ℕ). record { attachment = a; first = n; last = m } ∷ runs ps) e

pub runs_pairs : (rs : List Range) → AreRuns rs → runs (pairs_in rs) ≡ rs
runs_pairs [] h = refl
runs_pairs (r ∷ rs) h =
    let rest = runs_pairs rs h.2 in
    let hr = h.0 in
    let k = r.last - r.first in
    let count : r.last + 1 - r.first ≡ suc k = omega (arith, hr) in
    let last : r.first + k ≡ r.last = omega (arith, hr) in
    let same : row r.attachment r.first k ≡ r = ap (λ (m : ℕ). record { attachment = r.attachment; first = r.first; last = m }) last in
    let before : IsBefore (row r.attachment r.first k) (runs (pairs_in rs)) = rw (same, rest) h.1 in
    ap (λ (c : ℕ). runs (spread_from r.attachment r.first c ++ pairs_in rs)) count ∙ runs_row r.attachment r.first k (pairs_in rs) before ∙ rw (same, rest) refl

-- A stable sort by place gives the deliveries in the order of their places.
use Rattle.std.proofs.Common.{◌≡◌, ℕ, zero, suc, ◌<◌, ◌≤◌, Bool, true, false, cond, List, [], ◌∷◌, length, get_or, filter, nat_lt, nat_cmp, is_lt, refl, sym, ap, ◌∙◌, arith, suc-le-suc, zero-le}
use Rattle.std.proofs.lemmas.Bool.Decides.{nat_tests}
use Rattle.std.specs.List.Sorted.{ties, IsNonDecreasingBy, IsStableByKey}
use Rattle.amqp_sender.specs.Parting.{Entry, placed, by_place}

-- whether two stand at one place
abbrev beside : Entry → Entry → Bool
beside = ties (λ x y. is_lt (nat_cmp x.1 y.1))

beside_at : (x y : Entry) → (beside x y ≡ true → x.1 ≡ y.1) × (x.1 ≡ y.1 → beside x y ≡ true)
beside_at x y = (λ h. grind (arith, nat_tests), λ h. grind (arith, nat_tests))

-- ---- `by_place` keeps the deliveries of a place, and their places rise

-- two that stand at different places can be exchanged
exchanged : (x e : Entry) (es : List Entry) (p q : Bool) → (p ≡ true → q ≡ true → ⊥) → cond p (x ∷ cond q (e ∷ es) es) (cond q (e ∷ es) es) ≡ cond q (e ∷ cond p (x ∷ es) es) (cond p (x ∷ es) es)
exchanged x e es true true apart = absurd (apart refl refl)
exchanged x e es true false apart = refl
exchanged x e es false true apart = refl
exchanged x e es false false apart = refl

placed_keeps_if : (y x e : Entry) (xs : List Entry) (b : Bool) → nat_lt x.1 e.1 ≡ b → filter (beside y) (placed e xs) ≡ filter (beside y) (e ∷ xs) → filter (beside y) (cond b (x ∷ placed e xs) (e ∷ x ∷ xs)) ≡ filter (beside y) (e ∷ x ∷ xs)
placed_keeps_if y x e xs true lower rest =
    ap (λ l. cond (beside y x) (x ∷ l) l) rest
    ∙ exchanged x e (filter (beside y) xs) (beside y x) (beside y e) (λ a b. let u = (beside_at y x).0 a in let v = (beside_at y e).0 b in grind (arith, nat_tests))
placed_keeps_if y x e xs false other rest = refl

placed_keeps : (y e : Entry) (xs : List Entry) → filter (beside y) (placed e xs) ≡ filter (beside y) (e ∷ xs)
placed_keeps y e [] = refl
placed_keeps y e (x ∷ xs) = placed_keeps_if y x e xs (nat_lt x.1 e.1) refl (placed_keeps y e xs)

by_place_keeps : (y : Entry) (es : List Entry) → filter (beside y) (by_place es) ≡ filter (beside y) es
by_place_keeps y [] = refl
by_place_keeps y (e ∷ es) = placed_keeps y e (by_place es) ∙ ap (λ l. cond (beside y e) (e ∷ l) l) (by_place_keeps y es)

-- each stands at that place or behind it
abbrev AreFrom : ℕ → List Entry → Type 0
AreFrom n [] = Unit {0}
AreFrom n (x ∷ xs) = (n ≤ x.1) × AreFrom n xs

abbrev Rise : List Entry → Type 0
Rise [] = Unit {0}
Rise (x ∷ xs) = AreFrom x.1 xs × Rise xs

from_lower : (m n : ℕ) (xs : List Entry) → m ≤ n → AreFrom n xs → AreFrom m xs
from_lower m n [] le h = tt
from_lower m n (x ∷ xs) le h = let first = h.0 in (omega arith, from_lower m n xs le h.1)

from_placed_if : (n : ℕ) (x e : Entry) (xs : List Entry) (b : Bool) → n ≤ e.1 → n ≤ x.1 → AreFrom n xs → AreFrom n (placed e xs) → AreFrom n (cond b (x ∷ placed e xs) (e ∷ x ∷ xs))
from_placed_if n x e xs true at first rest more = (first, more)
from_placed_if n x e xs false at first rest more = (at, (first, rest))

from_placed : (n : ℕ) (e : Entry) (xs : List Entry) → n ≤ e.1 → AreFrom n xs → AreFrom n (placed e xs)
from_placed n e [] at h = (at, tt)
from_placed n e (x ∷ xs) at h = from_placed_if n x e xs (nat_lt x.1 e.1) at h.0 h.1 (from_placed n e xs at h.1)

placed_rises_if : (x e : Entry) (xs : List Entry) (b : Bool) → nat_lt x.1 e.1 ≡ b → AreFrom x.1 xs → Rise xs → Rise (placed e xs) → Rise (cond b (x ∷ placed e xs) (e ∷ x ∷ xs))
placed_rises_if x e xs true lower above rest more = (from_placed x.1 e xs (grind (arith, nat_tests)) above, more)
placed_rises_if x e xs false other above rest more =
    let le : e.1 ≤ x.1 = grind (arith, nat_tests) in
    ((le, from_lower e.1 x.1 xs le above), (above, rest))

placed_rises : (e : Entry) (xs : List Entry) → Rise xs → Rise (placed e xs)
placed_rises e [] h = (tt, tt)
placed_rises e (x ∷ xs) h = placed_rises_if x e xs (nat_lt x.1 e.1) refl h.0 h.1 (placed_rises e xs h.1)

by_place_rises : (es : List Entry) → Rise (by_place es)
by_place_rises [] = tt
by_place_rises (e ∷ es) = placed_rises e (by_place es) (by_place_rises es)

-- ---- what a sort says

from_each : (n : ℕ) (xs : List Entry) → ((j : ℕ) (d : Entry) → j < length xs → n ≤ (get_or xs j d).1) → AreFrom n xs
from_each n [] h = tt
from_each n (x ∷ xs) h = (h zero x (suc-le-suc zero-le), from_each n xs (λ j d lt. h (suc j) d (suc-le-suc lt)))

sort_rises : (xs : List Entry) → IsNonDecreasingBy (λ (e : Entry). e.1) xs → Rise xs
sort_rises [] h = tt
sort_rises (x ∷ xs) h = (
  from_each x.1 xs (λ j d lt. h zero (suc j) d zero-le (suc-le-suc lt)),
  sort_rises xs (λ i j d le lt. h (suc i) (suc j) d (suc-le-suc le) (suc-le-suc lt)),
)

-- ---- two lists in order that agree at each place are the same

beside_from_if : (n : ℕ) (y z x : Entry) (xs ws : List Entry) (b : Bool) → beside y x ≡ b → n ≤ x.1 → (filter (beside y) xs ≡ z ∷ ws → n ≤ y.1) → cond b (x ∷ filter (beside y) xs) (filter (beside y) xs) ≡ z ∷ ws → n ≤ y.1
beside_from_if n y z x xs ws true at first more e = let same = (beside_at y x).0 at in omega (arith, same, first)
beside_from_if n y z x xs ws false at first more e = more e

-- the place of one that stands among them
beside_from : (n : ℕ) (y z : Entry) (xs ws : List Entry) → AreFrom n xs → filter (beside y) xs ≡ z ∷ ws → n ≤ y.1
beside_from n y z [] ws h e = cc
beside_from n y z (x ∷ xs) ws h e = beside_from_if n y z x xs ws (beside y x) refl h.0 (beside_from n y z xs ws h.1) e

-- the first of a list stands among those at its place
itself : (y : Entry) (ys : List Entry) → filter (beside y) (y ∷ ys) ≡ y ∷ filter (beside y) ys
itself y ys = ap (λ b. cond b (y ∷ filter (beside y) ys) (filter (beside y) ys)) ((beside_at y y).1 refl)

behind : (x y : Entry) (ys zs : List Entry) (b : Bool) → cond b (y ∷ ys) ys ≡ cond b (y ∷ zs) zs → ys ≡ zs
behind x y ys zs true e = cc
behind x y ys zs false e = e

same_lists : (ys zs : List Entry) → Rise ys → Rise zs → ((x : Entry) → filter (beside x) ys ≡ filter (beside x) zs) → ys ≡ zs
same_lists [] [] up over same = refl
same_lists [] (z ∷ zs) up over same = let clash = same z ∙ itself z zs in cc
same_lists (y ∷ ys) [] up over same = let clash = sym (same y) ∙ itself y ys in cc
same_lists (y ∷ ys) (z ∷ zs) up over same =
    let low : z.1 ≤ y.1 = beside_from z.1 y y (z ∷ zs) (filter (beside y) ys) (omega arith, over.0) (sym (same y) ∙ itself y ys) in
    let high : y.1 ≤ z.1 = beside_from y.1 z z (y ∷ ys) (filter (beside z) zs) (omega arith, up.0) (same z ∙ itself z zs) in
    let heads = sym (itself y ys) ∙ same y ∙ ap (λ b. cond b (z ∷ filter (beside y) zs) (filter (beside y) zs)) ((beside_at y z).1 (omega arith)) in
    let head : y ≡ z = cc in
    let rest : (x : Entry) → filter (beside x) ys ≡ filter (beside x) zs =
    λ x. behind x y (filter (beside x) ys) (filter (beside x) zs) (beside x y) (same x ∙ ap (λ w. cond (beside x w) (w ∷ filter (beside x) zs) (filter (beside x) zs)) (sym head)) in
    ap (λ w. w ∷ ys) head ∙ ap (λ l. z ∷ l) (same_lists ys zs up.1 over.1 rest)

pub sorted_by_place : (es ys : List Entry) → IsNonDecreasingBy (λ (e : Entry). e.1) ys → IsStableByKey (λ (e : Entry). e.1) nat_cmp es ys → ys ≡ by_place es
sorted_by_place es ys rising stable = same_lists ys (by_place es) (sort_rises ys rising) (by_place_rises es) (λ x. stable x ∙ sym (by_place_keeps x es))

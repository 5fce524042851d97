-- What filters keep.
use Rattle.std.specs.Prelude.{◌==◌, not, filter, ◌&&◌}
use Rattle.std.specs.Ordering.{nat_cmp, is_lt}
use Rattle.std.proofs.Common.{◌≡◌, ℕ, Bool, true, false, cond, List, [], ◌∷◌, refl, ap, ◌∙◌, arith}
use Rattle.std.proofs.lemmas.Bool.Decides.{nat_tests}

-- one element, of which the tests answer this
within_one : {X : Type 0} (p q : X → Bool) (x : X) (xs : List X) (b c : Bool) → p x ≡ b → (b ≡ true → c ≡ true) → filter p (filter q xs) ≡ filter p xs
    → filter p (cond c (x ∷ filter q xs) (filter q xs)) ≡ cond b (x ∷ filter p xs) (filter p xs)
within_one {X} p q x xs b true e h k = ap (λ (u : Bool). cond u (x ∷ filter p (filter q xs)) (filter p (filter q xs))) e ∙ ap (λ (u : List X). cond b (x ∷ u) u) k
within_one p q x xs true false e h k = cc (h refl)
within_one p q x xs false false e h k = k

-- what passes the one test passes the other, and is kept by it
pub filter_within : {X : Type 0} (p q : X → Bool) → ((x : X) → p x ≡ true → q x ≡ true) → (xs : List X) → filter p (filter q xs) ≡ filter p xs
filter_within p q h [] = refl
filter_within p q h (x ∷ xs) = within_one p q x xs (p x) (q x) refl (h x) (filter_within p q h xs)

apart_one : {X : Type 0} (p q : X → Bool) (x : X) (xs : List X) (b c : Bool) → p x ≡ b → (b ≡ true → c ≡ false) → filter p (filter q xs) ≡ []
    → filter p (cond c (x ∷ filter q xs) (filter q xs)) ≡ []
apart_one {X} p q x xs true true e h k = cc (h refl)
apart_one {X} p q x xs false true e h k = ap (λ (u : Bool). cond u (x ∷ filter p (filter q xs)) (filter p (filter q xs))) e ∙ k
apart_one p q x xs b false e h k = k

-- what passes the one test does not pass the other, which keeps nothing of it
pub filter_apart : {X : Type 0} (p q : X → Bool) → ((x : X) → p x ≡ true → q x ≡ false) → (xs : List X) → filter p (filter q xs) ≡ []
filter_apart p q h [] = refl
filter_apart p q h (x ∷ xs) = apart_one p q x xs (p x) (q x) refl (h x) (filter_apart p q h xs)

-- numbers tie in their order where they are equal
pub ties_nat : (m n : ℕ) → ((not (is_lt (nat_cmp m n))) && (not (is_lt (nat_cmp n m)))) ≡ (n == m)
ties_nat m n = grind (arith, nat_tests)

-- Comparing lists of values place by place.
use Rattle.std.proofs.Common.{◌≡◌, ℕ, suc, ◌+◌, ◌<◌, ◌≤◌, Bool, true, false, List, [], ◌∷◌, length, get_or, drop, refl, sym, ap, ◌∙◌, add-one, drop-cons}
use Rattle.std.specs.Prelude.{◌&&◌}
use Rattle.std.proofs.lemmas.List.{drop_all}
use Rattle.amqp_data.specs.Same.{same, same_items, same_pairs}
use Rattle.amqp_data.specs.View.{view, items_view, pairs_view}
use Rattle.amqp_data.specs.declared.value.Value.{Value}
use Rattle.amqp_data.specs.declared.value.Entry.{Entry}

and_false : (b : Bool) → (b && false) ≡ false
and_false true = refl
and_false false = refl

pub items_other : (xs ys : List Value) → (length xs ≡ length ys → ⊥) → same_items (items_view xs) (items_view ys) ≡ false
unfolding same_items
items_other [] [] h = absurd (h refl)
items_other [] (y ∷ ys) h = refl
items_other (x ∷ xs) [] h = refl
items_other (x ∷ xs) (y ∷ ys) h = rw (items_other xs ys (λ e. h (ap suc e))) (and_false (same (view x) (view y)))

pub items_from : List Value → List Value → ℕ → Bool
items_from xs ys i = same_items (items_view (drop i xs)) (items_view (drop i ys))

pub items_step : (xs ys : List Value) (i : ℕ) (x y : Value) → i < length xs → i < length ys → x ≡ get_or xs i x → y ≡ get_or ys i y
    → same_items (items_view (drop i xs)) (items_view (drop i ys)) ≡ (same (view x) (view y) && same_items (items_view (drop (i + 1) xs)) (items_view (drop (i + 1) ys)))
unfolding same_items
items_step xs ys i x y lx ly ex ey =
    let dx : drop i xs ≡ x ∷ drop (i + 1) xs = rw add-one (drop-cons xs i x lx ∙ ap (λ (z : Value). z ∷ drop (suc i) xs) (sym ex)) in
    let dy : drop i ys ≡ y ∷ drop (i + 1) ys = rw add-one (drop-cons ys i y ly ∙ ap (λ (z : Value). z ∷ drop (suc i) ys) (sym ey)) in
    rw (dx, dy) refl

pub items_done : (xs ys : List Value) (i : ℕ) → length xs ≤ i → length ys ≤ i → same_items (items_view (drop i xs)) (items_view (drop i ys)) ≡ true
unfolding same_items
items_done xs ys i lx ly = rw (drop_all i xs lx, drop_all i ys ly) refl

pub pairs_other : (xs ys : List Entry) → (length xs ≡ length ys → ⊥) → same_pairs (pairs_view xs) (pairs_view ys) ≡ false
unfolding same_pairs
pairs_other [] [] h = absurd (h refl)
pairs_other [] (y ∷ ys) h = refl
pairs_other (x ∷ xs) [] h = refl
pairs_other (x ∷ xs) (y ∷ ys) h = rw (pairs_other xs ys (λ e. h (ap suc e)), and_false (same (view x.value) (view y.value)), and_false (same (view x.key) (view y.key))) refl

and_assoc : (a b c : Bool) → (a && (b && c)) ≡ ((a && b) && c)
and_assoc true b c = refl
and_assoc false b c = refl

pub pairs_step : (xs ys : List Entry) (i : ℕ) (x y : Entry) → i < length xs → i < length ys → x ≡ get_or xs i x → y ≡ get_or ys i y
    → same_pairs (pairs_view (drop i xs)) (pairs_view (drop i ys)) ≡ ((same (view x.key) (view y.key) && same (view x.value) (view y.value)) && same_pairs (pairs_view (drop (i + 1) xs)) (pairs_view (drop (i + 1) ys)))
unfolding same_pairs
pairs_step xs ys i x y lx ly ex ey =
    let dx : drop i xs ≡ x ∷ drop (i + 1) xs = rw add-one (drop-cons xs i x lx ∙ ap (λ (z : Entry). z ∷ drop (suc i) xs) (sym ex)) in
    let dy : drop i ys ≡ y ∷ drop (i + 1) ys = rw add-one (drop-cons ys i y ly ∙ ap (λ (z : Entry). z ∷ drop (suc i) ys) (sym ey)) in
    rw (dx, dy) (and_assoc (same (view x.key) (view y.key)) (same (view x.value) (view y.value)) (same_pairs (pairs_view (drop (i + 1) xs)) (pairs_view (drop (i + 1) ys))))

pub pairs_done : (xs ys : List Entry) (i : ℕ) → length xs ≤ i → length ys ≤ i → same_pairs (pairs_view (drop i xs)) (pairs_view (drop i ys)) ≡ true
unfolding same_pairs
pairs_done xs ys i lx ly = rw (drop_all i xs lx, drop_all i ys ly) refl

-- the rest of a comparison, after one more place
pub goes_wrong : (whole rest one : Bool) (left : Bool) → left ≡ whole → left ≡ (one && rest) → one ≡ false → false ≡ whole
goes_wrong whole rest one left e f g = sym (ap (λ b. b && rest) g) ∙ sym f ∙ e

pub goes_on : (whole rest one : Bool) (left : Bool) → left ≡ whole → left ≡ (one && rest) → one ≡ true → rest ≡ whole
goes_on whole rest one left e f g = sym (ap (λ b. b && rest) g) ∙ sym f ∙ e

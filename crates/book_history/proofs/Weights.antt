-- The unsettled deliveries of a book, weighed by their tags.
use Rattle.std.specs.Prelude.{◌≡◌, ℕ, zero, suc, ◌+◌, ◌*◌, ◌≤◌, ◌<◌, Bool, true, false, cond, List, [], ◌∷◌, ◌++◌, get_or, length, Option, None, Some, refl, position, swap_remove}
use Rattle.std.proofs.Common.{arith, sym, ◌∙◌, ap}
use Rattle.std.proofs.lemmas.List.Sums.{sum_by-cons, sum_by-swap_remove}
use Rattle.std.proofs.lemmas.Slice.Eq.{bytes_eq-Decides}
use Rattle.std.specs.Str.{bytes_eq}
use Rattle.std.specs.Map.{lookup, keys_of}
use Rattle.std.proofs.lemmas.List.Quantifiers.{position-Some}
use Rattle.indexmap.specs.IndexMap.{swap_remove_entry}
use Rattle.indexmap.proofs.MapLemmas.{Found-position, Missing-position, swap_remove_entry-found}
use Rattle.amqp_delivery.specs.declared.entry.Kept.{Kept}
use Rattle.amqp_delivery.specs.declared.orders.Order.{Order}
use Rattle.book_history.specs.Counts.{settles, settled_count}
use Rattle.book_history.specs.Weights.{weigh, is_tag}

pub settled_count-append : (os ps : List Order) → settled_count (os ++ ps) ≡ settled_count os + settled_count ps
settled_count-append [] ps = omega arith
settled_count-append (o ∷ os) ps = let h = settled_count-append os ps in omega arith

-- ---- tags

pub same_tag : (t k : List ℕ) → bytes_eq t k ≡ true → k ≡ t
same_tag t k is = sym ((bytes_eq-Decides t k).0 is)

pub own_tag : (t : List ℕ) → bytes_eq t t ≡ true
own_tag t = (bytes_eq-Decides t t).1 refl

key_at : (es : List (List ℕ × Kept)) (i : ℕ) (d : List ℕ × Kept) → get_or (keys_of es) i d.0 ≡ (get_or es i d).0
key_at [] i d = refl
key_at (e ∷ es) zero d = refl
key_at (e ∷ es) (suc i) d = key_at es i d

removed_at : (w : List ℕ → ℕ) (t : List ℕ) (es : List (List ℕ × Kept)) (k : Kept) → lookup (bytes_eq t) es ≡ Some k → (p : Option ℕ) → position (bytes_eq t) (keys_of es) ≡ p → weigh w (swap_remove_entry (bytes_eq t) es) + w t ≡ weigh w es
removed_at w t es k found None is = let m = Missing-position (bytes_eq t) es is in absurd cc
removed_at w t es k found (Some i) is =
    let f = Found-position (bytes_eq t) es i is in
    let d : List ℕ × Kept = (t, k) in
    let s = sum_by-swap_remove (λ (p : List ℕ × Kept). w p.0) es i d f.within in
    let e = swap_remove_entry-found (bytes_eq t) es i d is in
    let q = position-Some (bytes_eq t) (keys_of es) i t is in
    let same : (get_or es i d).0 ≡ t = sym (key_at es i d) ∙ same_tag t (get_or (keys_of es) i t) q.1 in
    ap (λ (xs : List (List ℕ × Kept)). weigh w xs + w t) e ∙ (ap (λ (x : List ℕ). weigh w (swap_remove es i d) + w x) (sym same) ∙ s)

-- a found delivery that goes takes its weight along
pub removed_weight : (w : List ℕ → ℕ) (t : List ℕ) (es : List (List ℕ × Kept)) (k : Kept) → lookup (bytes_eq t) es ≡ Some k → weigh w (swap_remove_entry (bytes_eq t) es) + w t ≡ weigh w es
removed_weight w t es k found = removed_at w t es k found (position (bytes_eq t) (keys_of es)) refl

missing_at : (t : List ℕ) (e : List ℕ × Kept) (es : List (List ℕ × Kept)) → (lookup (bytes_eq t) es ≡ None → weigh (is_tag t) es ≡ 0) → (b : Bool) → bytes_eq t e.0 ≡ b → cond b (Some e.1) (lookup (bytes_eq t) es) ≡ None → cond b 1 0 + weigh (is_tag t) es ≡ 0
missing_at t e es rest true is none = absurd cc
missing_at t e es rest false is none = let h = rest none in omega arith

pub missing_weight : (t : List ℕ) (es : List (List ℕ × Kept)) → lookup (bytes_eq t) es ≡ None → weigh (is_tag t) es ≡ 0
missing_weight t [] none = refl
missing_weight t (e ∷ es) none =
    sum_by-cons (λ (p : List ℕ × Kept). is_tag t p.0) e es ∙ missing_at t e es (missing_weight t es) (bytes_eq t e.0) refl none

split_at : (w : List ℕ → ℕ) (t k : List ℕ) (b : Bool) → bytes_eq t k ≡ b → w k ≡ cond b 0 (w k) + w t * cond b 1 0
split_at w t k true is = let e = ap w (same_tag t k is) in omega arith
split_at w t k false is = omega arith

split_step : (a b c d e f u : ℕ) → a ≡ b + u * c → d ≡ e + u * f → a + d ≡ (b + e) + u * (c + f)
split_step a b c d e f u h g = grind (arith, h, g)

-- all but those of one tag, and these
pub split_weight : (w : List ℕ → ℕ) (t : List ℕ) (es : List (List ℕ × Kept)) → weigh w es ≡ weigh (λ k. cond (bytes_eq t k) 0 (w k)) es + w t * weigh (is_tag t) es
split_weight w t [] = omega arith
split_weight w t (e ∷ es) =
    let h = split_weight w t es in
    let a = sum_by-cons (λ (p : List ℕ × Kept). w p.0) e es in
    let b = sum_by-cons (λ (p : List ℕ × Kept). cond (bytes_eq t p.0) 0 (w p.0)) e es in
    let c = sum_by-cons (λ (p : List ℕ × Kept). is_tag t p.0) e es in
    let s = split_at w t e.0 (bytes_eq t e.0) refl in
    a ∙ (split_step (w e.0) (cond (bytes_eq t e.0) 0 (w e.0)) (is_tag t e.0) (weigh w es) (weigh (λ k. cond (bytes_eq t k) 0 (w k)) es) (weigh (is_tag t) es) (w t) s h
    ∙ (ap (λ (x : ℕ). x + w t * (is_tag t e.0 + weigh (is_tag t) es)) (sym b) ∙ ap (λ (x : ℕ). weigh (λ k. cond (bytes_eq t k) 0 (w k)) (e ∷ es) + w t * x) (sym c)))

pub ones_length : (es : List (List ℕ × Kept)) → weigh (λ k. 1) es ≡ length es
ones_length [] = refl
ones_length (e ∷ es) = sum_by-cons (λ (p : List ℕ × Kept). 1) e es ∙ (let h = ones_length es in omega arith)

-- a found tag weighs one
pub found_one : (w : List ℕ → ℕ) (t : List ℕ) (es : List (List ℕ × Kept)) (k : Kept) → lookup (bytes_eq t) es ≡ Some k → weigh (is_tag t) es ≤ 1 → weigh (is_tag t) es ≡ 1
found_one w t es k found few =
    let a = removed_weight (is_tag t) t es k found in
    let own : is_tag t t ≡ 1 = ap (λ (c : Bool). cond c 1 0) (own_tag t) in
    omega (arith, a, own, few)

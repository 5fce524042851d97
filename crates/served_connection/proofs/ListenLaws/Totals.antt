-- Sums over lists, and over tables of which one entry changes.
use Rattle.std.specs.Prelude.{◌≡◌, ◌≤◌, ◌<◌, ◌+◌, length, ℕ, nat_eq, Bool, true, false, cond, map, filter, position, List, [], ◌∷◌, ◌++◌, get_or, slice_get, Option, Some, None, if◌then◌else◌, refl}
use Rattle.std.proofs.Common.{sym, ◌∙◌, ap, subst, arith}
use Rattle.std.proofs.lemmas.List.Sums.{sum_by-cons, sum_by-swap_remove}
use Rattle.std.proofs.lemmas.List.Sorted.{sum_by-IsPermutation}
use Rattle.std.proofs.lemmas.Option.{slice_get-get_or, slice_get-map}
use Rattle.std.specs.List.{sum_by, swap_remove}
use Rattle.std.specs.List.Sorted.{IsPermutation}
use Rattle.std.specs.Map.{keys_of, values_of, lookup, set_value}
use Rattle.std.specs.Option.{option_map}
use Rattle.indexmap.specs.IndexMap.{insert_entry, swap_remove_entry}
use Rattle.indexmap.proofs.MapLemmas.{swap_remove_entry-found, swap_remove_entry-missing, Found-position, Missing-position}

-- what the items weigh together
unfoldable pub total : {X : Type 0} → (X → ℕ) → List X → ℕ
total f [] = 0
total f (x ∷ xs) = f x + total f xs

module _ {X : Type 0} (f : X → ℕ) where
  pub total_nil : total f [] ≡ 0
  unfolding total
  total_nil = refl

  pub total_cons : (x : X) (xs : List X) → total f (x ∷ xs) ≡ f x + total f xs
  unfolding total
  total_cons x xs = refl

  pub total_append : (xs ys : List X) → total f (xs ++ ys) ≡ total f xs + total f ys
  total_append [] ys = omega (arith, total_nil)
  total_append (x ∷ xs) ys = omega (arith, total_cons x (xs ++ ys), total_cons x xs, total_append xs ys)

  pub total_push : (xs : List X) (x : X) → total f (xs ++ x ∷ []) ≡ total f xs + f x
  total_push xs x = omega (arith, total_append xs (x ∷ []), total_cons x [], total_nil)

  total_is : (xs : List X) → total f xs ≡ sum_by f xs
  total_is [] = total_nil
  total_is (x ∷ xs) = omega (arith, total_cons x xs, sum_by-cons f x xs, total_is xs)

  pub total_permuted : (xs ys : List X) → IsPermutation xs ys → total f ys ≡ total f xs
  total_permuted xs ys h = total_is ys ∙ (sum_by-IsPermutation f xs ys h ∙ sym (total_is xs))

  total_swapped : (xs : List X) (i : ℕ) (d : X) → i < length xs → total f (swap_remove xs i d) + f (get_or xs i d) ≡ total f xs
  total_swapped xs i d h = omega (arith, total_is (swap_remove xs i d), total_is xs, sum_by-swap_remove f xs i d h)

  pub total_filtered : (keep : X → Bool) (xs : List X) → total f (filter keep xs) ≤ total f xs
  total_filtered keep [] = omega arith
  total_filtered keep (x ∷ xs) = by (keep x) (total_filtered keep xs)
    where
      by : (b : Bool) → total f (filter keep xs) ≤ total f xs → total f (cond b (x ∷ filter keep xs) (filter keep xs)) ≤ total f (x ∷ xs)
      by true rest = omega (arith, total_cons x (filter keep xs), total_cons x xs, rest)
      by false rest = omega (arith, total_cons x xs, rest)

-- what the values of a table weigh
abbrev pub value_weight : {X : Type 0} → (X → ℕ) → ℕ × X → ℕ
value_weight f e = f e.1

abbrev pub weigh : {X : Type 0} → (X → ℕ) → List (ℕ × X) → ℕ
weigh f es = total (value_weight f) es

module _ {X : Type 0} (f : X → ℕ) where
  pub weigh_inserted : (k : ℕ) (v : X) (es : List (ℕ × X)) → weigh f (insert_entry nat_eq es k v) ≤ weigh f es + f v
  weigh_inserted k v [] = omega (arith, total_cons (value_weight f) (k, v) [], total_nil (value_weight f))
  weigh_inserted k v (e ∷ es) = by (nat_eq k e.0) (weigh_inserted k v es)
    where
      by : (b : Bool) → weigh f (insert_entry nat_eq es k v) ≤ weigh f es + f v → weigh f (if b then (e.0, v) ∷ es else e ∷ insert_entry nat_eq es k v) ≤ weigh f (e ∷ es) + f v
      by true rest = omega (arith, total_cons (value_weight f) (e.0, v) es, total_cons (value_weight f) e es)
      by false rest = omega (arith, total_cons (value_weight f) e (insert_entry nat_eq es k v), total_cons (value_weight f) e es, rest)

  weight_same : (v w : X) → Some v ≡ Some w → f v ≡ f w
  weight_same v w h = let e : v ≡ w = (cc) in ap f e

  pub weigh_set : (k : ℕ) (es : List (ℕ × X)) (v w : X) → lookup (nat_eq k) es ≡ Some v → weigh f (set_value (nat_eq k) es w) + f v ≡ weigh f es + f w
  weigh_set k [] v w h = absurd cc
  weigh_set k (e ∷ es) v w h = by (nat_eq k e.0) h (λ g. weigh_set k es v w g)
    where
      by : (b : Bool) → cond b (Some e.1) (lookup (nat_eq k) es) ≡ Some v → (lookup (nat_eq k) es ≡ Some v → weigh f (set_value (nat_eq k) es w) + f v ≡ weigh f es + f w) → weigh f (cond b ((e.0, w) ∷ es) (e ∷ set_value (nat_eq k) es w)) + f v ≡ weigh f (e ∷ es) + f w
      by true g rest = omega (arith, total_cons (value_weight f) (e.0, w) es, total_cons (value_weight f) e es, weight_same e.1 v g)
      by false g rest = omega (arith, total_cons (value_weight f) e (set_value (nat_eq k) es w), total_cons (value_weight f) e es, rest g)

  -- what is found at a key
  abbrev pub found : Option X → ℕ
  found None = 0
  found (Some v) = f v

  found_value : (o : Option (ℕ × X)) (e : ℕ × X) → o ≡ Some e → found (option_map (λ (p : ℕ × X). p.1) o) ≡ f e.1
  found_value o e h = ap (λ (q : Option (ℕ × X)). found (option_map (λ (p : ℕ × X). p.1) q)) h

  removed_by : (k : ℕ) (e : ℕ × X) (es : List (ℕ × X)) (o : Option ℕ) → position (nat_eq k) (keys_of (e ∷ es)) ≡ o → weigh f (swap_remove_entry (nat_eq k) (e ∷ es)) + found (lookup (nat_eq k) (e ∷ es)) ≡ weigh f (e ∷ es)
  removed_by k e es None at =
      let fs : List (ℕ × X) = e ∷ es in
      let same : weigh f (swap_remove_entry (nat_eq k) fs) ≡ weigh f fs = ap (weigh f) (swap_remove_entry-missing (nat_eq k) fs at) in
      let none : found (lookup (nat_eq k) fs) ≡ 0 = ap found (Missing-position (nat_eq k) fs at).value in
      omega (arith, same, none)
  removed_by k e es (Some i) at =
      let fs : List (ℕ × X) = e ∷ es in
      let p : ℕ × X = get_or fs i e in
      let here = Found-position (nat_eq k) fs i at in
      let same : weigh f (swap_remove_entry (nat_eq k) fs) ≡ weigh f (swap_remove fs i e) = ap (weigh f) (swap_remove_entry-found (nat_eq k) fs i e at) in
      let there : slice_get fs i ≡ Some p = slice_get-get_or fs i e here.within in
      let value : lookup (nat_eq k) fs ≡ option_map (λ (q : ℕ × X). q.1) (slice_get fs i) = here.value ∙ slice_get-map (λ (q : ℕ × X). q.1) fs i in
      let is : found (lookup (nat_eq k) fs) ≡ f p.1 = ap found value ∙ found_value (slice_get fs i) p there in
      omega (arith, same, is, total_swapped (value_weight f) fs i e here.within)

  pub weigh_removed : (k : ℕ) (es : List (ℕ × X)) → weigh f (swap_remove_entry (nat_eq k) es) + found (lookup (nat_eq k) es) ≡ weigh f es
  weigh_removed k [] = omega arith
  weigh_removed k (e ∷ es) = removed_by k e es (position (nat_eq k) (keys_of (e ∷ es))) refl

  pub weigh_turned : (turn : X → X) → ((x : X) → f (turn x) ≤ f x) → (es : List (ℕ × X)) → weigh f (map (λ (e : ℕ × X). (e.0, turn e.1)) es) ≤ weigh f es
  weigh_turned turn h [] = omega arith
  weigh_turned turn h (e ∷ es) =
      omega (arith, total_cons (value_weight f) (e.0, turn e.1) (map (λ (x : ℕ × X). (x.0, turn x.1)) es), total_cons (value_weight f) e es, h e.1, weigh_turned turn h es)

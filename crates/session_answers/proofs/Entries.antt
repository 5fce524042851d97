-- What is true of each session of a table, under its name, stays true where one is entered, changed or let go.
use Rattle.std.proofs.Common.{◌≡◌, subst, refl, sym, arith, ℕ, ◌-◌, ◌<◌, nat_eq, Bool, true, false, cond, List, [], ◌∷◌, length, get_or, slice_set, position, All, Option, Some, None, if◌then◌else◌}
use Rattle.std.proofs.lemmas.Bool.Decides.{nat_tests}
use Rattle.std.proofs.lemmas.List.Elements.{All-from_recursion, recursion_from_All, All-take, All-set, All-get_or}
use Rattle.std.specs.List.{swap_remove, AllByRecursion}
use Rattle.std.specs.Map.{keys_of, lookup, set_value}
use Rattle.indexmap.specs.IndexMap.{insert_entry, swap_remove_entry}
use Rattle.indexmap.proofs.MapLemmas.{swap_remove_entry-found, swap_remove_entry-missing, Found-position}

same_name : (n k : ℕ) → nat_eq n k ≡ true → n ≡ k
same_name n k h = grind (arith, nat_tests)

module _ {X : Type 0} (P : ℕ × X → Type 0) where
  at_name : (k n : ℕ) (v : X) → nat_eq k n ≡ true → P (k, v) → P (n, v)
  at_name k n v t p = subst (λ (m : ℕ). P (m, v)) (same_name k n t) p

  inserted : (k : ℕ) (v : X) (es : List (ℕ × X)) → P (k, v) → AllByRecursion P es → AllByRecursion P (insert_entry nat_eq es k v)
  inserted k v [] p h = (p, tt)
  inserted k v (e ∷ es) p h = by (nat_eq k e.0) refl (inserted k v es p h.1)
    where
      by : (c : Bool) → nat_eq k e.0 ≡ c → AllByRecursion P (insert_entry nat_eq es k v) → AllByRecursion P (if c then (e.0, v) ∷ es else e ∷ insert_entry nat_eq es k v)
      by true t rest = (at_name k e.0 v t p, h.1)
      by false t rest = (h.0, rest)

  pub all_inserted : (k : ℕ) (v : X) (es : List (ℕ × X)) → P (k, v) → All P es → All P (insert_entry nat_eq es k v)
  all_inserted k v es p h = All-from_recursion P _ (inserted k v es p (recursion_from_All P es h))

  set_in : (k : ℕ) (w : X) (es : List (ℕ × X)) → P (k, w) → AllByRecursion P es → AllByRecursion P (set_value (nat_eq k) es w)
  set_in k w [] p h = tt
  set_in k w (e ∷ es) p h = by (nat_eq k e.0) refl (set_in k w es p h.1)
    where
      by : (c : Bool) → nat_eq k e.0 ≡ c → AllByRecursion P (set_value (nat_eq k) es w) → AllByRecursion P (cond c ((e.0, w) ∷ es) (e ∷ set_value (nat_eq k) es w))
      by true t rest = (at_name k e.0 w t p, h.1)
      by false t rest = (h.0, rest)

  pub all_set : (k : ℕ) (w : X) (es : List (ℕ × X)) → P (k, w) → All P es → All P (set_value (nat_eq k) es w)
  all_set k w es p h = All-from_recursion P _ (set_in k w es p (recursion_from_All P es h))

  found_in : (k : ℕ) (v : X) (es : List (ℕ × X)) → lookup (nat_eq k) es ≡ Some v → AllByRecursion P es → P (k, v)
  found_in k v [] f h = cc
  found_in k v (e ∷ es) f h = by (nat_eq k e.0) refl f (λ g. found_in k v es g h.1)
    where
      by : (c : Bool) → nat_eq k e.0 ≡ c → cond c (Some e.1) (lookup (nat_eq k) es) ≡ Some v → (lookup (nat_eq k) es ≡ Some v → P (k, v)) → P (k, v)
      by true t g rest =
          let value : e.1 ≡ v = cc in
          let name : e.0 ≡ k = sym (same_name k e.0 t) in
          subst (λ (m : ℕ). P (m, v)) name (subst (λ (w : X). P (e.0, w)) value h.0)
      by false t g rest = rest g

  pub all_found : (k : ℕ) (v : X) (es : List (ℕ × X)) → lookup (nat_eq k) es ≡ Some v → All P es → P (k, v)
  all_found k v es f h = found_in k v es f (recursion_from_All P es h)

  removed : (es : List (ℕ × X)) (i : ℕ) (d : ℕ × X) → i < length es → All P es → All P (swap_remove es i d)
  removed es i d inside h =
      let last : length es - 1 < length es = omega (arith, inside) in
      All-take P (length es - 1) (slice_set es i (get_or es (length es - 1) d))
      (All-set P es i (get_or es (length es - 1) d) (All-get_or P es (length es - 1) d last h) h)

  gone_by : (test : ℕ → Bool) (es : List (ℕ × X)) (d : ℕ × X) (o : Option ℕ) → position test (keys_of es) ≡ o → All P es → All P (swap_remove_entry test es)
  gone_by test es d None at h = subst (All P) (sym (swap_remove_entry-missing test es at)) h
  gone_by test es d (Some i) at h =
      let found = Found-position test es i at in
      subst (All P) (sym (swap_remove_entry-found test es i d at)) (removed es i d found.within h)

  pub all_gone : (test : ℕ → Bool) (es : List (ℕ × X)) → All P es → All P (swap_remove_entry test es)
  all_gone test [] h = h
  all_gone test (e ∷ es) h = gone_by test (e ∷ es) e (position test (keys_of (e ∷ es))) refl h

-- What is true of each entry of a table stays true where one is entered or let go, and of one that is found.
use Rattle.std.proofs.Common.{◌≡◌, subst, refl, sym, arith, ℕ, ◌-◌, ◌<◌, nat_eq, Bool, true, false, cond, List, [], ◌∷◌, length, get_or, slice_set, position, All, Option, Some, None, if◌then◌else◌}
use Rattle.std.proofs.lemmas.Bool.{eqb-true}
use Rattle.std.proofs.lemmas.List.Elements.{All-from_recursion, recursion_from_All, All-take, All-set, All-get_or}
use Rattle.std.proofs.lemmas.Slice.Eq.{bytes_eq-Decides}
use Rattle.std.specs.List.{swap_remove, AllByRecursion}
use Rattle.std.specs.Map.{keys_of, lookup, set_value}
use Rattle.std.specs.Str.{bytes_eq}
use Rattle.indexmap.specs.IndexMap.{insert_entry, swap_remove_entry}
use Rattle.indexmap.proofs.MapLemmas.{swap_remove_entry-found, swap_remove_entry-missing, Found-position}

module _ {K X : Type 0} (eq : K → K → Bool) (same : (a c : K) → eq a c ≡ true → a ≡ c) (P : K × X → Type 0) where
  inserted : (k : K) (v : X) (es : List (K × X)) → P (k, v) → AllByRecursion P es → AllByRecursion P (insert_entry eq es k v)
  inserted k v [] p h = (p, tt)
  inserted k v (e ∷ es) p h = by (eq k e.0) refl (inserted k v es p h.1)
    where
      by : (c : Bool) → eq k e.0 ≡ c → AllByRecursion P (insert_entry eq es k v) → AllByRecursion P (if c then (e.0, v) ∷ es else e ∷ insert_entry eq es k v)
      by true t rest = (subst (λ (m : K). P (m, v)) (same k e.0 t) p, h.1)
      by false t rest = (h.0, rest)

  pub entered : (k : K) (v : X) (es : List (K × X)) → P (k, v) → All P es → All P (insert_entry eq es k v)
  entered k v es p h = All-from_recursion P _ (inserted k v es p (recursion_from_All P es h))

  set_in : (k : K) (w : X) (es : List (K × X)) → P (k, w) → AllByRecursion P es → AllByRecursion P (set_value (eq k) es w)
  set_in k w [] p h = tt
  set_in k w (e ∷ es) p h = by (eq k e.0) refl (set_in k w es p h.1)
    where
      by : (c : Bool) → eq k e.0 ≡ c → AllByRecursion P (set_value (eq k) es w) → AllByRecursion P (cond c ((e.0, w) ∷ es) (e ∷ set_value (eq k) es w))
      by true t rest = (subst (λ (m : K). P (m, w)) (same k e.0 t) p, h.1)
      by false t rest = (h.0, rest)

  pub changed : (k : K) (w : X) (es : List (K × X)) → P (k, w) → All P es → All P (set_value (eq k) es w)
  changed k w es p h = All-from_recursion P _ (set_in k w es p (recursion_from_All P es h))

  found_in : (k : K) (v : X) (es : List (K × X)) → lookup (eq k) es ≡ Some v → AllByRecursion P es → P (k, v)
  found_in k v [] f h = absurd cc
  found_in k v (e ∷ es) f h = by (eq k e.0) refl f (λ g. found_in k v es g h.1)
    where
      by : (c : Bool) → eq k e.0 ≡ c → cond c (Some e.1) (lookup (eq k) es) ≡ Some v → (lookup (eq k) es ≡ Some v → P (k, v)) → P (k, v)
      by true t g rest =
          let value : e.1 ≡ v = cc in
          subst (λ (m : K). P (m, v)) (sym (same k e.0 t)) (subst (λ (w : X). P (e.0, w)) value h.0)
      by false t g rest = rest g

  pub found : (k : K) (v : X) (es : List (K × X)) → lookup (eq k) es ≡ Some v → All P es → P (k, v)
  found k v es f h = found_in k v es f (recursion_from_All P es h)

module _ {K X : Type 0} (P : K × X → Type 0) where
  removed : (es : List (K × X)) (i : ℕ) (d : K × X) → i < length es → All P es → All P (swap_remove es i d)
  removed es i d inside h =
      let last : length es - 1 < length es = omega (arith, inside) in
      All-take P (length es - 1) (slice_set es i (get_or es (length es - 1) d))
      (All-set P es i (get_or es (length es - 1) d) (All-get_or P es (length es - 1) d last h) h)

  gone_by : (test : K → Bool) (es : List (K × X)) (d : K × X) (o : Option ℕ) → position test (keys_of es) ≡ o → All P es → All P (swap_remove_entry test es)
  gone_by test es d None at h = subst (All P) (sym (swap_remove_entry-missing test es at)) h
  gone_by test es d (Some i) at h =
      let f = Found-position test es i at in
      subst (All P) (sym (swap_remove_entry-found test es i d at)) (removed es i d f.within h)

  pub all_gone : (test : K → Bool) (es : List (K × X)) → All P es → All P (swap_remove_entry test es)
  all_gone test [] h = h
  all_gone test (e ∷ es) h = gone_by test (e ∷ es) e (position test (keys_of (e ∷ es))) refl h

-- ---- by numbers

pub all_inserted : {X : Type 0} (P : ℕ × X → Type 0) (k : ℕ) (v : X) (es : List (ℕ × X)) → P (k, v) → All P es → All P (insert_entry nat_eq es k v)
all_inserted P k v es p h = entered nat_eq eqb-true P k v es p h

pub all_found : {X : Type 0} (P : ℕ × X → Type 0) (k : ℕ) (v : X) (es : List (ℕ × X)) → lookup (nat_eq k) es ≡ Some v → All P es → P (k, v)
all_found P k v es f h = found nat_eq eqb-true P k v es f h

pub all_set : {X : Type 0} (P : ℕ × X → Type 0) (k : ℕ) (w : X) (es : List (ℕ × X)) → P (k, w) → All P es → All P (set_value (nat_eq k) es w)
all_set P k w es p h = changed nat_eq eqb-true P k w es p h

-- ---- by names

same_bytes : (a c : List ℕ) → bytes_eq a c ≡ true → a ≡ c
same_bytes a c h = (bytes_eq-Decides a c).0 h

pub name_inserted : {X : Type 0} (P : List ℕ × X → Type 0) (k : List ℕ) (v : X) (es : List (List ℕ × X)) → P (k, v) → All P es → All P (insert_entry bytes_eq es k v)
name_inserted P k v es p h = entered bytes_eq same_bytes P k v es p h

pub name_found : {X : Type 0} (P : List ℕ × X → Type 0) (k : List ℕ) (v : X) (es : List (List ℕ × X)) → lookup (bytes_eq k) es ≡ Some v → All P es → P (k, v)
name_found P k v es f h = found bytes_eq same_bytes P k v es f h

-- What is true of each session of the table stays true where one is entered, changed or let go.
use Rattle.std.proofs.Common.{◌≡◌, ◌≢◌, ◌⊎◌, inl, inr, ◌∙◌, ap, subst, refl, sym, arith, ℕ, zero, suc, ◌+◌, ◌-◌, ◌<◌, nat_eq, Bool, true, false, cond, not, eqb, List, [], ◌∷◌, length, take, get_or, slice_set, position, All, Option, Some, None, if◌then◌else◌}
use Rattle.std.proofs.lemmas.Bool.Decides.{eqb_tells}
use Rattle.std.proofs.lemmas.List.{get_or-take, get_or-set_same, get_or-set_other, length-take, length-set}
use Rattle.std.proofs.lemmas.List.Elements.{All-from_recursion, recursion_from_All}
use Rattle.std.proofs.lemmas.Map.{keys-set_value, length-set_value}
use Rattle.std.specs.List.{swap_remove, position_or_len, AllByRecursion}
use Rattle.std.specs.Map.{keys_of, lookup, set_value}
use Rattle.indexmap.specs.IndexMap.{insert_entry, swap_remove_entry}
use Rattle.indexmap.proofs.MapLemmas.{swap_remove_entry-found, swap_remove_entry-missing, Found-position, Missing-position}

module _ {X : Type 0} (P : X → Type 0) where
  -- of each value
  abbrev pub Each : List (ℕ × X) → Type 0
  Each es = All (λ e. P e.1) es

  inserted : (k : ℕ) (v : X) (es : List (ℕ × X)) → P v → AllByRecursion (λ e. P e.1) es → AllByRecursion (λ e. P e.1) (insert_entry nat_eq es k v)
  inserted k v [] p h = (p, tt)
  inserted k v (e ∷ es) p h = by (nat_eq k e.0) (inserted k v es p h.1)
    where
      by : (c : Bool) → AllByRecursion (λ e. P e.1) (insert_entry nat_eq es k v) → AllByRecursion (λ e. P e.1) (if c then (e.0, v) ∷ es else e ∷ insert_entry nat_eq es k v)
      by true rest = (p, h.1)
      by false rest = (h.0, rest)

  pub each_inserted : (k : ℕ) (v : X) (es : List (ℕ × X)) → P v → Each es → Each (insert_entry nat_eq es k v)
  each_inserted k v es p h = All-from_recursion (λ e. P e.1) _ (inserted k v es p (recursion_from_All (λ e. P e.1) es h))

  set_in : (test : ℕ → Bool) (w : X) (es : List (ℕ × X)) → P w → AllByRecursion (λ e. P e.1) es → AllByRecursion (λ e. P e.1) (set_value test es w)
  set_in test w [] p h = tt
  set_in test w (e ∷ es) p h = by (test e.0) (set_in test w es p h.1)
    where
      by : (c : Bool) → AllByRecursion (λ e. P e.1) (set_value test es w) → AllByRecursion (λ e. P e.1) (cond c ((e.0, w) ∷ es) (e ∷ set_value test es w))
      by true rest = (p, h.1)
      by false rest = (h.0, rest)

  pub each_set : (test : ℕ → Bool) (w : X) (es : List (ℕ × X)) → P w → Each es → Each (set_value test es w)
  each_set test w es p h = All-from_recursion (λ e. P e.1) _ (set_in test w es p (recursion_from_All (λ e. P e.1) es h))

  found_in : (test : ℕ → Bool) (v : X) (es : List (ℕ × X)) → lookup test es ≡ Some v → AllByRecursion (λ e. P e.1) es → P v
  found_in test v [] f h = cc
  found_in test v (e ∷ es) f h = by (test e.0) f (λ g. found_in test v es g h.1)
    where
      by : (c : Bool) → cond c (Some e.1) (lookup test es) ≡ Some v → (lookup test es ≡ Some v → P v) → P v
      by true g rest = let same : e.1 ≡ v = cc in subst P same h.0
      by false g rest = rest g

  pub each_found : (test : ℕ → Bool) (v : X) (es : List (ℕ × X)) → lookup test es ≡ Some v → Each es → P v
  each_found test v es f h = found_in test v es f (recursion_from_All (λ e. P e.1) es h)

  -- of each but the first that passes the test
  abbrev pub EachBut : (ℕ → Bool) → List (ℕ × X) → Type 0
  EachBut test es = (j : ℕ) (d : ℕ × X) → j < length es → j ≢ position_or_len test (keys_of es) → P (get_or es j d).1

  pub but_of : (test : ℕ → Bool) (es : List (ℕ × X)) → Each es → EachBut test es
  but_of test es h = λ j d within apart. h j d within

  apart_set : (test : ℕ → Bool) (w : X) (es : List (ℕ × X)) (j : ℕ) (d : ℕ × X) → j ≢ position_or_len test (keys_of es) → get_or (set_value test es w) j d ≡ get_or es j d
  apart_set test w [] j d apart = refl
  apart_set test w (e ∷ es) j d apart = by (test e.0) refl j apart (λ k far. apart_set test w es k d far)
    where
      by : (c : Bool) → test e.0 ≡ c → (k : ℕ) → k ≢ position_or_len test (keys_of (e ∷ es)) → ((m : ℕ) → m ≢ position_or_len test (keys_of es) → get_or (set_value test es w) m d ≡ get_or es m d) → get_or (cond c ((e.0, w) ∷ es) (e ∷ set_value test es w)) k d ≡ get_or (e ∷ es) k d
      by true t zero far rest = absurd (far (sym (ap (λ b. cond (not b) (1 + position_or_len test (keys_of es)) 0) t)))
      by true t (suc m) far rest = refl
      by false t zero far rest = refl
      by false t (suc m) far rest = rest m (λ e'. far (omega (arith, e', ap (λ b. cond (not b) (1 + position_or_len test (keys_of es)) 0) t)))

  -- where it is changed the others stay
  pub but_set : (test : ℕ → Bool) (w : X) (es : List (ℕ × X)) → EachBut test es → EachBut test (set_value test es w)
  but_set test w es h = λ j d within apart.
      let far : j ≢ position_or_len test (keys_of es) = λ e. apart (e ∙ sym (ap (position_or_len test) (keys-set_value test es w))) in
      let inside : j < length es = omega (arith, within, length-set_value test es w) in
      subst (λ (e : ℕ × X). P e.1) (sym (apart_set test w es j d far)) (h j d inside far)

  gone_at : (xs : List (ℕ × X)) (i : ℕ) (d : ℕ × X) → i < length xs → ((j : ℕ) (e : ℕ × X) → j < length xs → j ≢ i → P (get_or xs j e).1) → Each (swap_remove xs i d)
  gone_at xs i d inside h = λ k e within.
      let few : k < length xs - 1 = omega (arith, within, length-take (length xs - 1) (slice_set xs i (get_or xs (length xs - 1) d)), length-set xs i (get_or xs (length xs - 1) d)) in
      let taken : get_or (take (length xs - 1) (slice_set xs i (get_or xs (length xs - 1) d))) k e ≡ get_or (slice_set xs i (get_or xs (length xs - 1) d)) k e = get_or-take (length xs - 1) (slice_set xs i (get_or xs (length xs - 1) d)) k e few in
      subst (λ (f : ℕ × X). P f.1) (sym taken) (by k e few (eqb_tells k i))
    where
      by : (k : ℕ) (e : ℕ × X) → k < length xs - 1 → ((eqb k i ≡ true) × (k ≡ i)) ⊎ ((eqb k i ≡ false) × (k ≢ i)) → P (get_or (slice_set xs i (get_or xs (length xs - 1) d)) k e).1
      by k e few (inl same) =
          let there : get_or (slice_set xs i (get_or xs (length xs - 1) d)) k e ≡ get_or xs (length xs - 1) d = ap (λ n. get_or (slice_set xs i (get_or xs (length xs - 1) d)) n e) same.1 ∙ get_or-set_same xs i (get_or xs (length xs - 1) d) e inside in
          subst (λ (f : ℕ × X). P f.1) (sym there) (h (length xs - 1) d (omega arith) (λ last. omega (arith, last, same.1, few)))
      by k e few (inr other) =
          subst (λ (f : ℕ × X). P f.1) (sym (get_or-set_other xs i k (get_or xs (length xs - 1) d) e other.1)) (h k e (omega arith) other.1)

  gone_by : (test : ℕ → Bool) (es : List (ℕ × X)) (d : ℕ × X) (o : Option ℕ) → position test (keys_of es) ≡ o → EachBut test es → Each (swap_remove_entry test es)
  gone_by test es d None at h =
      let missing = Missing-position test es at in
      subst Each (sym (swap_remove_entry-missing test es at)) (λ j e within. h j e within (λ same. omega (arith, same, missing.or_len, within)))
  gone_by test es d (Some i) at h =
      let found = Found-position test es i at in
      subst Each (sym (swap_remove_entry-found test es i d at)) (gone_at es i d found.within (λ j e within apart. h j e within (λ same. apart (same ∙ found.or_len))))

  -- where it is let go as well
  pub each_gone : (test : ℕ → Bool) (es : List (ℕ × X)) → EachBut test es → Each (swap_remove_entry test es)
  each_gone test [] h = λ j e within. absurd (omega (arith, within))
  each_gone test (e ∷ es) h = gone_by test (e ∷ es) e (position test (keys_of (e ∷ es))) refl h

-- Tables whose keys are distinct, of which one entry is made, changes or goes.
use Rattle.std.specs.Prelude.{◌≡◌, ℕ, nat_eq, Bool, true, false, cond, position, get_or, slice_get, List, [], ◌∷◌, Option, Some, None, refl}
use Rattle.std.proofs.Common.{sym, ◌∙◌, ap, subst}
use Rattle.std.proofs.lemmas.Bool.{eqb-true}
use Rattle.std.proofs.lemmas.Map.{keys-set_value}
use Rattle.std.proofs.lemmas.Option.{slice_get-get_or}
use Rattle.std.specs.Cmp.{nat_eq_equiv}
use Rattle.std.specs.List.{IsDistinct, AllByRecursion, swap_remove}
use Rattle.std.specs.Map.{keys_of, lookup, set_value}
use Rattle.indexmap.specs.IndexMap.{insert_entry, swap_remove_entry}
use Rattle.indexmap.proofs.MapLemmas.{swap_remove_entry-found, swap_remove_entry-missing, Found-position}
use Rattle.indexmap.proofs.RemoveLemmas.{swap_out, none_out}
use Rattle.link_lives.proofs.Tables.{flip}

abbrev pub IsKeyed : {X : Type 0} → List (ℕ × X) → Type 0
IsKeyed es = IsDistinct nat_eq (keys_of es)

pub set_keyed : {X : Type 0} (name : ℕ) (es : List (ℕ × X)) (w : X) → IsKeyed es → IsKeyed (set_value (nat_eq name) es w)
set_keyed name es w h = subst (IsDistinct nat_eq) (sym (keys-set_value (nat_eq name) es w)) h

-- ---- an entry is made

insert_apart : {X : Type 0} (x k : ℕ) (v : X) (es : List (ℕ × X)) → nat_eq x k ≡ false → AllByRecursion (λ y. nat_eq x y ≡ false) (keys_of es) → AllByRecursion (λ y. nat_eq x y ≡ false) (keys_of (insert_entry nat_eq es k v))
insert_apart x k v [] far h = (far, tt)
insert_apart {X} x k v (e ∷ es) far h = by (nat_eq k e.0) (insert_apart x k v es far h.1)
  where
    by : (b : Bool) → AllByRecursion (λ y. nat_eq x y ≡ false) (keys_of (insert_entry nat_eq es k v)) → AllByRecursion (λ y. nat_eq x y ≡ false) (keys_of (cond b ((e.0, v) ∷ es) (e ∷ insert_entry nat_eq es k v)))
    by true rest = (h.0, h.1)
    by false rest = (h.0, rest)

pub insert_keyed : {X : Type 0} (k : ℕ) (v : X) (es : List (ℕ × X)) → IsKeyed es → IsKeyed (insert_entry nat_eq es k v)
unfolding IsDistinct
insert_keyed k v [] h = (tt, tt)
insert_keyed {X} k v (e ∷ es) h = by (nat_eq k e.0) refl (insert_keyed k v es h.1)
  where
    by : (b : Bool) → nat_eq k e.0 ≡ b → IsKeyed (insert_entry nat_eq es k v) → IsKeyed (cond b ((e.0, v) ∷ es) (e ∷ insert_entry nat_eq es k v))
    by true p rest = (h.0, h.1)
    by false p rest = (insert_apart e.0 k v es (flip k e.0 ∙ p) h.0, rest)

-- ---- an entry goes, and the last takes its place

pub record Gone {X : Type 0} (name : ℕ) (old new : List (ℕ × X)) : Type 0 where
  pub at : (n : ℕ) → lookup (nat_eq n) new ≡ cond (nat_eq name n) None (lookup (nat_eq n) old)
  pub keyed : IsKeyed new

tests_key : (name x y : ℕ) → nat_eq name x ≡ true → nat_eq name y ≡ nat_eq x y
tests_key name x y e = ap (λ k. nat_eq k y) (eqb-true name x e)

gone_by : {X : Type 0} (name : ℕ) (e : ℕ × X) (es : List (ℕ × X)) (o : Option ℕ) → position (nat_eq name) (keys_of (e ∷ es)) ≡ o → IsKeyed (e ∷ es) → Gone name (e ∷ es) (swap_remove_entry (nat_eq name) (e ∷ es))
gone_by {X} name e es None at h =
    let fs : List (ℕ × X) = e ∷ es in
    let same = none_out nat_eq nat_eq_equiv (nat_eq name) (tests_key name) fs fs at refl in
    subst (λ l. Gone name fs l) (sym (swap_remove_entry-missing (nat_eq name) fs at)) (record { at = same.0; keyed = h })
gone_by {X} name e es (Some i) at h =
    let fs : List (ℕ × X) = e ∷ es in
    let p : ℕ × X = get_or fs i e in
    let there : slice_get fs i ≡ Some p = slice_get-get_or fs i e (Found-position (nat_eq name) fs i at).within in
    let out = swap_out nat_eq nat_eq_equiv (nat_eq name) (tests_key name) fs i p at there h (swap_remove fs i p) refl in
    subst (λ l. Gone name fs l) (sym (swap_remove_entry-found (nat_eq name) fs i p at)) (record { at = out.updated.0; keyed = out.unique })

none_left : {X : Type 0} (b : Bool) → ◌≡◌ {A = Option X} None (cond b None None)
none_left true = refl
none_left false = refl

pub gone : {X : Type 0} (name : ℕ) (es : List (ℕ × X)) → IsKeyed es → Gone name es (swap_remove_entry (nat_eq name) es)
gone name [] h = record { at = λ n. none_left (nat_eq name n); keyed = h }
gone name (e ∷ es) h = gone_by name e es (position (nat_eq name) (keys_of (e ∷ es))) refl h

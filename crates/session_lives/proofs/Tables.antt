-- Tables by names that are distinct, of which one entry changes or goes.
use Rattle.std.specs.Prelude.{◌≡◌, ℕ, nat_eq, Bool, true, false, cond, is_some, map, position, List, [], ◌∷◌, get_or, slice_get, Option, Some, None, refl}
use Rattle.std.proofs.Common.{sym, ◌∙◌, ap, subst, eq-eqb}
use Rattle.std.proofs.lemmas.Bool.{eqb-true, eqb-false, ne_eqb}
use Rattle.std.proofs.lemmas.Map.{lookup-set_value, keys-set_value}
use Rattle.std.proofs.lemmas.Option.{slice_get-get_or}
use Rattle.std.specs.Cmp.{nat_eq_equiv}
use Rattle.std.specs.List.{IsDistinct, AllByRecursion, swap_remove}
use Rattle.std.specs.Map.{keys_of, lookup, set_value}
use Rattle.std.specs.Option.{option_map}
use Rattle.indexmap.specs.IndexMap.{insert_entry, swap_remove_entry}
use Rattle.indexmap.proofs.MapLemmas.{swap_remove_entry-found, swap_remove_entry-missing, Found-position}
use Rattle.indexmap.proofs.RemoveLemmas.{swap_out, none_out}

-- the keys are distinct
abbrev pub IsKeyed : {X : Type 0} → List (ℕ × X) → Type 0
IsKeyed es = IsDistinct nat_eq (keys_of es)

pub flip : (n k : ℕ) → nat_eq n k ≡ nat_eq k n
flip n k = by (nat_eq n k) refl
  where
    by : (b : Bool) → nat_eq n k ≡ b → nat_eq n k ≡ nat_eq k n
    by true e = e ∙ sym (eq-eqb k n (sym (eqb-true n k e)))
    by false e = e ∙ sym (ne_eqb k n (λ h. eqb-false n k e (sym h)))

tests_key : (name x y : ℕ) → nat_eq name x ≡ true → nat_eq name y ≡ nat_eq x y
tests_key name x y e = ap (λ k. nat_eq k y) (eqb-true name x e)

-- ---- a value is set

pub set_at : {X : Type 0} (name n : ℕ) (es : List (ℕ × X)) (v w : X) → lookup (nat_eq name) es ≡ Some v → lookup (nat_eq n) (set_value (nat_eq name) es w) ≡ cond (nat_eq n name) (Some w) (lookup (nat_eq n) es)
set_at name n es v w h =
    lookup-set_value nat_eq_equiv (nat_eq name) (tests_key name) n w es (ap is_some h) ∙ ap (λ b. cond b (Some w) (lookup (nat_eq n) es)) (flip name n)

pub set_keyed : {X : Type 0} (name : ℕ) (es : List (ℕ × X)) (w : X) → IsKeyed es → IsKeyed (set_value (nat_eq name) es w)
set_keyed name es w h = subst (IsDistinct nat_eq) (sym (keys-set_value (nat_eq name) es w)) h

-- ---- an entry is made

pub insert_other : {X : Type 0} (k n : ℕ) (v : X) (es : List (ℕ × X)) → nat_eq n k ≡ false → lookup (nat_eq n) (insert_entry nat_eq es k v) ≡ lookup (nat_eq n) es
insert_other k n v [] h = ap (λ b. cond b (Some v) None) h
insert_other k n v (e ∷ es) h = by (nat_eq k e.0) refl (insert_other k n v es h)
  where
    by : (b : Bool) → nat_eq k e.0 ≡ b → lookup (nat_eq n) (insert_entry nat_eq es k v) ≡ lookup (nat_eq n) es → lookup (nat_eq n) (insert_entry nat_eq (e ∷ es) k v) ≡ lookup (nat_eq n) (e ∷ es)
    by true p rest =
        let q : nat_eq n e.0 ≡ false = ap (nat_eq n) (sym (eqb-true k e.0 p)) ∙ h in
        ap (λ b. lookup (nat_eq n) (cond b ((e.0, v) ∷ es) (e ∷ insert_entry nat_eq es k v))) p
        ∙ (ap (λ b. cond b (Some v) (lookup (nat_eq n) es)) q ∙ sym (ap (λ b. cond b (Some e.1) (lookup (nat_eq n) es)) q))
    by false p rest =
        ap (λ b. lookup (nat_eq n) (cond b ((e.0, v) ∷ es) (e ∷ insert_entry nat_eq es k v))) p ∙ ap (cond (nat_eq n e.0) (Some e.1)) rest

pub insert_here : {X : Type 0} (k : ℕ) (v : X) (es : List (ℕ × X)) → lookup (nat_eq k) (insert_entry nat_eq es k v) ≡ Some v
insert_here k v [] = ap (λ b. cond b (Some v) None) (eq-eqb k k refl)
insert_here k v (e ∷ es) = by (nat_eq k e.0) refl (insert_here k v es)
  where
    by : (b : Bool) → nat_eq k e.0 ≡ b → lookup (nat_eq k) (insert_entry nat_eq es k v) ≡ Some v → lookup (nat_eq k) (insert_entry nat_eq (e ∷ es) k v) ≡ Some v
    by true p rest =
        ap (λ b. lookup (nat_eq k) (cond b ((e.0, v) ∷ es) (e ∷ insert_entry nat_eq es k v))) p ∙ ap (λ b. cond b (Some v) (lookup (nat_eq k) es)) p
    by false p rest =
        ap (λ b. lookup (nat_eq k) (cond b ((e.0, v) ∷ es) (e ∷ insert_entry nat_eq es k v))) p
        ∙ (ap (λ b. cond b (Some e.1) (lookup (nat_eq k) (insert_entry nat_eq es k v))) p ∙ rest)

insert_apart : {X : Type 0} (x k : ℕ) (v : X) (es : List (ℕ × X)) → nat_eq x k ≡ false → AllByRecursion (λ y. nat_eq x y ≡ false) (keys_of es) → AllByRecursion (λ y. nat_eq x y ≡ false) (keys_of (insert_entry nat_eq es k v))
insert_apart x k v [] far h = (far, tt)
insert_apart {X} x k v (e ∷ es) far h = by (nat_eq k e.0) (insert_apart x k v es far h.1)
  where
    by : (b : Bool) → AllByRecursion (λ y. nat_eq x y ≡ false) (keys_of (insert_entry nat_eq es k v)) → AllByRecursion (λ y. nat_eq x y ≡ false) (keys_of (cond b ((e.0, v) ∷ es) (e ∷ insert_entry nat_eq es k v)))
    by true rest = (h.0, h.1)
    by false rest = (h.0, rest)

pub insert_keyed : {X : Type 0} (k : ℕ) (v : X) (es : List (ℕ × X)) → IsKeyed es → IsKeyed (insert_entry nat_eq es k v)
unfolding IsDistinct
insert_keyed k v [] h = (tt, tt)
insert_keyed {X} k v (e ∷ es) h = by (nat_eq k e.0) refl (insert_keyed k v es h.1)
  where
    by : (b : Bool) → nat_eq k e.0 ≡ b → IsKeyed (insert_entry nat_eq es k v) → IsKeyed (cond b ((e.0, v) ∷ es) (e ∷ insert_entry nat_eq es k v))
    by true p rest = (h.0, h.1)
    by false p rest = (insert_apart e.0 k v es (flip e.0 k ∙ p) h.0, rest)

-- ---- an entry goes, and the last takes its place

pub record Gone {X : Type 0} (name : ℕ) (old new : List (ℕ × X)) : Type 0 where
  pub at : (n : ℕ) → lookup (nat_eq n) new ≡ cond (nat_eq n name) None (lookup (nat_eq n) old)
  pub keyed : IsKeyed new

flipped : {X : Type 0} (name : ℕ) (old new : List (ℕ × X)) → ((n : ℕ) → lookup (nat_eq n) new ≡ cond (nat_eq name n) None (lookup (nat_eq n) old)) → (n : ℕ) → lookup (nat_eq n) new ≡ cond (nat_eq n name) None (lookup (nat_eq n) old)
flipped name old new h n = h n ∙ ap (λ b. cond b None (lookup (nat_eq n) old)) (flip name n)

gone_by : {X : Type 0} (name : ℕ) (e : ℕ × X) (es : List (ℕ × X)) (o : Option ℕ) → position (nat_eq name) (keys_of (e ∷ es)) ≡ o → IsKeyed (e ∷ es) → Gone name (e ∷ es) (swap_remove_entry (nat_eq name) (e ∷ es))
gone_by {X} name e es None at h =
    let fs : List (ℕ × X) = e ∷ es in
    let same = none_out nat_eq nat_eq_equiv (nat_eq name) (tests_key name) fs fs at refl in
    subst (λ l. Gone name fs l) (sym (swap_remove_entry-missing (nat_eq name) fs at)) (record { at = flipped name fs fs same.0; keyed = h })
gone_by {X} name e es (Some i) at h =
    let fs : List (ℕ × X) = e ∷ es in
    let p : ℕ × X = get_or fs i e in
    let there : slice_get fs i ≡ Some p = slice_get-get_or fs i e (Found-position (nat_eq name) fs i at).within in
    let out = swap_out nat_eq nat_eq_equiv (nat_eq name) (tests_key name) fs i p at there h (swap_remove fs i p) refl in
    subst (λ l. Gone name fs l) (sym (swap_remove_entry-found (nat_eq name) fs i p at)) (record { at = flipped name fs (swap_remove fs i p) out.updated.0; keyed = out.unique })

none_left : {X : Type 0} (b : Bool) → ◌≡◌ {A = Option X} None (cond b None None)
none_left true = refl
none_left false = refl

pub gone : {X : Type 0} (name : ℕ) (es : List (ℕ × X)) → IsKeyed es → Gone name es (swap_remove_entry (nat_eq name) es)
gone name [] h = record { at = λ n. none_left (nat_eq n name); keyed = h }
gone name (e ∷ es) h = gone_by name e es (position (nat_eq name) (keys_of (e ∷ es))) refl h

-- ---- each value changes

module _ {X : Type 0} (turn : X → X) where
  abbrev pub turned : List (ℕ × X) → List (ℕ × X)
  turned es = map (λ (e : ℕ × X). (e.0, turn e.1)) es

  turned_keys : (es : List (ℕ × X)) → keys_of (turned es) ≡ keys_of es
  turned_keys [] = refl
  turned_keys (e ∷ es) = ap (λ ks. e.0 ∷ ks) (turned_keys es)

  pub turned_keyed : (es : List (ℕ × X)) → IsKeyed es → IsKeyed (turned es)
  turned_keyed es h = subst (IsDistinct nat_eq) (sym (turned_keys es)) h

  turned_cond : (b : Bool) (v : X) (o p : Option X) → o ≡ option_map turn p → cond b (Some (turn v)) o ≡ option_map turn (cond b (Some v) p)
  turned_cond true v o p h = refl
  turned_cond false v o p h = h

  pub turned_at : (n : ℕ) (es : List (ℕ × X)) → lookup (nat_eq n) (turned es) ≡ option_map turn (lookup (nat_eq n) es)
  turned_at n [] = refl
  turned_at n (e ∷ es) = turned_cond (nat_eq n e.0) e.1 (lookup (nat_eq n) (turned es)) (lookup (nat_eq n) es) (turned_at n es)

-- the others of a table
pub tail_keyed : {X : Type 0} (e : ℕ × X) (es : List (ℕ × X)) → IsKeyed (e ∷ es) → IsKeyed es
unfolding IsDistinct
tail_keyed e es k = k.1

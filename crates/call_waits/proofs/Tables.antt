-- Calls by the places of deliveries, of which one is entered or goes.
use Rattle.std.specs.Prelude.{◌≡◌, ℕ, nat_eq, Bool, true, false, cond, position, get_or, slice_get, List, [], ◌∷◌, Option, Some, None, refl}
use Rattle.std.proofs.Common.{sym, ◌∙◌, ap, subst, eq-eqb}
use Rattle.std.proofs.lemmas.Bool.{eqb-true, eqb-false, ne_eqb}
use Rattle.std.proofs.lemmas.Option.{slice_get-get_or}
use Rattle.std.specs.Cmp.{nat_eq_equiv}
use Rattle.std.specs.List.{IsDistinct, AllByRecursion, swap_remove}
use Rattle.std.specs.Map.{keys_of, lookup}
use Rattle.indexmap.specs.IndexMap.{insert_entry, swap_remove_entry}
use Rattle.indexmap.proofs.MapLemmas.{swap_remove_entry-found, swap_remove_entry-missing, Found-position}
use Rattle.indexmap.proofs.RemoveLemmas.{swap_out, none_out}

pub flip : (k n : ℕ) → nat_eq n k ≡ nat_eq k n
flip k n = by (nat_eq n k) refl
  where
    by : (b : Bool) → nat_eq n k ≡ b → nat_eq n k ≡ nat_eq k n
    by true e = e ∙ sym (eq-eqb k n (sym (eqb-true n k e)))
    by false e = e ∙ sym (ne_eqb k n (λ h. eqb-false n k e (sym h)))

abbrev pub IsKeyed : {X : Type 0} → List (ℕ × X) → Type 0
IsKeyed es = IsDistinct nat_eq (keys_of es)

-- ---- an entry is made

pub insert_other : {X : Type 0} (k n : ℕ) (v : X) (es : List (ℕ × X)) → nat_eq k n ≡ false → lookup (nat_eq n) (insert_entry nat_eq es k v) ≡ lookup (nat_eq n) es
insert_other k n v [] h = ap (λ b. cond b (Some v) None) (flip k n ∙ h)
insert_other k n v (e ∷ es) h = by (insert_other k n v es h) (nat_eq k e.0) refl
  where
    by : lookup (nat_eq n) (insert_entry nat_eq es k v) ≡ lookup (nat_eq n) es → (b : Bool) → nat_eq k e.0 ≡ b
        → lookup (nat_eq n) (insert_entry nat_eq (e ∷ es) k v) ≡ lookup (nat_eq n) (e ∷ es)
    by rest true p =
        let q : nat_eq n e.0 ≡ false = ap (nat_eq n) (sym (eqb-true k e.0 p)) ∙ (flip k n ∙ h) in
        ap (λ b. lookup (nat_eq n) (cond b ((e.0, v) ∷ es) (e ∷ insert_entry nat_eq es k v))) p
        ∙ (ap (λ b. cond b (Some v) (lookup (nat_eq n) es)) q ∙ sym (ap (λ b. cond b (Some e.1) (lookup (nat_eq n) es)) q))
    by rest false p =
        ap (λ b. lookup (nat_eq n) (cond b ((e.0, v) ∷ es) (e ∷ insert_entry nat_eq es k v))) p
        ∙ ap (cond (nat_eq n e.0) (Some e.1)) rest

pub insert_here : {X : Type 0} (k n : ℕ) (v : X) (es : List (ℕ × X)) → nat_eq k n ≡ true → lookup (nat_eq n) (insert_entry nat_eq es k v) ≡ Some v
insert_here k n v [] e = ap (λ b. cond b (Some v) None) (flip k n ∙ e)
insert_here k n v (f ∷ fs) e = by (insert_here k n v fs e) (nat_eq k f.0) refl
  where
    by : lookup (nat_eq n) (insert_entry nat_eq fs k v) ≡ Some v → (b : Bool) → nat_eq k f.0 ≡ b → lookup (nat_eq n) (insert_entry nat_eq (f ∷ fs) k v) ≡ Some v
    by rest true p =
        ap (λ b. lookup (nat_eq n) (cond b ((f.0, v) ∷ fs) (f ∷ insert_entry nat_eq fs k v))) p
        ∙ ap (λ b. cond b (Some v) (lookup (nat_eq n) fs)) (ap (λ m. nat_eq m f.0) (sym (eqb-true k n e)) ∙ p)
    by rest false p =
        ap (λ b. lookup (nat_eq n) (cond b ((f.0, v) ∷ fs) (f ∷ insert_entry nat_eq fs k v))) p
        ∙ (ap (λ b. cond b (Some f.1) (lookup (nat_eq n) (insert_entry nat_eq fs k v))) (ap (λ m. nat_eq m f.0) (sym (eqb-true k n e)) ∙ p) ∙ rest)

-- what holds of the new entry and of the old one
pub insert_holds : {X : Type 0} (P : Option X → Type 0) (k n : ℕ) (v : X) (es : List (ℕ × X)) → (nat_eq k n ≡ true → P (Some v)) → P (lookup (nat_eq n) es) → P (lookup (nat_eq n) (insert_entry nat_eq es k v))
insert_holds {X} P k n v es here old = by (nat_eq k n) refl
  where
    by : (b : Bool) → nat_eq k n ≡ b → P (lookup (nat_eq n) (insert_entry nat_eq es k v))
    by true e = subst P (sym (insert_here k n v es e)) (here e)
    by false e = subst P (sym (insert_other k n v es e)) old

insert_apart : {X : Type 0} (x k : ℕ) (v : X) (es : List (ℕ × X)) → nat_eq x k ≡ false → AllByRecursion (λ y. nat_eq x y ≡ false) (keys_of es) → AllByRecursion (λ y. nat_eq x y ≡ false) (keys_of (insert_entry nat_eq es k v))
insert_apart x k v [] far h = (far, tt)
insert_apart {X} x k v (e ∷ es) far h = by (nat_eq k e.0) (insert_apart x k v es far h.1)
  where
    by : (b : Bool) → AllByRecursion (λ y. nat_eq x y ≡ false) (keys_of (insert_entry nat_eq es k v)) → AllByRecursion (λ y. nat_eq x y ≡ false) (keys_of (cond b ((e.0, v) ∷ es) (e ∷ insert_entry nat_eq es k v)))
    by true rest = (h.0, h.1)
    by false rest = (h.0, rest)

pub insert_keyed : {X : Type 0} (k : ℕ) (v : X) (es : List (ℕ × X)) → IsKeyed es → IsKeyed (insert_entry nat_eq es k v)
unfolding IsDistinct
insert_keyed k v [] h = (tt, tt)
insert_keyed {X} k v (e ∷ es) h = by (nat_eq k e.0) refl (insert_keyed k v es h.1)
  where
    by : (b : Bool) → nat_eq k e.0 ≡ b → IsKeyed (insert_entry nat_eq es k v) → IsKeyed (cond b ((e.0, v) ∷ es) (e ∷ insert_entry nat_eq es k v))
    by true p rest = (h.0, h.1)
    by false p rest = (insert_apart e.0 k v es (flip k e.0 ∙ p) h.0, rest)

-- ---- an entry goes, and the last takes its place

pub record Gone {X : Type 0} (name : ℕ) (old new : List (ℕ × X)) : Type 0 where
  pub at : (n : ℕ) → lookup (nat_eq n) new ≡ cond (nat_eq name n) None (lookup (nat_eq n) old)
  pub keyed : IsKeyed new

tests_key : (name x y : ℕ) → nat_eq name x ≡ true → nat_eq name y ≡ nat_eq x y
tests_key name x y e = ap (λ k. nat_eq k y) (eqb-true name x e)

gone_by : {X : Type 0} (name : ℕ) (e : ℕ × X) (es : List (ℕ × X)) (o : Option ℕ) → position (nat_eq name) (keys_of (e ∷ es)) ≡ o → IsKeyed (e ∷ es) → Gone name (e ∷ es) (swap_remove_entry (nat_eq name) (e ∷ es))
gone_by {X} name e es None at h =
    let fs : List (ℕ × X) = e ∷ es in
    let same = none_out nat_eq nat_eq_equiv (nat_eq name) (tests_key name) fs fs at refl in
    subst (λ l. Gone name fs l) (sym (swap_remove_entry-missing (nat_eq name) fs at)) (record { at = same.0; keyed = h })
gone_by {X} name e es (Some i) at h =
    let fs : List (ℕ × X) = e ∷ es in
    let p : ℕ × X = get_or fs i e in
    let there : slice_get fs i ≡ Some p = slice_get-get_or fs i e (Found-position (nat_eq name) fs i at).within in
    let out = swap_out nat_eq nat_eq_equiv (nat_eq name) (tests_key name) fs i p at there h (swap_remove fs i p) refl in
    subst (λ l. Gone name fs l) (sym (swap_remove_entry-found (nat_eq name) fs i p at)) (record { at = out.updated.0; keyed = out.unique })

none_left : {X : Type 0} (b : Bool) → ◌≡◌ {A = Option X} None (cond b None None)
none_left true = refl
none_left false = refl

pub gone : {X : Type 0} (name : ℕ) (es : List (ℕ × X)) → IsKeyed es → Gone name es (swap_remove_entry (nat_eq name) es)
gone name [] h = record { at = λ n. none_left (nat_eq name n); keyed = h }
gone name (e ∷ es) h = gone_by name e es (position (nat_eq name) (keys_of (e ∷ es))) refl h

-- what is left was there, under another key
cond_some : {X : Type 0} (b : Bool) (o : Option X) (v : X) → cond b None o ≡ Some v → (b ≡ false) × (o ≡ Some v)
cond_some true o v h = absurd cc
cond_some false o v h = (refl, h)

pub left : {X : Type 0} (name n : ℕ) (es : List (ℕ × X)) (v : X) → IsKeyed es → lookup (nat_eq n) (swap_remove_entry (nat_eq name) es) ≡ Some v → (nat_eq name n ≡ false) × (lookup (nat_eq n) es ≡ Some v)
left name n es v keyed h = cond_some (nat_eq name n) (lookup (nat_eq n) es) v (sym ((gone name es keyed).at n) ∙ h)

pub none_keyed : IsKeyed {X = ℕ} []
unfolding IsDistinct
none_keyed = tt

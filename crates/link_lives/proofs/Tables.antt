-- Tables by names, of which one entry changes.
use Rattle.std.specs.Prelude.{◌≡◌, ℕ, nat_eq, Bool, true, false, cond, is_some, List, [], ◌∷◌, Option, Some, None, refl}
use Rattle.std.proofs.Common.{sym, ◌∙◌, ap, subst, eq-eqb}
use Rattle.std.proofs.lemmas.Bool.{eqb-true, eqb-false, ne_eqb}
use Rattle.std.proofs.lemmas.Map.{lookup-set_value}
use Rattle.std.specs.Cmp.{nat_eq_equiv}
use Rattle.std.specs.Map.{lookup, set_value}
use Rattle.indexmap.specs.IndexMap.{insert_entry}

pub flip : (k n : ℕ) → nat_eq n k ≡ nat_eq k n
flip k n = by (nat_eq n k) refl
  where
    by : (b : Bool) → nat_eq n k ≡ b → nat_eq n k ≡ nat_eq k n
    by true e = e ∙ sym (eq-eqb k n (sym (eqb-true n k e)))
    by false e = e ∙ sym (ne_eqb k n (λ h. eqb-false n k e (sym h)))

pub set_at : {X : Type 0} (link n : ℕ) (es : List (ℕ × X)) (v w : X) → lookup (nat_eq link) es ≡ Some v → lookup (nat_eq n) (set_value (nat_eq link) es w) ≡ cond (nat_eq link n) (Some w) (lookup (nat_eq n) es)
set_at link n es v w h = lookup-set_value nat_eq_equiv (nat_eq link) (λ x y e. ap (λ k. nat_eq k y) (eqb-true link x e)) n w es (ap is_some h)

pub insert_other : {X : Type 0} (k n : ℕ) (v : X) (es : List (ℕ × X)) → nat_eq k n ≡ false → lookup (nat_eq n) (insert_entry nat_eq es k v) ≡ lookup (nat_eq n) es
insert_other k n v [] h = ap (λ b. cond b (Some v) None) (flip k n ∙ h)
insert_other k n v (e ∷ es) h = by (insert_other k n v es h) (nat_eq k e.0) refl
  where
    by : lookup (nat_eq n) (insert_entry nat_eq es k v) ≡ lookup (nat_eq n) es → (b : Bool) → nat_eq k e.0 ≡ b
        → lookup (nat_eq n) (insert_entry nat_eq (e ∷ es) k v) ≡ lookup (nat_eq n) (e ∷ es)
    by rest true p =
        let q : nat_eq n e.0 ≡ false = ap (nat_eq n) (sym (eqb-true k e.0 p)) ∙ (flip k n ∙ h) in
        ap (λ b. lookup (nat_eq n) (cond b ((e.0, v) ∷ es) (e ∷ insert_entry nat_eq es k v))) p
        ∙ (ap (λ b. cond b (Some v) (lookup (nat_eq n) es)) q ∙ sym (ap (λ b. cond b (Some e.1) (lookup (nat_eq n) es)) q))
    by rest false p =
        ap (λ b. lookup (nat_eq n) (cond b ((e.0, v) ∷ es) (e ∷ insert_entry nat_eq es k v))) p
        ∙ ap (cond (nat_eq n e.0) (Some e.1)) rest

pub insert_here : {X : Type 0} (k n : ℕ) (v : X) (es : List (ℕ × X)) → nat_eq k n ≡ true → lookup (nat_eq n) (insert_entry nat_eq es k v) ≡ Some v
insert_here k n v [] e = ap (λ b. cond b (Some v) None) (flip k n ∙ e)
insert_here k n v (f ∷ fs) e = by (insert_here k n v fs e) (nat_eq k f.0) refl
  where
    by : lookup (nat_eq n) (insert_entry nat_eq fs k v) ≡ Some v → (b : Bool) → nat_eq k f.0 ≡ b → lookup (nat_eq n) (insert_entry nat_eq (f ∷ fs) k v) ≡ Some v
    by rest true p =
        ap (λ b. lookup (nat_eq n) (cond b ((f.0, v) ∷ fs) (f ∷ insert_entry nat_eq fs k v))) p
        ∙ ap (λ b. cond b (Some v) (lookup (nat_eq n) fs)) (ap (λ m. nat_eq m f.0) (sym (eqb-true k n e)) ∙ p)
    by rest false p =
        ap (λ b. lookup (nat_eq n) (cond b ((f.0, v) ∷ fs) (f ∷ insert_entry nat_eq fs k v))) p
        ∙ (ap (λ b. cond b (Some f.1) (lookup (nat_eq n) (insert_entry nat_eq fs k v))) (ap (λ m. nat_eq m f.0) (sym (eqb-true k n e)) ∙ p) ∙ rest)

-- what holds of the new entry and of the old one
pub insert_holds : {X : Type 0} (P : Option X → Type 0) (k n : ℕ) (v : X) (es : List (ℕ × X)) → P (Some v) → P (lookup (nat_eq n) es) → P (lookup (nat_eq n) (insert_entry nat_eq es k v))
insert_holds {X} P k n v es here old = by (nat_eq k n) refl
  where
    by : (b : Bool) → nat_eq k n ≡ b → P (lookup (nat_eq n) (insert_entry nat_eq es k v))
    by true e = subst P (sym (insert_here k n v es e)) here
    by false e = subst P (sym (insert_other k n v es e)) old

chosen : {X : Type 0} (P : X → Type 0) (b : Bool) (x y : X) → P x → P y → P (cond b x y)
chosen P true x y p q = p
chosen P false x y p q = q

pub set_holds : {X : Type 0} (P : Option X → Type 0) (link n : ℕ) (es : List (ℕ × X)) (v w : X) → lookup (nat_eq link) es ≡ Some v → P (Some w) → P (lookup (nat_eq n) es) → P (lookup (nat_eq n) (set_value (nat_eq link) es w))
set_holds P link n es v w h here old = subst P (sym (set_at link n es v w h)) (chosen P (nat_eq link n) (Some w) (lookup (nat_eq n) es) here old)

-- Transfers of which none is on a handle.
use Rattle.std.specs.Prelude.{◌≡◌, ℕ, Bool, true, false, nat_eq, List, [], ◌∷◌, ◌++◌, refl}
use Rattle.std.proofs.Common.{sym, ◌∙◌, ap}
use Rattle.amqp_parts.specs.declared.part.Part.{Part}
use Rattle.session_laws.specs.Messages.{on}
use Rattle.session_laws.proofs.Cuts.{on_own, on_other, on_push}

pub none_first : {X : Type 0} → (xs ys : List X) → xs ++ ys ≡ [] → xs ≡ []
none_first [] ys e = refl
none_first (x ∷ xs) ys e = absurd cc

pub none_last : {X : Type 0} → (xs ys : List X) → xs ++ ys ≡ [] → ys ≡ []
none_last [] ys e = e
none_last (x ∷ xs) ys e = absurd cc

module _ (handle : ℕ) where
  -- the first of Transfers that are all on other handles is
  far_by : (x : Part) (xs : List Part) (c : Bool) → nat_eq x.transfer.handle handle ≡ c → on handle (x ∷ xs) ≡ [] → nat_eq x.transfer.handle handle ≡ false
  far_by x xs false h e = h
  far_by x xs true h e = (let bad : x ∷ on handle xs ≡ [] = sym (on_own handle x xs h) ∙ e in absurd cc)

  pub far_first : (x : Part) (xs : List Part) → on handle (x ∷ xs) ≡ [] → nat_eq x.transfer.handle handle ≡ false
  far_first x xs e = far_by x xs (nat_eq x.transfer.handle handle) refl e

  pub far_rest : (x : Part) (xs : List Part) → on handle (x ∷ xs) ≡ [] → on handle xs ≡ []
  far_rest x xs e = sym (on_other handle x xs (far_first x xs e)) ∙ e

  pub none_both : (xs ys : List Part) → on handle xs ≡ [] → on handle ys ≡ [] → on handle (xs ++ ys) ≡ []
  none_both xs ys p q = on_push handle xs ys ∙ (ap (λ (zs : List Part). zs ++ on handle ys) p ∙ q)

  pub none_left : (xs ys : List Part) → on handle (xs ++ ys) ≡ [] → on handle xs ≡ []
  none_left xs ys e = none_first (on handle xs) (on handle ys) (sym (on_push handle xs ys) ∙ e)

  pub none_right : (xs ys : List Part) → on handle (xs ++ ys) ≡ [] → on handle ys ≡ []
  none_right xs ys e = none_last (on handle xs) (on handle ys) (sym (on_push handle xs ys) ∙ e)

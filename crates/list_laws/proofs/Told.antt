use Rattle.std.proofs.Common.{◌≡◌, List, ℕ, [], ◌++◌, Option, Some, None, refl, sym, ap, ◌∙◌, subst, append_assoc}
use Rattle.std.proofs.lemmas.List.{append-nil}
use Rattle.list_laws.specs.Told.{Loses, Gains}

-- what is as it was loses no bytes
pub loses_none : (a b : Option (List ℕ)) → b ≡ a → Loses a b []
loses_none None b e = subst (λ (x : Option (List ℕ)). Loses None x []) (sym e) tt
loses_none (Some xs) b e = subst (λ (x : Option (List ℕ)). Loses (Some xs) x []) (sym e) refl

-- what is as it was gains no bytes
pub gains_none : (a b : Option (List ℕ)) → b ≡ a → Gains a b []
gains_none None b e = subst (λ (x : Option (List ℕ)). Gains None x []) (sym e) tt
gains_none (Some xs) b e = subst (λ (x : Option (List ℕ)). Gains (Some xs) x []) (sym e) (sym (append-nil xs))

-- two losses are one, of the bytes joined
pub loses_then : (a b c : Option (List ℕ)) (r s : List ℕ) → Loses a b r → Loses b c s → Loses a c (r ++ s)
loses_then None None None r s p q = tt
loses_then (Some xs) (Some ys) (Some zs) r s p q = p ∙ ap (λ (u : List ℕ). r ++ u) q ∙ sym (append_assoc r s zs)
loses_then None None (Some z) r s p q = q
loses_then None (Some y) c r s p q = absurd p
loses_then (Some x) None c r s p q = absurd p
loses_then (Some x) (Some y) None r s p q = absurd q

-- two gains are one, of the bytes joined
pub gains_then : (a b c : Option (List ℕ)) (r s : List ℕ) → Gains a b r → Gains b c s → Gains a c (r ++ s)
gains_then None None None r s p q = tt
gains_then (Some xs) (Some ys) (Some zs) r s p q = q ∙ ap (λ (u : List ℕ). u ++ s) p ∙ append_assoc xs r s
gains_then None None (Some z) r s p q = q
gains_then None (Some y) c r s p q = absurd p
gains_then (Some x) None c r s p q = absurd p
gains_then (Some x) (Some y) None r s p q = absurd q

-- Bytes gained piece by piece.
use Rattle.std.proofs.Common.{◌+◌, ◌-◌, ◌∙◌, List, ℕ, ◌++◌, Option, Some, None, length, take, drop, ap, sym, subst, append_assoc}
use Rattle.std.proofs.lemmas.List.{take_rest}
use Rattle.std.proofs.Math.Seq.{take-add}
use Rattle.list_laws.specs.Told.{Gains}

gains_then : (a b c : Option (List ℕ)) (r s : List ℕ) → Gains a b r → Gains b c s → Gains a c (r ++ s)
gains_then None None None r s p q = tt
gains_then (Some xs) (Some ys) (Some zs) r s p q = q ∙ ap (λ (u : List ℕ). u ++ s) p ∙ append_assoc xs r s
gains_then None None (Some z) r s p q = q
gains_then None (Some y) c r s p q = absurd p
gains_then (Some x) None c r s p q = absurd p
gains_then (Some x) (Some y) None r s p q = absurd q

-- a piece of what is left after the first bytes
pub gains_more : (a b c : Option (List ℕ)) (text : List ℕ) (at n : ℕ) → Gains a b (take at text) → Gains b c (take n (take (length text - at) (drop at text))) → Gains a c (take (at + n) text)
gains_more a b c text at n p q =
    subst (λ (u : List ℕ). Gains a c u) (sym (take-add at n text)) (gains_then a b c (take at text) (take n (drop at text)) p (subst (λ (u : List ℕ). Gains b c (take n u)) (take_rest text at) q))

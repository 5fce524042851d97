-- Bytes that are added one after another.
use Rattle.std.proofs.Common.{◌≡◌, ◌∙◌, List, ℕ, ◌++◌, ap, append_assoc}

pub three_added : (out a b c first second third : List ℕ) → first ≡ out ++ a → second ≡ first ++ b → third ≡ second ++ c → third ≡ out ++ (a ++ (b ++ c))
three_added out a b c first second third e f g =
    g ∙ ap (λ (u : List ℕ). u ++ c) (f ∙ ap (λ (u : List ℕ). u ++ b) e ∙ append_assoc out a b) ∙ append_assoc out (a ++ b) c ∙ ap (λ (u : List ℕ). out ++ u) (append_assoc a b c)

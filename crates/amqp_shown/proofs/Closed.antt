-- The end of a loop that adds texts, and of brackets around it.
use Rattle.std.proofs.Common.{◌≡◌, List, ℕ, [], ◌∷◌, ◌++◌, sym, ap, ◌∙◌, append_assoc, append-nil}

-- nothing is left to add
pub ended : (out rest total : List ℕ) → rest ≡ [] → out ++ rest ≡ total → out ≡ total
ended out rest total e h = sym (append-nil out) ∙ ap (λ (z : List ℕ). out ++ z) (sym e) ∙ h

-- a text between brackets
pub closed : (old opened out closing text : List ℕ) (a b : ℕ) → opened ≡ old ++ a ∷ [] → out ≡ opened ++ text → closing ≡ out ++ b ∷ [] → closing ≡ old ++ (a ∷ (text ++ b ∷ []))
closed old opened out closing text a b e f g =
    g ∙ ap (λ (z : List ℕ). z ++ b ∷ []) (f ∙ ap (λ (z : List ℕ). z ++ text) e) ∙ append_assoc (old ++ a ∷ []) text (b ∷ []) ∙ append_assoc old (a ∷ []) (text ++ b ∷ [])

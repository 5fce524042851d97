use Rattle.std.proofs.Common.{◌≡◌, ℕ, List, [], ◌∷◌, ◌++◌, length, Bool, true, if◌then◌else◌, refl, sym, ap, ◌∙◌, append_assoc}
use Rattle.std.proofs.lemmas.List.{append-nil, nil_from_length}
use Rattle.amqp_value.specs.Pieces.{joined}

pub joined-push : (ps : List (List ℕ)) (p : List ℕ) → joined (ps ++ p ∷ []) ≡ joined ps ++ p
joined-push [] p = append-nil p
joined-push (q ∷ ps) p = ap (λ (z : List ℕ). q ++ z) (joined-push ps p) ∙ sym (append_assoc q (joined ps) p)

-- a last piece that is empty adds nothing
pub joined-empty : (ps : List (List ℕ)) (p : List ℕ) → length p ≡ 0 → joined (ps ++ p ∷ []) ≡ joined ps
joined-empty ps p e = joined-push ps p ∙ ap (λ (z : List ℕ). joined ps ++ z) (nil_from_length p e) ∙ append-nil (joined ps)

-- the pieces after a push that went well
pub pushed : (ps new : List (List ℕ)) (p : List ℕ) (ok : Bool) → ok ≡ true → new ≡ (if ok then ps ++ p ∷ [] else ps) → new ≡ ps ++ p ∷ []
pushed ps new p ok t e = e ∙ rw t refl

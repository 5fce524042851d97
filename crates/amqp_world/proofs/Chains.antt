-- Steps, one after another.
use Rattle.std.proofs.Common.{◌≡◌, ◌+◌, ◌<◌, ℕ, zero, suc, List, [], ◌∷◌, ◌++◌, length, take, get_or, refl, sym, ap, ◌∙◌, subst, arith}
use Rattle.amqp_words.specs.declared.step.Step.{Step}
use Rattle.amqp_world.specs.WorldView.{WorldView}
use Rattle.amqp_world.specs.Turn.{IsTurn}
use Rattle.amqp_world.specs.Explains.{Turns}

-- one more step
turns_then : (a b c : WorldView) (ss : List Step) (s : Step) → Turns a ss b → IsTurn b s c → Turns a (ss ++ s ∷ []) c
turns_then a b c [] s e t = (c, subst (λ (w : WorldView). IsTurn w s c) e t, refl)
turns_then a b c (x ∷ ss) s (w, r, more) t = (w, r, turns_then w b c ss s more t)

-- the next of these steps
pub turns_taken : (a b c : WorldView) (ss : List Step) (s : Step) (n : ℕ) → Turns a (take n ss) b → IsTurn b s c → b.steps ≡ take n ss → c.steps ≡ b.steps ++ s ∷ [] → c.steps ≡ take (n + 1) ss → Turns a (take (n + 1) ss) c
turns_taken a b c ss s n r t e more next =
    subst (λ (xs : List Step). Turns a xs c) (ap (λ (xs : List Step). xs ++ s ∷ []) (sym e) ∙ sym more ∙ next) (turns_then a b c (take n ss) s r t)

-- one more of a list is its front and the element that follows
pub take_next : (ss : List Step) (n : ℕ) (other : Step) → n < length ss → take n ss ++ get_or ss n other ∷ [] ≡ take (n + 1) ss
take_next [] n other l = absurd (omega (arith, l))
take_next (s ∷ ss) zero other l = refl
take_next (s ∷ ss) (suc n) other l =
    let more : suc (n + 1) ≡ suc n + 1 = omega arith in
    ap (λ (xs : List Step). s ∷ xs) (take_next ss n other (omega (arith, l))) ∙ ap (λ (k : ℕ). take k (s ∷ ss)) more

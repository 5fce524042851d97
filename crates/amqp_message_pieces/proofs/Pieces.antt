-- The bytes of pieces, one after another.
use Rattle.std.proofs.Common.{◌≡◌, ℕ, ◌+◌, ◌<◌, ◌≤◌, List, ◌++◌, length, get_or, drop, sym, ap, subst, ◌∙◌, append_assoc}
use Rattle.std.proofs.lemmas.List.{append-nil, drop_more, drop_all}
use Rattle.std.specs.Prelude.{Result}
use Rattle.amqp_value.specs.Pieces.{joined}
use Rattle.amqp_fields.specs.declared.error.BaseError.{BaseError}
use Rattle.amqp_messages.specs.declared.message.Message.{Message}
use Rattle.amqp_messages.specs.declared.message.Body.{Body}
use Rattle.amqp_messages.specs.Reading.{IsTheMessage, SpellsMessage}

-- a piece more
pub next_piece : (ps : List (List ℕ)) (old new lent : List ℕ) (i : ℕ) (p : List ℕ) → i < length ps → p ≡ get_or ps i p → lent ≡ p → new ≡ old ++ lent → old ++ joined (drop i ps) ≡ joined ps → new ++ joined (drop (i + 1) ps) ≡ joined ps
next_piece ps old new lent i p lt is e f h =
    let rest : joined (drop i ps) ≡ p ++ joined (drop (i + 1) ps) = ap joined (drop_more ps i p lt) ∙ ap (λ (z : List ℕ). z ++ joined (drop (i + 1) ps)) (sym is) in
    ap (λ (z : List ℕ). z ++ joined (drop (i + 1) ps)) (f ∙ ap (λ (z : List ℕ). old ++ z) e) ∙ append_assoc old p (joined (drop (i + 1) ps)) ∙ ap (λ (z : List ℕ). old ++ z) (sym rest) ∙ h

-- no piece more
pub last_piece : (ps : List (List ℕ)) (bytes : List ℕ) (i : ℕ) → length ps ≤ i → bytes ++ joined (drop i ps) ≡ joined ps → bytes ≡ joined ps
last_piece ps bytes i le h = sym (append-nil bytes) ∙ ap (λ (z : List (List ℕ)). bytes ++ joined z) (sym (drop_all i ps le)) ∙ h

-- the message of the same bytes
pub of_bytes : (r : Result (Message Body) BaseError) (lent bytes all : List ℕ) → lent ≡ bytes → bytes ≡ all → IsTheMessage r (SpellsMessage lent) → IsTheMessage r (SpellsMessage all)
of_bytes r lent bytes all e f h = subst (λ (z : List ℕ). IsTheMessage r (SpellsMessage z)) (e ∙ f) h

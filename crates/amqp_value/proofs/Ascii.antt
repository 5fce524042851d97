-- The test of ASCII.
use Rattle.std.proofs.Common.{◌≡◌, ℕ, ◌<◌, Bool, true, false, ltb, List, [], ◌∷◌, refl, arith}
use Rattle.std.specs.Prelude.{◌&&◌}
use Rattle.std.proofs.lemmas.Bool.{ltb-true}
use Rattle.std.proofs.lemmas.List.Elements.{All-nil, All-cons, All-head, All-tail}
use Rattle.amqp_value.specs.Grammar.{IsAscii}
use Rattle.amqp_value.specs.Reading.{is_ascii}

-- what both parts of a test say
pub and_parts : (a b : Bool) → (a && b) ≡ true → (a ≡ true) × (b ≡ true)
and_parts true b e = (refl, e)
and_parts false b e = absurd cc

pub IsAscii-from_is_ascii : (s : List ℕ) → is_ascii s ≡ true → IsAscii s
IsAscii-from_is_ascii [] e = All-nil (λ b. b < 128)
IsAscii-from_is_ascii (b ∷ s) e =
    let h = and_parts (ltb b 128) (is_ascii s) e in
    All-cons (λ c. c < 128) b s (ltb-true b 128 h.0) (IsAscii-from_is_ascii s h.1)

below : (b : ℕ) → b < 128 → ltb b 128 ≡ true
below b lt = grind arith

pub is_ascii-from_IsAscii : (s : List ℕ) → IsAscii s → is_ascii s ≡ true
is_ascii-from_IsAscii [] h = refl
is_ascii-from_IsAscii (b ∷ s) h = rw (below b (All-head (λ c. c < 128) b s h), is_ascii-from_IsAscii s (All-tail (λ c. c < 128) b s h)) refl

not_true : (b : Bool) → (b ≡ true → ⊥) → b ≡ false
not_true true h = absurd (h refl)
not_true false h = refl

pub is_not_ascii : (s : List ℕ) → (IsAscii s → ⊥) → is_ascii s ≡ false
is_not_ascii s h = not_true (is_ascii s) (λ e. h (IsAscii-from_is_ascii s e))

-- The body of a frame in bytes: the fields of a list behind a number, and the bytes behind them (part 2, section 2.3.2).
use Rattle.std.specs.Prelude.{◌≡◌, ℕ, ◌≤◌, List, ◌++◌, Result, Ok, Err}
use Rattle.amqp_value.specs.amqp_data.Data.{Items, list, items_depth}
use Rattle.amqp_value.specs.Canonical.{canonical, canonical_items, AreSized}
use Rattle.amqp_value.specs.Grammar.{Spells}
use Rattle.amqp_composites.specs.amqp_fields.declared.error.BaseError.{BaseError}
use Rattle.amqp_composites.specs.amqp_fields.declared.error.BaseError.TheVariants as errors
use Rattle.amqp_described.specs.Writing.{numbered, Fits}

-- the one spelling of the list, and the payload
pub record Put (bytes : List ℕ) (vs : Items) (n : ℕ) (payload : List ℕ) : Type 0 where
  pub text : bytes ≡ canonical (numbered n (list vs)) ++ payload
  pub spelled : Spells (canonical (numbered n (list vs))) (numbered n (list vs))
  pub fits : Fits 34 (numbered n (list vs))

-- It was written; it is refused for its size exactly where it does not fit, unless memory ran out. Where there are no fields,
-- that is why.
abbrev pub Puts : Result (List ℕ) BaseError → Result Items BaseError → ℕ → List ℕ → Type 0
Puts (Ok bytes) (Ok vs) n payload = Put bytes vs n payload
Puts (Ok bytes) (Err e) n payload = ⊥
Puts (Err (errors.Memory a)) fields n payload = Unit {0}
Puts (Err errors.Size) (Ok vs) n payload = Fits 34 (numbered n (list vs)) → ⊥
Puts (Err errors.Decode) (Ok vs) n payload = ⊥
Puts (Err e) (Err because) n payload = e ≡ because

-- The one spelling of the values and the payload; it is refused for its size exactly where a length has no room or a value is
-- nested too deep, unless memory ran out.
abbrev pub Encodes : Result (List ℕ) BaseError → Items → List ℕ → Type 0
Encodes (Ok bytes) vs payload = (bytes ≡ canonical_items vs ++ payload) × AreSized vs × (items_depth vs ≤ 34)
Encodes (Err (errors.Memory a)) vs payload = Unit {0}
Encodes (Err errors.Size) vs payload = AreSized vs → items_depth vs ≤ 34 → ⊥
Encodes (Err errors.Decode) vs payload = ⊥

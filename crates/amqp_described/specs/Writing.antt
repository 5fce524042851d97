-- What is written of described values.
use Rattle.std.specs.Prelude.{◌≡◌, ℕ, ◌≤◌, List, ◌++◌, ◌∷◌, [], Result, Ok, Err}
use Rattle.amqp_value.specs.amqp_data.Data.{Amqp, scalar, ulong, described, depth}
use Rattle.amqp_value.specs.Grammar.{Spells}
use Rattle.amqp_value.specs.Canonical.{canonical, IsSized}
use Rattle.amqp_composites.specs.amqp_fields.declared.error.BaseError.{BaseError}
use Rattle.amqp_composites.specs.amqp_fields.declared.error.BaseError.TheVariants as errors

-- the value with a number as its descriptor (part 1, section 1.2)
abbrev pub numbered : ℕ → Amqp → Amqp
numbered n v = described (scalar (ulong n)) v

-- each length has room, and the value is nested within so many levels
pub record Fits (levels : ℕ) (v : Amqp) : Type 0 where
  pub sized : IsSized v
  pub nests : depth v ≤ levels

-- the one spelling of the value was added
pub record Added (old new : List ℕ) (v : Amqp) : Type 0 where
  pub bytes : new ≡ old ++ canonical v
  pub spelled : Spells (canonical v) v

-- It was added, and the value fits; it is refused for its size exactly where it does not fit, unless memory ran out.
abbrev pub Adds : Result (Unit {0}) BaseError → List ℕ → List ℕ → Amqp → ℕ → Type 0
Adds (Ok x) old new v levels = Added old new v × Fits levels v
Adds (Err (errors.Memory a)) old new v levels = Unit {0}
Adds (Err errors.Size) old new v levels = Fits levels v → ⊥
Adds (Err errors.Decode) old new v levels = ⊥

-- the constructor of a described value and its number were added, unless memory ran out
abbrev pub PutsNumber : Result (Unit {0}) BaseError → List ℕ → List ℕ → ℕ → Type 0
PutsNumber (Ok x) old new n = Added (old ++ 0 ∷ []) new (scalar (ulong n))
PutsNumber (Err (errors.Memory a)) old new n = Unit {0}
PutsNumber (Err errors.Size) old new n = ⊥
PutsNumber (Err errors.Decode) old new n = ⊥

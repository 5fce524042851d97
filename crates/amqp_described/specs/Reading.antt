-- What is read of bytes.
use Rattle.std.specs.Prelude.{◌≡◌, ℕ, ◌≤◌, List, length, take, Result, Ok, Err}
use Rattle.amqp_value.specs.amqp_data.Data.{Amqp, Items, depth, items_depth}
use Rattle.amqp_value.specs.amqp_data.View.{view}
use Rattle.amqp_value.specs.amqp_data.declared.value.Value.{Value}
use Rattle.amqp_value.specs.Grammar.{Spells, SpellAll}
use Rattle.amqp_composites.specs.amqp_fields.declared.error.BaseError.{BaseError}
use Rattle.amqp_composites.specs.amqp_fields.declared.error.BaseError.TheVariants as errors

-- What was returned is the one thing of which this holds; it is refused exactly where it holds of none, unless memory ran out.
abbrev pub IsTheOne : {A : Type 0} → Result A BaseError → (A → Type 0) → Type 0
IsTheOne (Ok x) Holds = Holds x × ((y : _) → Holds y → x ≡ y)
IsTheOne (Err (errors.Memory a)) Holds = Unit {0}
IsTheOne (Err errors.Decode) Holds = (y : _) → Holds y → ⊥
IsTheOne (Err errors.Size) Holds = ⊥

-- the value is spelled by the front of the bytes, so many, and is nested within so many levels
pub record Begins (levels : ℕ) (bytes : List ℕ) (v : Amqp) (used : ℕ) : Type 0 where
  pub within : used ≤ length bytes
  pub spelled : Spells (take used bytes) v
  pub nests : depth v ≤ levels

-- the values are spelled by the bytes, and each is nested within so many levels
pub record Fill (levels : ℕ) (bytes : List ℕ) (vs : Items) : Type 0 where
  pub spelled : SpellAll bytes vs
  pub nests : items_depth vs ≤ levels

-- what was read of the front of the bytes; it is refused exactly where no value begins them, unless memory ran out
abbrev pub ReadsFront : Result (Value × ℕ) BaseError → ℕ → List ℕ → Type 0
ReadsFront (Ok x) levels bytes = Begins levels bytes (view x.0) x.1 × ((v : Amqp) (used : ℕ) → Begins levels bytes v used → (view x.0 ≡ v) × (x.1 ≡ used))
ReadsFront (Err (errors.Memory a)) levels bytes = Unit {0}
ReadsFront (Err errors.Decode) levels bytes = (v : Amqp) (used : ℕ) → Begins levels bytes v used → ⊥
ReadsFront (Err errors.Size) levels bytes = ⊥

-- Fields that are to be written.
use Rattle.std.specs.Prelude.{◌≡◌, List, [], ◌∷◌, ◌++◌, map, Result, Ok, Err}
use Rattle.amqp_data.specs.Data.{Amqp}
use Rattle.amqp_data.specs.View.{view}
use Rattle.amqp_fields.specs.declared.error.BaseError.{BaseError}
use Rattle.amqp_fields.specs.declared.error.BaseError.TheVariants as errors
use Rattle.amqp_fields.specs.declared.writer.FieldWriter.{FieldWriter}

-- the fields so far
abbrev pub written : FieldWriter → List Amqp
written w = map view w.values.items

-- one field more, or memory ran out
abbrev pub Adds : Result (Unit {0}) BaseError → List Amqp → List Amqp → Amqp → Type 0
Adds (Ok _) old new v = new ≡ old ++ v ∷ []
Adds (Err (errors.Memory a)) old new v = Unit {0}
Adds (Err errors.Decode) old new v = ⊥
Adds (Err errors.Size) old new v = ⊥

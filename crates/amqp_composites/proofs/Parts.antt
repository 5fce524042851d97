-- Lists that are read in parts.
use Rattle.std.proofs.Common.{◌≡◌, Option, None, Err}
use Rattle.amqp_fields.specs.declared.error.BaseError.{BaseError}
use Rattle.amqp_fields.specs.declared.error.BaseError.TheVariants as errors
use Rattle.amqp_fields.specs.Fields.{Gives}

-- what fails at the end fails as a whole
pub stops : {X : Type 0} (e : BaseError) (read : Option (Unit {0})) (total : Option X) → Gives {X = Unit {0}} (Err e) read → (read ≡ None → total ≡ None) → Gives {X = X} (Err e) total
stops (errors.Memory a) read total h f = tt
stops errors.Decode read total h f = f h
stops errors.Size read total h f = absurd h

-- The errors of values as errors of bodies.
use Rattle.std.specs.Prelude.{Result, Ok, Err}
use Rattle.amqp_value.specs.declared.error.ValueError.{ValueError}
use Rattle.amqp_value.specs.declared.error.ValueError.TheVariants as value
use Rattle.amqp_composites.specs.amqp_fields.declared.error.BaseError.{BaseError}
use Rattle.amqp_composites.specs.amqp_fields.declared.error.BaseError.TheVariants as body

-- a value that is too long or nested too deep has no size in a body
abbrev pub of_value_error : ValueError → BaseError
of_value_error (value.Memory a) = body.Memory a
of_value_error value.Decode = body.Decode
of_value_error value.Short = body.Decode
of_value_error value.Depth = body.Size
of_value_error value.Size = body.Size

-- the same result, with the error of a body
abbrev pub of_value_result : {A : Type 0} → Result A ValueError → Result A BaseError
of_value_result (Ok x) = Ok x
of_value_result (Err e) = Err (of_value_error e)

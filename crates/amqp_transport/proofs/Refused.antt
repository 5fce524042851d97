-- What is refused.
use Rattle.std.specs.Prelude.{Err, IsErrOf}
use Rattle.amqp_fields.specs.declared.error.BaseError.{BaseError}
use Rattle.amqp_fields.specs.declared.error.BaseError.TheVariants as errors
use Rattle.amqp_sasl_bodies.specs.amqp_described.Reading.{IsTheOne}

-- it is no such thing, where it is refused as none
pub holds_of_none : {A : Type 0} (Holds : A → Type 0) (e : BaseError) → IsTheOne {A = A} (Err e) Holds → IsErrOf {T = A} {E = BaseError} (Err e) errors.Decode → (x : A) → Holds x → ⊥
holds_of_none Holds (errors.Memory a) h e x s = cc
holds_of_none Holds errors.Decode h e x s = h x s
holds_of_none Holds errors.Size h e x s = h

-- Detach: their fields, in the order of the standard (OASIS AMQP 1.0, part 2, section 2.7.7).
use Rattle.std.specs.Prelude.{List, Option, Some, [], false, refl, ◌∷◌, ◌≡◌}
use Rattle.amqp_composites.specs.amqp_data.Data.{Amqp, Items}
use Rattle.amqp_composites.specs.amqp_fields.Fields.{IsValid, bool_in, ends_at, field_at, maybe, of_bool, of_uint, optional, or_default, same_bool, trimmed, uint_in, unless, ◌>>=◌}
use Rattle.amqp_composites.specs.amqp_fields.Again.{bool_field, bools_are, default_is, field_ends, optional_is, required_is, uint_field}
use Rattle.amqp_performatives.specs.declared.detach.Detach.{Detach}
use Rattle.amqp_composites.specs.Error.{IsErrorValid, error_field, error_in, of_error}

-- the detach that the fields say (part 2, section 2.7.7)
unfoldable pub detach_of : Items → Option Detach
detach_of fields = do
  handle ← uint_in (field_at fields 0)
  closed ← or_default false bool_in (field_at fields 1)
  error ← optional error_in (field_at fields 2)
  no_more ← ends_at fields 3
  Some (record { handle = handle; closed = closed; error = error })

-- its fields, as they are written
abbrev pub detach_fields : Detach → List Amqp
detach_fields x =
    of_uint x.handle ∷ unless same_bool false of_bool x.closed ∷ maybe of_error x.error ∷ []

abbrev pub IsDetachValid : Detach → Type 0
IsDetachValid x = IsValid IsErrorValid x.error

pub detach_again : (x : Detach) → IsDetachValid x → detach_of (trimmed (detach_fields x)) ≡ Some x
unfolding detach_of
detach_again x h = λ i. do
  handle ← required_is uint_field (detach_fields x) 0 x.handle refl tt i
  closed ← default_is bool_field same_bool bools_are (detach_fields x) 1 false x.closed refl tt i
  error ← optional_is error_field (detach_fields x) 2 x.error refl h i
  no_more ← field_ends (detach_fields x) i
  Some (record { handle = handle; closed = closed; error = error })

-- Close: their fields, in the order of the standard (OASIS AMQP 1.0, part 2, section 2.7.9).
use Rattle.std.specs.Prelude.{List, Option, Some, [], refl, ◌∷◌, ◌≡◌}
use Rattle.amqp_composites.specs.amqp_data.Data.{Amqp, Items}
use Rattle.amqp_composites.specs.amqp_fields.Fields.{IsValid, ends_at, field_at, maybe, optional, trimmed, ◌>>=◌}
use Rattle.amqp_composites.specs.amqp_fields.Again.{field_ends, optional_is}
use Rattle.amqp_performatives.specs.declared.close.Close.{Close}
use Rattle.amqp_composites.specs.Error.{IsErrorValid, error_field, error_in, of_error}

-- the close that the fields say (part 2, section 2.7.9)
unfoldable pub close_of : Items → Option Close
close_of fields = do
  error ← optional error_in (field_at fields 0)
  no_more ← ends_at fields 1
  Some (record { error = error })

-- its fields, as they are written
abbrev pub close_fields : Close → List Amqp
close_fields x =
    maybe of_error x.error ∷ []

abbrev pub IsCloseValid : Close → Type 0
IsCloseValid x = IsValid IsErrorValid x.error

pub close_again : (x : Close) → IsCloseValid x → close_of (trimmed (close_fields x)) ≡ Some x
unfolding close_of
close_again x h = λ i. do
  error ← optional_is error_field (close_fields x) 0 x.error refl h i
  no_more ← field_ends (close_fields x) i
  Some (record { error = error })

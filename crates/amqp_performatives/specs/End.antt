-- End: their fields, in the order of the standard (OASIS AMQP 1.0, part 2, section 2.7.8).
use Rattle.std.specs.Prelude.{List, Option, Some, [], refl, ◌∷◌, ◌≡◌}
use Rattle.amqp_composites.specs.amqp_data.Data.{Amqp, Items}
use Rattle.amqp_composites.specs.amqp_fields.Fields.{IsValid, ends_at, field_at, maybe, optional, trimmed, ◌>>=◌}
use Rattle.amqp_composites.specs.amqp_fields.Again.{field_ends, optional_is}
use Rattle.amqp_performatives.specs.declared.end.End.{End}
use Rattle.amqp_composites.specs.Error.{IsErrorValid, error_field, error_in, of_error}

-- the end that the fields say (part 2, section 2.7.8)
unfoldable pub end_of : Items → Option End
end_of fields = do
  error ← optional error_in (field_at fields 0)
  no_more ← ends_at fields 1
  Some (record { error = error })

-- its fields, as they are written
abbrev pub end_fields : End → List Amqp
end_fields x =
    maybe of_error x.error ∷ []

abbrev pub IsEndValid : End → Type 0
IsEndValid x = IsValid IsErrorValid x.error

pub end_again : (x : End) → IsEndValid x → end_of (trimmed (end_fields x)) ≡ Some x
unfolding end_of
end_again x h = λ i. do
  error ← optional_is error_field (end_fields x) 0 x.error refl h i
  no_more ← field_ends (end_fields x) i
  Some (record { error = error })

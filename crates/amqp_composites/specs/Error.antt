-- Errors: their fields, in the order of the standard (OASIS AMQP 1.0, part 2, section 2.8.14).
use Rattle.std.specs.Prelude.{None, List, Option, Some, [], refl, ◌∷◌, ◌≡◌}
use Rattle.amqp_fields.specs.amqp_data.Data.{Amqp, Items}
use Rattle.amqp_fields.specs.Fields.{IsValid, ends_at, field_at, is_symbol, map_with, maybe, of_map, of_string, of_symbol, optional, string_in, symbol_in, trimmed, ◌>>=◌}
use Rattle.amqp_fields.specs.Again.{IsField, HasKeys, each, field_ends, map_field, optional_is, required_is, string_field, symbol_field}
use Rattle.amqp_composites.specs.declared.error.Error.{Error}
use Rattle.amqp_composites.specs.declared.kind.CompositeKind.{CompositeKind}
use Rattle.amqp_composites.specs.declared.kind.CompositeKind.TheVariants as kind
use Rattle.amqp_composites.specs.Described.{list_in, composite}

-- the error that the fields say (part 2, section 2.8.14)
unfoldable pub error_of : Items → Option Error
error_of fields = do
  condition ← symbol_in (field_at fields 0)
  description ← optional string_in (field_at fields 1)
  info ← optional (map_with is_symbol) (field_at fields 2)
  no_more ← ends_at fields 3
  Some (record { condition = condition; description = description; info = info })

-- its fields, as they are written
abbrev pub error_fields : Error → List Amqp
error_fields x =
    of_symbol x.condition ∷ maybe of_string x.description ∷ maybe of_map x.info ∷ []

abbrev pub IsErrorValid : Error → Type 0
IsErrorValid x = IsValid (HasKeys is_symbol) x.info

pub error_again : (x : Error) → IsErrorValid x → error_of (trimmed (error_fields x)) ≡ Some x
unfolding error_of
error_again x h = λ i. do
  condition ← required_is symbol_field (error_fields x) 0 x.condition refl tt i
  description ← optional_is string_field (error_fields x) 1 x.description refl (each x.description) i
  info ← optional_is (map_field is_symbol) (error_fields x) 2 x.info refl h i
  no_more ← field_ends (error_fields x) i
  Some (record { condition = condition; description = description; info = info })

-- the error that a value says
abbrev pub error_with : CompositeKind → Items → Option Error
error_with kind.Error fields = error_of fields
error_with k fields = None

abbrev pub error_in : Amqp → Option Error
error_in v = list_in v >>= λ x. error_with x.0 x.1

abbrev pub of_error : Error → Amqp
of_error x = composite kind.Error (error_fields x)

pub error_field : IsField error_in of_error IsErrorValid
error_field = record { again = error_again; there = λ x. tt }

-- Described lists (OASIS AMQP 1.0, part 1, section 1.4).
use Rattle.std.specs.Prelude.{◌≡◌, List, Option, Some, None, Result, Ok, Err}
use Rattle.amqp_fields.specs.amqp_data.Data.{Amqp, Items, scalar, ulong, symbol, list, described}
use Rattle.amqp_fields.specs.declared.error.BaseError.{BaseError}
use Rattle.amqp_fields.specs.declared.error.BaseError.TheVariants as errors
use Rattle.amqp_fields.specs.declared.fields.Fields.{Fields}
use Rattle.amqp_fields.specs.Left.{left}
use Rattle.amqp_fields.specs.Fields.{◌>>=◌, trimmed}
use Rattle.amqp_composites.specs.declared.kind.CompositeKind.{CompositeKind}
use Rattle.amqp_composites.specs.Kind.{number_of, kind_numbered, kind_named}

-- the kind that a descriptor says, by its number or by its name
abbrev pub kind_in : Amqp → Option CompositeKind
kind_in (scalar (ulong n)) = kind_numbered n
kind_in (scalar (symbol s)) = kind_named s
kind_in v = None

-- a described list: its kind and its fields
abbrev pub list_in : Amqp → Option (CompositeKind × Items)
list_in (described d (list fields)) = kind_in d >>= λ k. Some (k, fields)
list_in v = None

-- the list that is written: the number of the kind, the fields without the nulls at the end
abbrev pub composite : CompositeKind → List Amqp → Amqp
composite k fields = described (scalar (ulong (number_of k))) (list (trimmed fields))

abbrev pub GivesList : Result (CompositeKind × Fields) BaseError → Option (CompositeKind × Items) → Type 0
GivesList (Ok x) read = read ≡ Some (x.0, left x.1)
GivesList (Err (errors.Memory a)) read = Unit {0}
GivesList (Err errors.Decode) read = read ≡ None
GivesList (Err errors.Size) read = ⊥

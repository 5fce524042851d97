-- What is seen of the value that begins the bytes of a body.
use Rattle.std.specs.Prelude.{◌≡◌, ℕ, List, Option, Some, None}
use Rattle.amqp_data.specs.Data.{Amqp, Items}
use Rattle.amqp_data.specs.View.{view}
use Rattle.amqp_data.specs.declared.value.Value.{Value}
use Rattle.amqp_composites.specs.declared.kind.CompositeKind.{CompositeKind}
use Rattle.amqp_composites.specs.Described.{list_in}
use Rattle.amqp_described.specs.Reading.{Begins}

-- the value begins the bytes, as the only one
abbrev pub SeesValue : Value × ℕ → List ℕ → Type 0
SeesValue x bytes = Begins 34 bytes (view x.0) x.1 × ((v : Amqp) (used : ℕ) → Begins 34 bytes v used → (view x.0 ≡ v) × (x.1 ≡ used))

-- the value at the front is the described list with these fields
pub record HasList (bytes : List ℕ) (kind : CompositeKind) : Type 0 where
  pub value : Amqp
  pub used : ℕ
  pub fields : Items
  pub begins : Begins 34 bytes value used
  pub listed : list_in value ≡ Some (kind, fields)

-- the value at the front is no described list of the standard
pub record HasNoList (bytes : List ℕ) : Type 0 where
  pub value : Amqp
  pub used : ℕ
  pub begins : Begins 34 bytes value used
  pub unlisted : list_in value ≡ None

abbrev pub SeesKind : Option CompositeKind → List ℕ → Type 0
SeesKind (Some kind) bytes = HasList bytes kind
SeesKind None bytes = HasNoList bytes

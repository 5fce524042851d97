-- What a value holds, by its kind (OASIS AMQP 1.0, part 1, section 1.6).
use Rattle.std.specs.Prelude.{ℕ, ℤ, Bool, true, false, Option, Some, None}
use Rattle.amqp_data.specs.declared.kind.ElementKind.{ElementKind}
use Rattle.amqp_data.specs.declared.value.Uuid.{Uuid}
use Rattle.amqp_data.specs.Data.{Amqp, Items, Pairs, null, ubyte, ushort, uint, ulong, byte, short, int, long, char, uuid, scalar, list, dict, array, described}

-- section 1.6.1
abbrev pub is_null : Amqp → Bool
is_null (scalar null) = true
is_null v = false

-- a whole number without a sign, of any width (sections 1.6.3 to 1.6.6)
abbrev pub unsigned_in : Amqp → Option ℕ
unsigned_in (scalar (ubyte n)) = Some n
unsigned_in (scalar (ushort n)) = Some n
unsigned_in (scalar (uint n)) = Some n
unsigned_in (scalar (ulong n)) = Some n
unsigned_in v = None

-- a whole number with a sign, of any width (sections 1.6.7 to 1.6.10)
abbrev pub signed_in : Amqp → Option ℤ
signed_in (scalar (byte n)) = Some n
signed_in (scalar (short n)) = Some n
signed_in (scalar (int n)) = Some n
signed_in (scalar (long n)) = Some n
signed_in v = None

-- section 1.6.16
abbrev pub char_in : Amqp → Option ℕ
char_in (scalar (char c)) = Some c
char_in v = None

-- section 1.6.18
abbrev pub uuid_in : Amqp → Option Uuid
uuid_in (scalar (uuid u)) = Some (record { bytes = u })
uuid_in v = None

-- section 1.6.22
abbrev pub list_in : Amqp → Option Items
list_in (list vs) = Some vs
list_in v = None

-- section 1.6.23
abbrev pub map_in : Amqp → Option Pairs
map_in (dict ps) = Some ps
map_in v = None

-- section 1.6.24
abbrev pub array_in : Amqp → Option (ElementKind × Items)
array_in (array k vs) = Some (k, vs)
array_in v = None

-- a descriptor and the value behind it (section 1.1.2)
abbrev pub described_in : Amqp → Option (Amqp × Amqp)
described_in (described d v) = Some (d, v)
described_in v = None

-- Constructors, sizes and counts (OASIS AMQP 1.0, part 1, sections 1.2 and 1.6).
use Rattle.std.specs.Prelude.{ℕ, ◌^◌, List, [], ◌∷◌, ◌++◌, length, Option, Some, None, ◌==◌, if◌then◌else◌}
use Rattle.std.specs.Int.{w32, to_be_bytes}
use Rattle.amqp_data.specs.declared.kind.ElementKind.{ElementKind}
use Rattle.amqp_data.specs.declared.kind.ElementKind.TheVariants as k
use Rattle.amqp_value.specs.declared.code.SizeWidth.{SizeWidth}
use Rattle.amqp_value.specs.declared.code.SizeWidth.TheVariants.{One, Four}
use Rattle.amqp_value.specs.declared.code.ScalarCode.{ScalarCode}
use Rattle.amqp_value.specs.declared.code.ScalarCode.TheVariants as c
use Rattle.amqp_value.specs.declared.code.Code.{Code}
use Rattle.amqp_value.specs.declared.code.Code.TheVariants as code

-- a number in so many octets, the highest first (section 1.2)
abbrev pub octets : SizeWidth → ℕ → List ℕ
octets One n = n ∷ []
octets Four n = to_be_bytes w32 n

-- what a number in so many octets stays below
abbrev pub limit : SizeWidth → ℕ
limit One = 256
limit Four = 2 ^ 32

-- bytes behind their number (section 1.2.2)
abbrev pub block : SizeWidth → List ℕ → List ℕ
block w s = octets w (length s) ++ s

-- a count, and the items (sections 1.2.3 and 1.2.4)
abbrev pub content : SizeWidth → ℕ → List ℕ → List ℕ
content w count items = octets w count ++ items

-- the constructor of each scalar (section 1.6)
abbrev pub scalar_number : ScalarCode → ℕ
scalar_number c.Null = 0x40
scalar_number c.True = 0x41
scalar_number c.False = 0x42
scalar_number c.Boolean = 0x56
scalar_number c.Ubyte = 0x50
scalar_number c.Ushort = 0x60
scalar_number c.Uint0 = 0x43
scalar_number c.SmallUint = 0x52
scalar_number c.Uint = 0x70
scalar_number c.Ulong0 = 0x44
scalar_number c.SmallUlong = 0x53
scalar_number c.Ulong = 0x80
scalar_number c.Byte = 0x51
scalar_number c.Short = 0x61
scalar_number c.SmallInt = 0x54
scalar_number c.Int = 0x71
scalar_number c.SmallLong = 0x55
scalar_number c.Long = 0x81
scalar_number c.Char = 0x73
scalar_number c.Timestamp = 0x83
scalar_number c.Uuid = 0x98
scalar_number (c.Binary One) = 0xa0
scalar_number (c.Binary Four) = 0xb0
scalar_number (c.String One) = 0xa1
scalar_number (c.String Four) = 0xb1
scalar_number (c.Symbol One) = 0xa3
scalar_number (c.Symbol Four) = 0xb3

-- the constructors of compound and described values (sections 1.2, 1.6.22 to 1.6.24)
abbrev pub list_number : SizeWidth → ℕ
list_number One = 0xc0
list_number Four = 0xd0

abbrev pub map_number : SizeWidth → ℕ
map_number One = 0xc1
map_number Four = 0xd1

abbrev pub array_number : SizeWidth → ℕ
array_number One = 0xe0
array_number Four = 0xf0

abbrev pub number : Code → ℕ
number code.Described = 0x00
number code.EmptyList = 0x45
number (code.List w) = list_number w
number (code.Map w) = map_number w
number (code.Array w) = array_number w
number (code.Scalar c) = scalar_number c

abbrev pub all_scalars : List ScalarCode
all_scalars =
    c.Null ∷ c.True ∷ c.False ∷ c.Boolean ∷ c.Ubyte ∷ c.Ushort ∷ c.Uint0 ∷ c.SmallUint ∷ c.Uint ∷ c.Ulong0 ∷ c.SmallUlong ∷ c.Ulong ∷ c.Byte ∷ c.Short ∷ c.SmallInt ∷ c.Int ∷ c.SmallLong ∷ c.Long ∷ c.Char ∷ c.Timestamp ∷ c.Uuid
    ∷ c.Binary One ∷ c.Binary Four ∷ c.String One ∷ c.String Four ∷ c.Symbol One ∷ c.Symbol Four ∷ []

abbrev pub scalar_among : List ScalarCode → ℕ → Option ScalarCode
scalar_among [] n = None
scalar_among (c ∷ cs) n = if n == scalar_number c then Some c else scalar_among cs n

-- the scalar constructor with that byte
abbrev pub find_scalar : ℕ → Option ScalarCode
find_scalar = scalar_among all_scalars

abbrev pub all_compounds : List Code
all_compounds = code.Described ∷ code.EmptyList ∷ code.List One ∷ code.List Four ∷ code.Map One ∷ code.Map Four ∷ code.Array One ∷ code.Array Four ∷ []

abbrev pub as_code : Option ScalarCode → Option Code
as_code (Some c) = Some (code.Scalar c)
as_code None = None

abbrev pub code_among : List Code → ℕ → Option Code
code_among [] n = as_code (find_scalar n)
code_among (c ∷ cs) n = if n == number c then Some c else code_among cs n

-- the constructor with that byte
abbrev pub find_code : ℕ → Option Code
find_code = code_among all_compounds

-- the kind of an array whose elements have that constructor: no element is of width zero (section 1.6.24)
abbrev pub code_kind : ScalarCode → Option ElementKind
code_kind c.Null = None
code_kind c.True = None
code_kind c.False = None
code_kind c.Boolean = Some k.Bool
code_kind c.Ubyte = Some k.Ubyte
code_kind c.Ushort = Some k.Ushort
code_kind c.Uint0 = None
code_kind c.SmallUint = Some k.Uint
code_kind c.Uint = Some k.Uint
code_kind c.Ulong0 = None
code_kind c.SmallUlong = Some k.Ulong
code_kind c.Ulong = Some k.Ulong
code_kind c.Byte = Some k.Byte
code_kind c.Short = Some k.Short
code_kind c.SmallInt = Some k.Int
code_kind c.Int = Some k.Int
code_kind c.SmallLong = Some k.Long
code_kind c.Long = Some k.Long
code_kind c.Char = Some k.Char
code_kind c.Timestamp = Some k.Timestamp
code_kind c.Uuid = Some k.Uuid
code_kind (c.Binary w) = Some k.Binary
code_kind (c.String w) = Some k.String
code_kind (c.Symbol w) = Some k.Symbol

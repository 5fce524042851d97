-- The one spelling that is written (OASIS AMQP 1.0, part 1, sections 1.2 and 1.6), and what has one.
use Rattle.std.specs.Prelude.{ℕ, ℤ, suc, negsuc, pos, ◌+◌, ◌*◌, ◌<◌, ◌^◌, List, [], ◌∷◌, ◌++◌, length, Bool, true, nat_lt, int_le, ◌==◌, ◌&&◌, if◌then◌else◌}
use Rattle.std.specs.Int.{w8, w16, w32, w64, to_be_bytes, cast_unsigned}
use Rattle.amqp_data.specs.declared.kind.ElementKind.{ElementKind}
use Rattle.amqp_data.specs.declared.kind.ElementKind.TheVariants as k
use Rattle.amqp_data.specs.Data.{Scalar, null, boolean, ubyte, ushort, uint, ulong, byte, short, int, long, char, timestamp, uuid, binary, string, symbol, Amqp, Items, Pairs, scalar, list, dict, array, described, no_items, item, no_pairs, pair, count, pair_count}
use Rattle.amqp_value.specs.declared.code.SizeWidth.{SizeWidth}
use Rattle.amqp_value.specs.declared.code.SizeWidth.TheVariants.{One, Four}
use Rattle.amqp_value.specs.declared.code.ScalarCode.{ScalarCode}
use Rattle.amqp_value.specs.declared.code.ScalarCode.TheVariants as c
use Rattle.amqp_value.specs.Code.{block, content, scalar_number, list_number, map_number, array_number}

-- one octet where the test passes
abbrev pub narrow_if : Bool → SizeWidth
narrow_if fits = if fits then One else Four

-- the least width in which a length fits
abbrev pub width_of : List ℕ → SizeWidth
width_of s = narrow_if (nat_lt (length s) 256)

-- the least width in which a count and the size of what follows it fit
abbrev pub compound_width : ℕ → ℕ → SizeWidth
compound_width count size = narrow_if (nat_lt count 256 && nat_lt (size + 1) 256)

-- a number from -128 to 127
abbrev pub is_small : ℤ → Bool
is_small n = int_le (negsuc 127) n && int_le n (pos 127)

-- the first constructor that can hold a scalar
abbrev pub shortest : Scalar → ScalarCode
shortest null = c.Null
shortest (boolean b) = if b then c.True else c.False
shortest (ubyte n) = c.Ubyte
shortest (ushort n) = c.Ushort
shortest (uint n) = if n == 0 then c.Uint0 else if nat_lt n 256 then c.SmallUint else c.Uint
shortest (ulong n) = if n == 0 then c.Ulong0 else if nat_lt n 256 then c.SmallUlong else c.Ulong
shortest (byte n) = c.Byte
shortest (short n) = c.Short
shortest (int n) = if is_small n then c.SmallInt else c.Int
shortest (long n) = if is_small n then c.SmallLong else c.Long
shortest (char n) = c.Char
shortest (timestamp n) = c.Timestamp
shortest (uuid u) = c.Uuid
shortest (binary s) = c.Binary (width_of s)
shortest (string s) = c.String (width_of s)
shortest (symbol s) = c.Symbol (width_of s)

-- a scalar behind that constructor
unfoldable pub laid : ScalarCode → Scalar → List ℕ
laid c.Boolean (boolean b) = (if b then 1 else 0) ∷ []
laid c.Ubyte (ubyte n) = n ∷ []
laid c.Ushort (ushort n) = to_be_bytes w16 n
laid c.SmallUint (uint n) = n ∷ []
laid c.Uint (uint n) = to_be_bytes w32 n
laid c.SmallUlong (ulong n) = n ∷ []
laid c.Ulong (ulong n) = to_be_bytes w64 n
laid c.Byte (byte n) = cast_unsigned w8 n ∷ []
laid c.Short (short n) = to_be_bytes w16 (cast_unsigned w16 n)
laid c.SmallInt (int n) = cast_unsigned w8 n ∷ []
laid c.Int (int n) = to_be_bytes w32 (cast_unsigned w32 n)
laid c.SmallLong (long n) = cast_unsigned w8 n ∷ []
laid c.Long (long n) = to_be_bytes w64 (cast_unsigned w64 n)
laid c.Char (char n) = to_be_bytes w32 n
laid c.Timestamp (timestamp n) = to_be_bytes w64 (cast_unsigned w64 n)
laid c.Uuid (uuid u) = u
laid (c.Binary w) (binary s) = block w s
laid (c.String w) (string s) = block w s
laid (c.Symbol w) (symbol s) = block w s
laid c s = []

unfoldable pub canonical_scalar : Scalar → List ℕ
canonical_scalar s = scalar_number (shortest s) ∷ laid (shortest s) s

-- elements behind that constructor, one after another
abbrev pub elements : ScalarCode → Items → List ℕ
elements c no_items = []
elements c (item (scalar s) vs) = laid c s ++ elements c vs
elements c (item v vs) = elements c vs

-- a text of less than 256 bytes, or no text
abbrev pub is_short : Amqp → Bool
is_short (scalar (binary s)) = nat_lt (length s) 256
is_short (scalar (string s)) = nat_lt (length s) 256
is_short (scalar (symbol s)) = nat_lt (length s) 256
is_short v = true

abbrev pub are_short : Items → Bool
are_short no_items = true
are_short (item v vs) = is_short v && are_short vs

-- the constructor of an array's elements: full width, and one-byte lengths where all texts have room
abbrev pub element_code : ElementKind → Items → ScalarCode
element_code k.Bool vs = c.Boolean
element_code k.Ubyte vs = c.Ubyte
element_code k.Ushort vs = c.Ushort
element_code k.Uint vs = c.Uint
element_code k.Ulong vs = c.Ulong
element_code k.Byte vs = c.Byte
element_code k.Short vs = c.Short
element_code k.Int vs = c.Int
element_code k.Long vs = c.Long
element_code k.Char vs = c.Char
element_code k.Timestamp vs = c.Timestamp
element_code k.Uuid vs = c.Uuid
element_code k.Binary vs = c.Binary (narrow_if (are_short vs))
element_code k.String vs = c.String (narrow_if (are_short vs))
element_code k.Symbol vs = c.Symbol (narrow_if (are_short vs))

-- a size, a count and the items, by the least width
abbrev pub compound : (SizeWidth → ℕ) → ℕ → List ℕ → List ℕ
compound number count items = let w = compound_width count (length items) in number w ∷ block w (content w count items)

abbrev pub list_bytes : Items → List ℕ → List ℕ
list_bytes no_items items = 0x45 ∷ []
list_bytes (item v vs) items = compound list_number (suc (count vs)) items

abbrev pub array_items : ElementKind → Items → List ℕ
array_items k vs = scalar_number (element_code k vs) ∷ elements (element_code k vs) vs

unfoldable mutual
  pub canonical : Amqp → List ℕ
  canonical (scalar s) = canonical_scalar s
  canonical (list vs) = list_bytes vs (canonical_items vs)
  canonical (dict ps) = compound map_number (2 * pair_count ps) (canonical_pairs ps)
  canonical (array k vs) = compound array_number (count vs) (array_items k vs)
  canonical (described d v) = 0 ∷ (canonical d ++ canonical v)

  pub canonical_items : Items → List ℕ
  canonical_items no_items = []
  canonical_items (item v vs) = canonical v ++ canonical_items vs

  pub canonical_pairs : Pairs → List ℕ
  canonical_pairs no_pairs = []
  canonical_pairs (pair k v ps) = canonical k ++ (canonical v ++ canonical_pairs ps)

-- a text's length has room in 32 bits
abbrev pub IsScalarSized : Scalar → Type 0
IsScalarSized (binary s) = length s < 2 ^ 32
IsScalarSized (string s) = length s < 2 ^ 32
IsScalarSized (symbol s) = length s < 2 ^ 32
IsScalarSized s = Unit {0}

-- each length has room in 32 bits
unfoldable mutual
  pub IsSized : Amqp → Type 0
  IsSized (scalar s) = IsScalarSized s
  IsSized (list vs) = AreSized vs × (length (content Four (count vs) (canonical_items vs)) < 2 ^ 32)
  IsSized (dict ps) = ArePairsSized ps × (length (content Four (2 * pair_count ps) (canonical_pairs ps)) < 2 ^ 32)
  IsSized (array k vs) = AreSized vs × (length (content Four (count vs) (array_items k vs)) < 2 ^ 32)
  IsSized (described d v) = IsSized d × IsSized v

  pub AreSized : Items → Type 0
  AreSized no_items = Unit {0}
  AreSized (item v vs) = IsSized v × AreSized vs

  pub ArePairsSized : Pairs → Type 0
  ArePairsSized no_pairs = Unit {0}
  ArePairsSized (pair k v ps) = IsSized k × IsSized v × ArePairsSized ps

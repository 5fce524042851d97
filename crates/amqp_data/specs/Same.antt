-- When two values are the same (OASIS AMQP 1.0, part 1, section 1.6.23: keys of a map are), and what is hashed of one.
use Rattle.std.specs.Prelude.{ℕ, Bool, true, false, ◌==◌, ◌&&◌, ◌++◌, if◌then◌else◌, List as Listed, [], ◌∷◌}
use Rattle.std.specs.Str.{bytes_eq}
use Rattle.std.specs.Ordering.{int_eq}
use Rattle.std.specs.List.{list_any}
use Rattle.std.specs.Hash.{HashWrites, u8 as one_byte, bool as one_bool, usize, u16, u32, u64, i8, i16, i32, i64}
use Rattle.amqp_data.specs.declared.kind.ElementKind.{ElementKind}
use Rattle.amqp_data.specs.declared.kind.ElementKind.TheVariants as k
use Rattle.amqp_data.specs.Data.{Amqp, Items, Pairs, Scalar, null, boolean, ubyte, ushort, uint, ulong, byte, short, int, long, char, timestamp, uuid, binary, string, symbol, scalar, list, dict, array, described, no_items, item, no_pairs, pair, count, pair_count}
use Rattle.amqp_text.specs.Bytes.{hashed_bytes}

-- the place of a kind in the list of kinds
abbrev pub kind_number : ElementKind → ℕ
kind_number k.Bool = 0
kind_number k.Ubyte = 1
kind_number k.Ushort = 2
kind_number k.Uint = 3
kind_number k.Ulong = 4
kind_number k.Byte = 5
kind_number k.Short = 6
kind_number k.Int = 7
kind_number k.Long = 8
kind_number k.Char = 9
kind_number k.Timestamp = 10
kind_number k.Uuid = 11
kind_number k.Binary = 12
kind_number k.String = 13
kind_number k.Symbol = 14

abbrev pub same_kind : ElementKind → ElementKind → Bool
same_kind a b = kind_number a == kind_number b

abbrev pub same_bool : Bool → Bool → Bool
same_bool true b = b
same_bool false true = false
same_bool false false = true

unfoldable pub same_scalar : Scalar → Scalar → Bool
same_scalar null null = true
same_scalar null b = false
same_scalar (boolean a) (boolean b) = same_bool a b
same_scalar (boolean a) b = false
same_scalar (ubyte m) (ubyte n) = m == n
same_scalar (ubyte m) b = false
same_scalar (ushort m) (ushort n) = m == n
same_scalar (ushort m) b = false
same_scalar (uint m) (uint n) = m == n
same_scalar (uint m) b = false
same_scalar (ulong m) (ulong n) = m == n
same_scalar (ulong m) b = false
same_scalar (byte m) (byte n) = int_eq m n
same_scalar (byte m) b = false
same_scalar (short m) (short n) = int_eq m n
same_scalar (short m) b = false
same_scalar (int m) (int n) = int_eq m n
same_scalar (int m) b = false
same_scalar (long m) (long n) = int_eq m n
same_scalar (long m) b = false
same_scalar (char m) (char n) = m == n
same_scalar (char m) b = false
same_scalar (timestamp m) (timestamp n) = int_eq m n
same_scalar (timestamp m) b = false
same_scalar (uuid s) (uuid t) = bytes_eq s t
same_scalar (uuid s) b = false
same_scalar (binary s) (binary t) = bytes_eq s t
same_scalar (binary s) b = false
same_scalar (string s) (string t) = bytes_eq s t
same_scalar (string s) b = false
same_scalar (symbol s) (symbol t) = bytes_eq s t
same_scalar (symbol s) b = false

unfoldable mutual
  pub same : Amqp → Amqp → Bool
  same (scalar a) (scalar b) = same_scalar a b
  same (scalar a) b = false
  same (list vs) (list ws) = same_items vs ws
  same (list vs) b = false
  same (dict ps) (dict qs) = same_pairs ps qs
  same (dict ps) b = false
  same (array k vs) (array l ws) = same_kind k l && same_items vs ws
  same (array k vs) b = false
  same (described d v) (described e w) = same d e && same v w
  same (described d v) b = false

  pub same_items : Items → Items → Bool
  same_items no_items no_items = true
  same_items no_items (item w ws) = false
  same_items (item v vs) no_items = false
  same_items (item v vs) (item w ws) = same v w && same_items vs ws

  pub same_pairs : Pairs → Pairs → Bool
  same_pairs no_pairs no_pairs = true
  same_pairs no_pairs (pair l w qs) = false
  same_pairs (pair k v ps) no_pairs = false
  same_pairs (pair k v ps) (pair l w qs) = same k l && (same v w && same_pairs ps qs)

-- no key is the same as one before it, nor as one of those seen
unfoldable pub distinct_after : Listed Amqp → Pairs → Bool
distinct_after seen no_pairs = true
distinct_after seen (pair k v ps) = if list_any (same k) seen then false else distinct_after (seen ++ k ∷ []) ps

abbrev pub distinct_keys : Pairs → Bool
distinct_keys ps = distinct_after [] ps

-- the place of a value's kind among the kinds of values
abbrev pub scalar_number : Scalar → ℕ
scalar_number null = 0
scalar_number (boolean b) = 1
scalar_number (ubyte n) = 2
scalar_number (ushort n) = 3
scalar_number (uint n) = 4
scalar_number (ulong n) = 5
scalar_number (byte n) = 6
scalar_number (short n) = 7
scalar_number (int n) = 8
scalar_number (long n) = 9
scalar_number (char c) = 10
scalar_number (timestamp t) = 11
scalar_number (uuid u) = 12
scalar_number (binary s) = 13
scalar_number (string s) = 14
scalar_number (symbol s) = 15

abbrev pub value_number : Amqp → ℕ
value_number (scalar s) = scalar_number s
value_number (list vs) = 16
value_number (dict ps) = 17
value_number (array k vs) = 18
value_number (described d v) = 19

-- what a scalar feeds a hasher behind its kind: what it holds
unfoldable pub hashed_scalar : Scalar → HashWrites
hashed_scalar null = []
hashed_scalar (boolean b) = one_bool b
hashed_scalar (ubyte n) = one_byte n
hashed_scalar (ushort n) = u16 n
hashed_scalar (uint n) = u32 n
hashed_scalar (ulong n) = u64 n
hashed_scalar (byte n) = i8 n
hashed_scalar (short n) = i16 n
hashed_scalar (int n) = i32 n
hashed_scalar (long n) = i64 n
hashed_scalar (char c) = u32 c
hashed_scalar (timestamp t) = i64 t
hashed_scalar (uuid u) = u ∷ []
hashed_scalar (binary s) = hashed_bytes s
hashed_scalar (string s) = hashed_bytes s
hashed_scalar (symbol s) = hashed_bytes s

-- What a value feeds a hasher: its kind, of a compound how many parts it has, and what it holds. So what one value feeds
-- never begins what another feeds.
unfoldable mutual
  pub hashed : Amqp → HashWrites
  hashed (scalar s) = one_byte (scalar_number s) ++ hashed_scalar s
  hashed (list vs) = one_byte 16 ++ (usize (count vs) ++ hashed_items vs)
  hashed (dict ps) = one_byte 17 ++ (usize (pair_count ps) ++ hashed_pairs ps)
  hashed (array k vs) = one_byte 18 ++ (one_byte (kind_number k) ++ (usize (count vs) ++ hashed_items vs))
  hashed (described d v) = one_byte 19 ++ (hashed d ++ hashed v)

  pub hashed_items : Items → HashWrites
  hashed_items no_items = []
  hashed_items (item v vs) = hashed v ++ hashed_items vs

  pub hashed_pairs : Pairs → HashWrites
  hashed_pairs no_pairs = []
  hashed_pairs (pair k v ps) = hashed k ++ (hashed v ++ hashed_pairs ps)

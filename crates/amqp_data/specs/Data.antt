-- What an AMQP value is (OASIS AMQP 1.0, part 1, sections 1.1 and 1.6).
use Rattle.std.specs.Prelude.{◌≡◌, ◌≢◌, ℕ, ℤ, suc, max, List, Bool, Option, Some, None}
use Rattle.amqp_data.specs.declared.kind.ElementKind.{ElementKind}
use Rattle.amqp_data.specs.declared.kind.ElementKind.TheVariants as k

-- the primitive kinds that hold no other value (sections 1.6.1 to 1.6.21)
pub data Scalar : Type 0 where
  null : Scalar
  boolean : Bool → Scalar
  ubyte : ℕ → Scalar
  ushort : ℕ → Scalar
  uint : ℕ → Scalar
  ulong : ℕ → Scalar
  byte : ℤ → Scalar
  short : ℤ → Scalar
  int : ℤ → Scalar
  long : ℤ → Scalar
  char : ℕ → Scalar
  timestamp : ℤ → Scalar
  uuid : List ℕ → Scalar
  binary : List ℕ → Scalar
  string : List ℕ → Scalar
  symbol : List ℕ → Scalar

mutual
  pub data Amqp : Type 0 where
    scalar : Scalar → Amqp
    list : Items → Amqp
    dict : Pairs → Amqp
    array : ElementKind → Items → Amqp
    described : Amqp → Amqp → Amqp

  pub data Items : Type 0 where
    no_items : Items
    item : Amqp → Items → Items

  pub data Pairs : Type 0 where
    no_pairs : Pairs
    pair : Amqp → Amqp → Pairs → Pairs

abbrev pub count : Items → ℕ
count no_items = 0
count (item v vs) = suc (count vs)

abbrev pub pair_count : Pairs → ℕ
pair_count no_pairs = 0
pair_count (pair k v ps) = suc (pair_count ps)

-- a value more at the end
abbrev pub pushed : Items → Amqp → Items
pushed no_items v = item v no_items
pushed (item w ws) v = item w (pushed ws v)

-- How deep a value is nested. A scalar and an empty compound have depth 1.
abbrev mutual
  pub depth : Amqp → ℕ
  depth (scalar s) = 1
  depth (list vs) = suc (items_depth vs)
  depth (dict ps) = suc (pairs_depth ps)
  depth (array k vs) = suc (items_depth vs)
  depth (described d v) = suc (max (depth d) (depth v))

  pub items_depth : Items → ℕ
  items_depth no_items = 0
  items_depth (item v vs) = max (depth v) (items_depth vs)

  pub pairs_depth : Pairs → ℕ
  pairs_depth no_pairs = 0
  pairs_depth (pair k v ps) = max (max (depth k) (depth v)) (pairs_depth ps)

-- the kind that a value has as the element of an array (section 1.6.24); null has none
abbrev pub kind_of : Scalar → Option ElementKind
kind_of null = None
kind_of (boolean b) = Some k.Bool
kind_of (ubyte n) = Some k.Ubyte
kind_of (ushort n) = Some k.Ushort
kind_of (uint n) = Some k.Uint
kind_of (ulong n) = Some k.Ulong
kind_of (byte n) = Some k.Byte
kind_of (short n) = Some k.Short
kind_of (int n) = Some k.Int
kind_of (long n) = Some k.Long
kind_of (char c) = Some k.Char
kind_of (timestamp t) = Some k.Timestamp
kind_of (uuid u) = Some k.Uuid
kind_of (binary s) = Some k.Binary
kind_of (string s) = Some k.String
kind_of (symbol s) = Some k.Symbol

abbrev pub element_kind : Amqp → Option ElementKind
element_kind (scalar s) = kind_of s
element_kind (list vs) = None
element_kind (dict ps) = None
element_kind (array k vs) = None
element_kind (described d v) = None

-- each item is of that kind
abbrev pub AreOfKind : ElementKind → Items → Type 0
AreOfKind k no_items = Unit {0}
AreOfKind k (item v vs) = (element_kind v ≡ Some k) × AreOfKind k vs

-- the key is none of those
abbrev pub IsNew : Amqp → Pairs → Type 0
IsNew k no_pairs = Unit {0}
IsNew k (pair l v ps) = (k ≢ l) × IsNew k ps

-- no key comes twice (section 1.6.23)
abbrev pub HasDistinctKeys : Pairs → Type 0
HasDistinctKeys no_pairs = Unit {0}
HasDistinctKeys (pair k v ps) = IsNew k ps × HasDistinctKeys ps

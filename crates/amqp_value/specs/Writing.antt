-- What is known of the sizes of values, and of what is written of them.
use Rattle.std.specs.Prelude.{◌≡◌, ℕ, suc, ◌+◌, ◌*◌, ◌<◌, ◌≤◌, ◌^◌, max, List, ◌∷◌, ◌++◌, length, Option, Some, None, Result, Ok, Err, IsSome, IsUtf8, FitsSigned}
use Rattle.std.specs.Char.{IsScalar}
use Rattle.std.specs.Int.{w8, w16, w32, w64}
use Rattle.amqp_data.specs.declared.kind.ElementKind.{ElementKind}
use Rattle.amqp_data.specs.declared.kind.ElementKind.TheVariants as k
use Rattle.amqp_data.specs.Data.{Scalar, null, boolean, ubyte, ushort, uint, ulong, byte, short, int, long, char, timestamp, uuid, binary, string, symbol, Amqp, Items, Pairs, scalar, list, no_items, item, count, kind_of, depth, items_depth, pairs_depth}
use Rattle.amqp_value.specs.declared.error.ValueError.{ValueError}
use Rattle.amqp_value.specs.declared.error.ValueError.TheVariants as errors
use Rattle.amqp_value.specs.declared.code.SizeWidth.{SizeWidth}
use Rattle.amqp_value.specs.declared.code.SizeWidth.TheVariants.{One, Four}
use Rattle.amqp_value.specs.declared.code.ScalarCode.{ScalarCode}
use Rattle.amqp_value.specs.declared.code.ScalarCode.TheVariants as c
use Rattle.amqp_value.specs.Code.{octets, limit}
use Rattle.amqp_value.specs.Grammar.{IsAscii, LaysAll, Spells, SpellAll, SpellPairs}
use Rattle.amqp_value.specs.Canonical.{width_of, compound_width, laid, canonical_scalar, elements, canonical, canonical_items, canonical_pairs, IsScalarSized, IsSized, AreSized, ArePairsSized}

-- how many octets a width has
abbrev pub octet_count : SizeWidth → ℕ
octet_count One = 1
octet_count Four = 4

-- the width of a text's length behind the constructor
abbrev pub width_in : ScalarCode → SizeWidth
width_in (c.Binary w) = w
width_in (c.String w) = w
width_in (c.Symbol w) = w
width_in other = Four

-- the constructor of an array's elements, with texts' lengths in that width
abbrev pub code_of_kind : ElementKind → SizeWidth → ScalarCode
code_of_kind k.Bool w = c.Boolean
code_of_kind k.Ubyte w = c.Ubyte
code_of_kind k.Ushort w = c.Ushort
code_of_kind k.Uint w = c.Uint
code_of_kind k.Ulong w = c.Ulong
code_of_kind k.Byte w = c.Byte
code_of_kind k.Short w = c.Short
code_of_kind k.Int w = c.Int
code_of_kind k.Long w = c.Long
code_of_kind k.Char w = c.Char
code_of_kind k.Timestamp w = c.Timestamp
code_of_kind k.Uuid w = c.Uuid
code_of_kind k.Binary w = c.Binary w
code_of_kind k.String w = c.String w
code_of_kind k.Symbol w = c.Symbol w

-- the constructor that a scalar has as an element
abbrev pub code_for : SizeWidth → Scalar → ScalarCode
code_for w null = c.Null
code_for w (boolean b) = c.Boolean
code_for w (ubyte n) = c.Ubyte
code_for w (ushort n) = c.Ushort
code_for w (uint n) = c.Uint
code_for w (ulong n) = c.Ulong
code_for w (byte n) = c.Byte
code_for w (short n) = c.Short
code_for w (int n) = c.Int
code_for w (long n) = c.Long
code_for w (char n) = c.Char
code_for w (timestamp n) = c.Timestamp
code_for w (uuid u) = c.Uuid
code_for w (binary s) = c.Binary w
code_for w (string s) = c.String w
code_for w (symbol s) = c.Symbol w

-- a scalar that the constructor can stand for in an array
abbrev pub IsBehind : ScalarCode → Amqp → Type 0
IsBehind e (scalar s) = (code_for (width_in e) s ≡ e) × IsSome (kind_of s)
IsBehind e v = ⊥

abbrev pub AreBehind : ScalarCode → Items → Type 0
AreBehind e no_items = Unit {0}
AreBehind e (item v vs) = IsBehind e v × AreBehind e vs

-- a text's length has room in that width
abbrev pub HasRoom : SizeWidth → Amqp → Type 0
HasRoom w (scalar (binary s)) = length s < limit w
HasRoom w (scalar (string s)) = length s < limit w
HasRoom w (scalar (symbol s)) = length s < limit w
HasRoom w v = Unit {0}

abbrev pub HaveRoom : SizeWidth → Items → Type 0
HaveRoom w no_items = Unit {0}
HaveRoom w (item v vs) = HasRoom w v × HaveRoom w vs

-- what every value of that kind is
abbrev pub IsInRange : Scalar → Type 0
IsInRange null = Unit {0}
IsInRange (boolean b) = Unit {0}
IsInRange (ubyte n) = n < 256
IsInRange (ushort n) = n < 2 ^ 16
IsInRange (uint n) = n < 2 ^ 32
IsInRange (ulong n) = n < 2 ^ 64
IsInRange (byte n) = FitsSigned w8 n
IsInRange (short n) = FitsSigned w16 n
IsInRange (int n) = FitsSigned w32 n
IsInRange (long n) = FitsSigned w64 n
IsInRange (char n) = IsScalar n
IsInRange (timestamp n) = FitsSigned w64 n
IsInRange (uuid u) = length u ≡ 16
IsInRange (binary s) = Unit {0}
IsInRange (string s) = IsUtf8 s
IsInRange (symbol s) = IsAscii s

-- ---- sizes

-- a number in that width and the text, unless the text's length has no room in 32 bits
abbrev pub MeasuresText : SizeWidth → Option ℕ → List ℕ → Type 0
MeasuresText w (Some n) s = (n ≡ octet_count w + length s) × (length s < 2 ^ 32)
MeasuresText w None s = length s < 2 ^ 32 → ⊥

-- the same behind a constructor, at the least width
abbrev pub MeasuresBlock : Option ℕ → List ℕ → Type 0
MeasuresBlock (Some n) s = (n ≡ suc (octet_count (width_of s) + length s)) × (length s < 2 ^ 32)
MeasuresBlock None s = length s < 2 ^ 32 → ⊥

-- a constructor, a size, a count and the items
abbrev pub compound_length : ℕ → ℕ → ℕ
compound_length count items = items + 1 + 2 * octet_count (compound_width count items)

pub record IsLength (n : ℕ) (v : Amqp) : Type 0 where
  pub is : n ≡ length (canonical v)
  pub sized : IsSized v
  pub below : n < 2 ^ (32 + depth v)

-- the length of the spelling, or a length that has no room, if the value is not too deep
abbrev pub Measures : Option ℕ → Amqp → Type 0
Measures (Some n) v = IsLength n v
Measures None v = IsSized v → 32 < depth v

pub record AreLength (n : ℕ) (vs : Items) : Type 0 where
  pub is : n ≡ length (canonical_items vs)
  pub sized : AreSized vs
  pub below : 4 + n < 2 ^ 32

abbrev pub MeasuresAll : Option ℕ → Items → Type 0
MeasuresAll (Some n) vs = AreLength n vs
MeasuresAll None vs = AreSized vs → 4 + length (canonical_items vs) < 2 ^ 32 → 32 < items_depth vs

pub record IsEntryLength (n : ℕ) (x y : Amqp) : Type 0 where
  pub is : n ≡ length (canonical x) + length (canonical y)
  pub key : IsSized x
  pub value : IsSized y

abbrev pub MeasuresEntry : Option ℕ → Amqp → Amqp → Type 0
MeasuresEntry (Some n) x y = IsEntryLength n x y
MeasuresEntry None x y = IsSized x → IsSized y → length (canonical x) + length (canonical y) < 2 ^ 32 → 32 < max (depth x) (depth y)

pub record ArePairsLength (n : ℕ) (ps : Pairs) : Type 0 where
  pub is : n ≡ length (canonical_pairs ps)
  pub sized : ArePairsSized ps
  pub below : 4 + n < 2 ^ 32

abbrev pub MeasuresPairs : Option ℕ → Pairs → Type 0
MeasuresPairs (Some n) ps = ArePairsLength n ps
MeasuresPairs None ps = ArePairsSized ps → 4 + length (canonical_pairs ps) < 2 ^ 32 → 32 < pairs_depth ps

-- an element of an array
abbrev pub MeasuresElement : SizeWidth → Option ℕ → Amqp → Type 0
MeasuresElement w (Some n) (scalar s) = (n ≡ length (laid (code_for w s) s)) × IsScalarSized s × (0 < n)
MeasuresElement w None (scalar s) = IsScalarSized s → ⊥
MeasuresElement w r v = Unit {0}

pub record AreElementsLength (e : ScalarCode) (n : ℕ) (vs : Items) : Type 0 where
  pub is : n ≡ suc (length (elements e vs))
  pub sized : AreSized vs
  pub below : 4 + n < 2 ^ 32
  pub few : count vs < n

-- the elements behind their constructor
abbrev pub MeasuresElements : ScalarCode → Option ℕ → Items → Type 0
MeasuresElements e (Some n) vs = AreElementsLength e n vs
MeasuresElements e None vs = AreSized vs → 4 + suc (length (elements e vs)) < 2 ^ 32 → ⊥

-- ---- bytes

-- new is old with the scalar's bytes at its end
abbrev pub Puts : List ℕ → List ℕ → Scalar → Type 0
Puts old new s = (new ≡ old ++ canonical_scalar s) × IsInRange s

-- the same of an element of an array
abbrev pub PutsElement : SizeWidth → List ℕ → List ℕ → Amqp → Type 0
PutsElement w old new (scalar s) = (new ≡ old ++ laid (code_for w s) s) × IsInRange s
PutsElement w old new v = Unit {0}

pub record WroteElements (e : ScalarCode) (old new : List ℕ) (vs : Items) : Type 0 where
  pub bytes : new ≡ old ++ elements e vs
  pub spelled : LaysAll e (elements e vs) vs

-- new is old with the value's canonical bytes at its end, which spell the value
pub record Wrote (old new : List ℕ) (v : Amqp) : Type 0 where
  pub bytes : new ≡ old ++ canonical v
  pub spelled : Spells (canonical v) v

pub record WroteAll (old new : List ℕ) (vs : Items) : Type 0 where
  pub bytes : new ≡ old ++ canonical_items vs
  pub spelled : SpellAll (canonical_items vs) vs

pub record WrotePairs (old new : List ℕ) (ps : Pairs) : Type 0 where
  pub bytes : new ≡ old ++ canonical_pairs ps
  pub spelled : SpellPairs (canonical_pairs ps) ps

-- each length has room, and the value is not nested too deep
pub record IsWritable (v : Amqp) : Type 0 where
  pub sized : IsSized v
  pub nests : depth v ≤ 32

pub record AreWritable (vs : Items) : Type 0 where
  pub sized : AreSized vs
  pub nests : items_depth vs ≤ 32

-- each item is so, and the list of them has room
pub record IsListWritable (vs : Items) : Type 0 where
  pub items : AreWritable vs
  pub sized : IsSized (list vs)

pub record ArePairsWritable (ps : Pairs) : Type 0 where
  pub sized : ArePairsSized ps
  pub nests : pairs_depth ps ≤ 32

-- a constructor, the size of a count and the items, and the count
abbrev pub head : ℕ → SizeWidth → ℕ → ℕ → List ℕ
head number w n items = number ∷ (octets w (items + octet_count w) ++ octets w n)

-- what an error leaves: only want of memory may have added bytes
abbrev pub Leaves : ValueError → List ℕ → List ℕ → Type 0
Leaves (errors.Memory a) old new = Unit {0}
Leaves errors.Depth old new = new ≡ old
Leaves errors.Size old new = new ≡ old
Leaves errors.Decode old new = ⊥
Leaves errors.Short old new = ⊥

-- an error of a writer
abbrev pub IsOfWriting : ValueError → Type 0
IsOfWriting (errors.Memory a) = Unit {0}
IsOfWriting errors.Depth = Unit {0}
IsOfWriting errors.Size = Unit {0}
IsOfWriting errors.Decode = ⊥
IsOfWriting errors.Short = ⊥

-- The one spelling of the value stands at the end; else the value is nested too deep, or a length has no room, and nothing was
-- added, unless memory ran out.
abbrev pub Writes : Result (Unit {0}) ValueError → List ℕ → List ℕ → Amqp → ℕ → Type 0
Writes (Ok x) old new v levels = Wrote old new v × IsSized v × (depth v ≤ levels)
Writes (Err (errors.Memory a)) old new v levels = Unit {0}
Writes (Err errors.Depth) old new v levels = (new ≡ old) × (levels < depth v)
Writes (Err errors.Size) old new v levels = (new ≡ old) × (depth v ≤ levels) × (IsSized v → ⊥)
Writes (Err errors.Decode) old new v levels = ⊥
Writes (Err errors.Short) old new v levels = ⊥

-- Which bytes spell a value (OASIS AMQP 1.0, part 1, sections 1.2 and 1.6): a line for each row of the table of constructors.
use Rattle.std.specs.Prelude.{◌≡◌, ℕ, ℤ, ◌*◌, ◌<◌, ◌^◌, List, [], ◌∷◌, ◌++◌, length, true, false, All, IsUtf8, Some, FitsSigned}
use Rattle.std.specs.Char.{IsScalar}
use Rattle.std.specs.Int.{w8, w16, w32, w64, to_be_bytes, cast_unsigned}
use Rattle.amqp_data.specs.declared.kind.ElementKind.{ElementKind}
use Rattle.amqp_data.specs.Data.{Scalar, null, boolean, ubyte, ushort, uint, ulong, byte, short, int, long, char, timestamp, uuid, binary, string, symbol, Amqp, Items, Pairs, scalar, list, dict, array, described, no_items, item, no_pairs, pair, count, pair_count, HasDistinctKeys}
use Rattle.amqp_value.specs.declared.code.SizeWidth.{SizeWidth}
use Rattle.amqp_value.specs.declared.code.ScalarCode.{ScalarCode}
use Rattle.amqp_value.specs.declared.code.ScalarCode.TheVariants as c
use Rattle.amqp_value.specs.Code.{limit, block, content, scalar_number, list_number, map_number, array_number, code_kind}

-- each byte is below 0x80 (section 1.6.21)
abbrev pub IsAscii : List ℕ → Type 0
IsAscii s = All (λ b. b < 128) s

-- the bytes behind its constructor that spell a scalar (sections 1.6.1 to 1.6.21)
pub data Lays : ScalarCode → List ℕ → Scalar → Type 0 where
  null' : Lays c.Null [] null
  true' : Lays c.True [] (boolean true)
  false' : Lays c.False [] (boolean false)
  boolean_true : Lays c.Boolean (1 ∷ []) (boolean true)
  boolean_false : Lays c.Boolean (0 ∷ []) (boolean false)
  ubyte' : (n : ℕ) → n < 256 → Lays c.Ubyte (n ∷ []) (ubyte n)
  ushort' : (n : ℕ) → n < 2 ^ 16 → Lays c.Ushort (to_be_bytes w16 n) (ushort n)
  uint0 : Lays c.Uint0 [] (uint 0)
  small_uint : (n : ℕ) → n < 256 → Lays c.SmallUint (n ∷ []) (uint n)
  uint' : (n : ℕ) → n < 2 ^ 32 → Lays c.Uint (to_be_bytes w32 n) (uint n)
  ulong0 : Lays c.Ulong0 [] (ulong 0)
  small_ulong : (n : ℕ) → n < 256 → Lays c.SmallUlong (n ∷ []) (ulong n)
  ulong' : (n : ℕ) → n < 2 ^ 64 → Lays c.Ulong (to_be_bytes w64 n) (ulong n)
  byte' : (n : ℤ) → FitsSigned w8 n → Lays c.Byte (cast_unsigned w8 n ∷ []) (byte n)
  short' : (n : ℤ) → FitsSigned w16 n → Lays c.Short (to_be_bytes w16 (cast_unsigned w16 n)) (short n)
  small_int : (n : ℤ) → FitsSigned w8 n → Lays c.SmallInt (cast_unsigned w8 n ∷ []) (int n)
  int' : (n : ℤ) → FitsSigned w32 n → Lays c.Int (to_be_bytes w32 (cast_unsigned w32 n)) (int n)
  small_long : (n : ℤ) → FitsSigned w8 n → Lays c.SmallLong (cast_unsigned w8 n ∷ []) (long n)
  long' : (n : ℤ) → FitsSigned w64 n → Lays c.Long (to_be_bytes w64 (cast_unsigned w64 n)) (long n)
  char' : (n : ℕ) → IsScalar n → Lays c.Char (to_be_bytes w32 n) (char n)
  timestamp' : (n : ℤ) → FitsSigned w64 n → Lays c.Timestamp (to_be_bytes w64 (cast_unsigned w64 n)) (timestamp n)
  uuid' : (u : List ℕ) → length u ≡ 16 → Lays c.Uuid u (uuid u)
  binary' : (w : SizeWidth) (s : List ℕ) → length s < limit w → Lays (c.Binary w) (block w s) (binary s)
  string' : (w : SizeWidth) (s : List ℕ) → IsUtf8 s → length s < limit w → Lays (c.String w) (block w s) (string s)
  symbol' : (w : SizeWidth) (s : List ℕ) → IsAscii s → length s < limit w → Lays (c.Symbol w) (block w s) (symbol s)

-- elements one after another, without their constructor (section 1.2.4)
pub data LaysAll : ScalarCode → List ℕ → Items → Type 0 where
  no_elements : (c : ScalarCode) → LaysAll c [] no_items
  more_elements : (c : ScalarCode) (s : Scalar) (vs : Items) (first rest : List ℕ) → Lays c first s → LaysAll c rest vs → LaysAll c (first ++ rest) (item (scalar s) vs)

mutual
  -- a constructor and what it says (section 1.2)
  pub data Spells : List ℕ → Amqp → Type 0 where
    scalar' : (c : ScalarCode) (text : List ℕ) (s : Scalar) → Lays c text s → Spells (scalar_number c ∷ text) (scalar s)
    empty_list : Spells (0x45 ∷ []) (list no_items)
    list' : (w : SizeWidth) (vs : Items) (items : List ℕ) → SpellAll items vs → count vs < limit w → length (content w (count vs) items) < limit w → Spells (list_number w ∷ block w (content w (count vs) items)) (list vs)
    map' : (w : SizeWidth) (ps : Pairs) (items : List ℕ) → SpellPairs items ps → HasDistinctKeys ps → 2 * pair_count ps < limit w → length (content w (2 * pair_count ps) items) < limit w
        → Spells (map_number w ∷ block w (content w (2 * pair_count ps) items)) (dict ps)
    array' : (w : SizeWidth) (k : ElementKind) (c : ScalarCode) (vs : Items) (elements : List ℕ) → code_kind c ≡ Some k → LaysAll c elements vs → count vs < limit w → length (content w (count vs) (scalar_number c ∷ elements)) < limit w
        → Spells (array_number w ∷ block w (content w (count vs) (scalar_number c ∷ elements))) (array k vs)
    described' : (d v : Amqp) (first rest : List ℕ) → Spells first d → Spells rest v → Spells (0 ∷ (first ++ rest)) (described d v)

  -- values one after another (section 1.6.22)
  pub data SpellAll : List ℕ → Items → Type 0 where
    no_values : SpellAll [] no_items
    more_values : (v : Amqp) (vs : Items) (first rest : List ℕ) → Spells first v → SpellAll rest vs → SpellAll (first ++ rest) (item v vs)

  -- keys and values in turn (section 1.6.23)
  pub data SpellPairs : List ℕ → Pairs → Type 0 where
    no_keys : SpellPairs [] no_pairs
    more_keys : (k v : Amqp) (ps : Pairs) (first second rest : List ℕ) → Spells first k → Spells second v → SpellPairs rest ps → SpellPairs (first ++ (second ++ rest)) (pair k v ps)

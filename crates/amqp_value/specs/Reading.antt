-- Reading from left to right.
use Rattle.std.specs.Prelude.{◌≡◌, ℕ, zero, suc, ◌/◌, ◌%◌, List, [], ◌∷◌, length, take, drop, Option, Some, None, Result, Ok, Err, Bool, true, false, nat_lt, ◌==◌, if◌then◌else◌}
use Rattle.std.specs.Str.{is_utf8}
use Rattle.std.specs.List.{list_all}
use lib.Utf8.{scalar as is_scalar}
use Rattle.std.specs.Int.{Width, w8, w16, w32, w64, byte_len, from_be_bytes, cast_signed}
use Rattle.amqp_data.specs.declared.kind.ElementKind.{ElementKind}
use Rattle.amqp_data.specs.Data.{Scalar, null, boolean, ubyte, ushort, uint, ulong, byte, short, int, long, char, timestamp, uuid, binary, string, symbol, Amqp, Items, Pairs, scalar, list, dict, array, described, no_items, item, no_pairs, pair}
use Rattle.amqp_data.specs.Same.{distinct_keys}
use Rattle.amqp_value.specs.declared.error.ValueError.{ValueError}
use Rattle.amqp_value.specs.declared.error.ValueError.TheVariants as errors
use Rattle.amqp_value.specs.declared.code.SizeWidth.{SizeWidth}
use Rattle.amqp_value.specs.declared.code.SizeWidth.TheVariants.{One, Four}
use Rattle.amqp_value.specs.declared.code.ScalarCode.{ScalarCode}
use Rattle.amqp_value.specs.declared.code.ScalarCode.TheVariants as c
use Rattle.amqp_value.specs.declared.code.Code.{Code}
use Rattle.amqp_value.specs.declared.code.Code.TheVariants as code
use Rattle.amqp_value.specs.Code.{find_code, find_scalar, code_kind}

infixl 10 ◌>>=◌
abbrev pub ◌>>=◌ : {A B : Type 0} → Option A → (A → Option B) → Option B
(Some x) >>= f = f x
None >>= f = None

-- a value at the front, and the bytes after it
abbrev pub Parse : Type 0 → Type 0
Parse A = List ℕ → Option (A × List ℕ)

-- an error is of memory, or there is nothing to read
abbrev pub Fails : {Y : Type 0} → ValueError → Option Y → Type 0
Fails (errors.Memory a) read = Unit {0}
Fails errors.Decode read = read ≡ None
Fails errors.Depth read = ⊥
Fails errors.Size read = ⊥
Fails errors.Short read = ⊥

-- what was returned, seen by view, is what is read, unless memory ran out
abbrev pub Gives : {X Y : Type 0} → (X → Y) → Result X ValueError → Option Y → Type 0
Gives view (Ok x) read = read ≡ Some (view x)
Gives view (Err e) read = Fails e read

-- ---- numbers and blocks

abbrev pub byte_at : Parse ℕ
byte_at [] = None
byte_at (b ∷ bytes) = Some (b, bytes)

abbrev pub number_at : Width → Parse ℕ
number_at w bytes = if nat_lt (length bytes) (byte_len w) then None else Some (from_be_bytes w (take (byte_len w) bytes), drop (byte_len w) bytes)

abbrev pub bytes_at : ℕ → Parse (List ℕ)
bytes_at n bytes = if nat_lt (length bytes) n then None else Some (take n bytes, drop n bytes)

-- a size or a count
unfoldable pub size_at : SizeWidth → Parse ℕ
size_at One bytes = byte_at bytes
size_at Four bytes = number_at w32 bytes

-- bytes behind their number
unfoldable pub block_at : SizeWidth → Parse (List ℕ)
block_at w bytes = do
  n ← size_at w bytes
  bytes_at n.0 n.1

-- ---- scalars

abbrev pub is_ascii : List ℕ → Bool
is_ascii s = list_all (λ b. nat_lt b 128) s

abbrev pub utf8 : List ℕ → Option (List ℕ)
utf8 s = if is_utf8 s then Some s else None

abbrev pub ascii : List ℕ → Option (List ℕ)
ascii s = if is_ascii s then Some s else None

abbrev pub truth : ℕ → Option Bool
truth n = if n == 0 then Some false else if n == 1 then Some true else None

abbrev pub character : ℕ → Option ℕ
character n = if is_scalar n then Some n else None

-- what stands at the front, kept
abbrev pub kept : {A B : Type 0} → (A → B) → Option (A × List ℕ) → Option (B × List ℕ)
kept made read = read >>= λ x. Some (made x.0, x.1)

-- what stands at the front, where the test passes
abbrev pub tested : {A B : Type 0} → (A → Option B) → Option (A × List ℕ) → Option (B × List ℕ)
tested test read = read >>= λ x. test x.0 >>= λ y. Some (y, x.1)

unfoldable pub text_at : SizeWidth → Parse (List ℕ)
text_at w bytes = tested utf8 (block_at w bytes)

unfoldable pub symbol_at : SizeWidth → Parse (List ℕ)
symbol_at w bytes = tested ascii (block_at w bytes)

-- what follows a scalar's constructor
unfoldable pub scalar_at : ScalarCode → Parse Scalar
scalar_at c.Null bytes = Some (null, bytes)
scalar_at c.True bytes = Some (boolean true, bytes)
scalar_at c.False bytes = Some (boolean false, bytes)
scalar_at c.Boolean bytes = kept boolean (tested truth (byte_at bytes))
scalar_at c.Ubyte bytes = kept ubyte (byte_at bytes)
scalar_at c.Ushort bytes = kept ushort (number_at w16 bytes)
scalar_at c.Uint0 bytes = Some (uint 0, bytes)
scalar_at c.SmallUint bytes = kept uint (byte_at bytes)
scalar_at c.Uint bytes = kept uint (number_at w32 bytes)
scalar_at c.Ulong0 bytes = Some (ulong 0, bytes)
scalar_at c.SmallUlong bytes = kept ulong (byte_at bytes)
scalar_at c.Ulong bytes = kept ulong (number_at w64 bytes)
scalar_at c.Byte bytes = kept (λ n. byte (cast_signed w8 n)) (byte_at bytes)
scalar_at c.Short bytes = kept (λ n. short (cast_signed w16 n)) (number_at w16 bytes)
scalar_at c.SmallInt bytes = kept (λ n. int (cast_signed w8 n)) (byte_at bytes)
scalar_at c.Int bytes = kept (λ n. int (cast_signed w32 n)) (number_at w32 bytes)
scalar_at c.SmallLong bytes = kept (λ n. long (cast_signed w8 n)) (byte_at bytes)
scalar_at c.Long bytes = kept (λ n. long (cast_signed w64 n)) (number_at w64 bytes)
scalar_at c.Char bytes = kept char (tested character (number_at w32 bytes))
scalar_at c.Timestamp bytes = kept (λ n. timestamp (cast_signed w64 n)) (number_at w64 bytes)
scalar_at c.Uuid bytes = kept uuid (bytes_at 16 bytes)
scalar_at (c.Binary w) bytes = kept binary (block_at w bytes)
scalar_at (c.String w) bytes = kept string (text_at w bytes)
scalar_at (c.Symbol w) bytes = kept symbol (symbol_at w bytes)

-- ---- compounds

unfoldable pub items_at : Parse Amqp → ℕ → Parse Items
items_at inner zero bytes = Some (no_items, bytes)
items_at inner (suc n) bytes = do
  v ← inner bytes
  vs ← items_at inner n v.1
  Some (item v.0 vs.0, vs.1)

unfoldable pub pairs_at : Parse Amqp → ℕ → Parse Pairs
pairs_at inner zero bytes = Some (no_pairs, bytes)
pairs_at inner (suc n) bytes = do
  k ← inner bytes
  v ← inner k.1
  ps ← pairs_at inner n v.1
  Some (pair k.0 v.0 ps.0, ps.1)

-- nothing is left
abbrev pub only : {A : Type 0} → A × List ℕ → Option A
only x = if length x.1 == 0 then Some x.0 else None

-- a count, and that many values, which fill the bytes
unfoldable pub values_in : Parse Amqp → SizeWidth → List ℕ → Option Items
values_in inner w bytes = do
  n ← size_at w bytes
  vs ← items_at inner n.0 n.1
  only vs

unfoldable pub list_at : Parse Amqp → SizeWidth → Parse Amqp
list_at inner w bytes = do
  s ← block_at w bytes
  vs ← values_in inner w s.0
  Some (list vs, s.1)

abbrev pub half : ℕ → Option ℕ
half n = if n % 2 == 0 then Some (n / 2) else None

-- a count of keys and values, and that many of them, which fill the bytes
unfoldable pub pairs_in : Parse Amqp → SizeWidth → List ℕ → Option Pairs
pairs_in inner w bytes = do
  n ← size_at w bytes
  m ← half n.0
  ps ← pairs_at inner m n.1
  only ps

abbrev pub distinct : Pairs → Option Pairs
distinct ps = if distinct_keys ps then Some ps else None

unfoldable pub map_at : Parse Amqp → SizeWidth → Parse Amqp
map_at inner w bytes = do
  s ← block_at w bytes
  ps ← pairs_in inner w s.0
  qs ← distinct ps
  Some (dict qs, s.1)

-- an element nested no deeper than the number
unfoldable pub element_at : ScalarCode → ℕ → Parse Amqp
element_at c zero bytes = None
element_at c (suc d) bytes = kept scalar (scalar_at c bytes)

-- the constructor of an array's elements, and their kind
unfoldable pub constructor_at : Parse (ScalarCode × ElementKind)
constructor_at bytes = do
  b ← byte_at bytes
  c ← find_scalar b.0
  k ← code_kind c
  Some ((c, k), b.1)

-- a count, a constructor and the elements, which fill the bytes
unfoldable pub elements_in : ℕ → SizeWidth → List ℕ → Option Amqp
elements_in d w bytes = do
  n ← size_at w bytes
  c ← constructor_at n.1
  vs ← items_at (element_at c.0.0 d) n.0 c.1
  es ← only vs
  Some (array c.0.1 es)

unfoldable pub array_at : ℕ → SizeWidth → Parse Amqp
array_at d w bytes = do
  s ← block_at w bytes
  a ← elements_in d w s.0
  Some (a, s.1)

unfoldable pub described_at : Parse Amqp → Parse Amqp
described_at inner bytes = do
  d ← inner bytes
  v ← inner d.1
  Some (described d.0 v.0, v.1)

unfoldable pub code_at : Parse Code
code_at bytes = do
  b ← byte_at bytes
  c ← find_code b.0
  Some (c, b.1)

-- what follows a constructor; the parts are read by inner, and nested no deeper than the number
unfoldable pub body_at : Parse Amqp → ℕ → Code → Parse Amqp
body_at inner d code.Described bytes = described_at inner bytes
body_at inner d code.EmptyList bytes = Some (list no_items, bytes)
body_at inner d (code.List w) bytes = list_at inner w bytes
body_at inner d (code.Map w) bytes = map_at inner w bytes
body_at inner d (code.Array w) bytes = array_at d w bytes
body_at inner d (code.Scalar c) bytes = kept scalar (scalar_at c bytes)

-- a value that is nested no deeper than the number
unfoldable pub value_at : ℕ → Parse Amqp
value_at zero bytes = None
value_at (suc d) bytes = do
  c ← code_at bytes
  body_at (value_at d) d c.0 c.1

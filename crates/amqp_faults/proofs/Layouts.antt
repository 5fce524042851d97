-- Values that hold no other: what is read of them takes the bytes of their layout.
use Rattle.std.proofs.Common.{◌≡◌, ℕ, zero, suc, ◌<◌, ◌≤◌, Bool, true, false, cond, eqb, ltb, List, [], ◌∷◌, length, get_or, take, drop, Option, Some, None, refl, sym, ap, ◌∙◌, arith}
use Rattle.std.proofs.lemmas.Bool.{le-ltb, ne_eqb}
use Rattle.std.specs.Int.{Width, w8, w16, w32, w64, byte_len, from_be_bytes, cast_signed}
use Rattle.std.specs.Str.{is_utf8}
use lib.Utf8.{scalar as is_scalar}
use Rattle.amqp_data.specs.declared.kind.ElementKind.{ElementKind}
use Rattle.amqp_data.specs.declared.kind.ElementKind.TheVariants as k
use Rattle.amqp_data.specs.Data.{Scalar, boolean, ubyte, ushort, uint, ulong, byte, short, int, long, char, timestamp, uuid, binary, string, symbol, scalar}
use Rattle.amqp_value.specs.declared.code.SizeWidth.{SizeWidth}
use Rattle.amqp_value.specs.declared.code.SizeWidth.TheVariants.{One, Four}
use Rattle.amqp_value.specs.declared.code.ScalarCode.{ScalarCode}
use Rattle.amqp_value.specs.declared.code.ScalarCode.TheVariants as c
use Rattle.amqp_value.specs.Code.{code_kind}
use Rattle.amqp_value.specs.Reading.{◌>>=◌, byte_at, number_at, bytes_at, block_at, text_at, symbol_at, kept, tested, truth, character, utf8, ascii, is_ascii, scalar_at, element_at}
use Rattle.amqp_faults.specs.declared.form.Layout.{Layout}
use Rattle.amqp_faults.specs.declared.form.Layout.TheVariants as l
use Rattle.amqp_faults.specs.Forms.{layout_of, size_width, width_of, wide}
use Rattle.amqp_faults.specs.Faults.{laid_at, is_like, passed, past, element_past}

-- the bytes after those that were taken
abbrev rest_of : Option (List ℕ × List ℕ) → Option (List ℕ)
rest_of r = r >>= λ x. Some x.1

kept_past : {A B : Type 0} (r : Option (A × List ℕ)) (made : A → B) → past (kept made r) ≡ past r
kept_past (Some x) made = refl
kept_past None made = refl

taken_past : {A : Type 0} (b : Bool) (x : A) (s rest : List ℕ) → past (cond b None (Some (x, rest))) ≡ rest_of (cond b None (Some (s, rest)))
taken_past true x s rest = refl
taken_past false x s rest = refl

number_past : {A : Type 0} (w : Width) (made : ℕ → A) (bytes : List ℕ) → past (kept made (number_at w bytes)) ≡ rest_of (bytes_at (byte_len w) bytes)
number_past w made bytes =
    kept_past (number_at w bytes) made ∙ taken_past (ltb (length bytes) (byte_len w)) (from_be_bytes w (take (byte_len w) bytes)) (take (byte_len w) bytes) (drop (byte_len w) bytes)

block_past : {A : Type 0} (r : Option (List ℕ × List ℕ)) (made : List ℕ → A) → past (kept made r) ≡ rest_of r
block_past (Some x) made = refl
block_past None made = refl

nothing_past : (bytes : List ℕ) → Some bytes ≡ rest_of (bytes_at 0 bytes)
nothing_past bytes = let none : ltb (length bytes) 0 ≡ false = le-ltb _ _ (omega arith) in rw none refl

byte_past : {A : Type 0} (made : ℕ → A) (bytes : List ℕ) → past (kept made (byte_at bytes)) ≡ rest_of (bytes_at 1 bytes)
byte_past made [] = refl
byte_past made (b ∷ bytes) = let one : ltb (suc (length bytes)) 1 ≡ false = le-ltb _ _ (omega arith) in rw one refl

truth_past : (b : ℕ) (rest : List ℕ) → past (kept boolean (truth b >>= λ y. Some (y, rest))) ≡ cond (ltb b 2) (Some rest) None
truth_past zero rest = refl
truth_past (suc zero) rest = refl
truth_past (suc (suc n)) rest =
    let more : ltb (suc (suc n)) 2 ≡ false = le-ltb _ _ (omega arith) in
    let some : eqb (suc (suc n)) 0 ≡ false = ne_eqb _ _ (omega arith) in
    let many : eqb (suc (suc n)) 1 ≡ false = ne_eqb _ _ (omega arith) in
    rw (more, some, many) refl

boolean_past : (bytes : List ℕ) → past (kept boolean (tested truth (byte_at bytes))) ≡ passed l.Boolean bytes
boolean_past [] = refl
boolean_past (b ∷ bytes) = let one : ltb (suc (length bytes)) 1 ≡ false = le-ltb _ _ (omega arith) in rw one (truth_past b bytes)

tested_past : {A B : Type 0} (b : Bool) (made : A → B) (x : A) (rest : List ℕ) → past (kept made (cond b (Some x) None >>= λ y. Some (y, rest))) ≡ cond b (Some rest) None
tested_past true made x rest = refl
tested_past false made x rest = refl

-- a number and the bytes after it, unless there are too few
abbrev number_of : Bool → ℕ → List ℕ → Option (ℕ × List ℕ)
number_of b n rest = cond b None (Some (n, rest))

abbrev bytes_of : Bool → List ℕ → List ℕ → Option (List ℕ × List ℕ)
bytes_of b s rest = cond b None (Some (s, rest))

-- the bytes after those that pass a test
abbrev rest_if : (List ℕ → Bool) → List ℕ × List ℕ → Option (List ℕ)
rest_if test x = cond (test x.0) (Some x.1) None

character_past : (b : Bool) (s rest : List ℕ) → past (kept char (tested character (number_of b (from_be_bytes w32 s) rest))) ≡ (bytes_of b s rest >>= rest_if (λ z. is_scalar (from_be_bytes w32 z)))
character_past true s rest = refl
character_past false s rest = tested_past (is_scalar (from_be_bytes w32 s)) char (from_be_bytes w32 s) rest

text_past : (r : Option (List ℕ × List ℕ)) → past (kept string (tested utf8 r)) ≡ (r >>= rest_if is_utf8)
text_past None = refl
text_past (Some x) = tested_past (is_utf8 x.0) string x.0 x.1

symbol_past : (r : Option (List ℕ × List ℕ)) → past (kept symbol (tested ascii r)) ≡ (r >>= rest_if is_ascii)
symbol_past None = refl
symbol_past (Some x) = tested_past (is_ascii x.0) symbol x.0 x.1

-- what is read behind a scalar's constructor takes the bytes that its layout takes
pub scalar_past : (code : ScalarCode) (bytes : List ℕ) → past (scalar_at code bytes) ≡ passed (layout_of code) bytes
unfolding scalar_at text_at symbol_at
scalar_past c.Null bytes = nothing_past bytes
scalar_past c.True bytes = nothing_past bytes
scalar_past c.False bytes = nothing_past bytes
scalar_past c.Boolean bytes = boolean_past bytes
scalar_past c.Ubyte bytes = byte_past ubyte bytes
scalar_past c.Ushort bytes = number_past w16 ushort bytes
scalar_past c.Uint0 bytes = nothing_past bytes
scalar_past c.SmallUint bytes = byte_past uint bytes
scalar_past c.Uint bytes = number_past w32 uint bytes
scalar_past c.Ulong0 bytes = nothing_past bytes
scalar_past c.SmallUlong bytes = byte_past ulong bytes
scalar_past c.Ulong bytes = number_past w64 ulong bytes
scalar_past c.Byte bytes = byte_past (λ n. byte (cast_signed w8 n)) bytes
scalar_past c.Short bytes = number_past w16 (λ n. short (cast_signed w16 n)) bytes
scalar_past c.SmallInt bytes = byte_past (λ n. int (cast_signed w8 n)) bytes
scalar_past c.Int bytes = number_past w32 (λ n. int (cast_signed w32 n)) bytes
scalar_past c.SmallLong bytes = byte_past (λ n. long (cast_signed w8 n)) bytes
scalar_past c.Long bytes = number_past w64 (λ n. long (cast_signed w64 n)) bytes
scalar_past c.Char bytes = character_past (ltb (length bytes) 4) (take 4 bytes) (drop 4 bytes)
scalar_past c.Timestamp bytes = number_past w64 (λ n. timestamp (cast_signed w64 n)) bytes
scalar_past c.Uuid bytes = block_past (bytes_at 16 bytes) uuid
scalar_past (c.Binary One) bytes = block_past (block_at One bytes) binary
scalar_past (c.Binary Four) bytes = block_past (block_at Four bytes) binary
scalar_past (c.String One) bytes = text_past (block_at One bytes)
scalar_past (c.String Four) bytes = text_past (block_at Four bytes)
scalar_past (c.Symbol One) bytes = symbol_past (block_at One bytes)
scalar_past (c.Symbol Four) bytes = symbol_past (block_at Four bytes)

pub element_is_past : (code : ScalarCode) (d : ℕ) (bytes : List ℕ) → past (element_at code d bytes) ≡ element_past d (layout_of code) bytes
unfolding element_at
element_is_past code zero bytes = refl
element_is_past code (suc d) bytes = kept_past (scalar_at code bytes) scalar ∙ scalar_past code bytes

-- an element of that layout has a kind
pub record OfKind (code : ScalarCode) (layout : Layout) : Type 0 where
  pub kind : ElementKind
  pub kinded : code_kind code ≡ Some kind
  pub laid : layout_of code ≡ layout

of_kind : (code : ScalarCode) (layout : Layout) (kind : ElementKind) → code_kind code ≡ Some kind → Some (layout_of code) ≡ Some layout → OfKind code layout
of_kind code layout kind e f = record { kind = kind; kinded = e; laid = cc }

pub kind_of_wide : (code : ScalarCode) (layout : Layout) → wide (layout_of code) ≡ Some layout → OfKind code layout
kind_of_wide c.Null layout e = absurd cc
kind_of_wide c.True layout e = absurd cc
kind_of_wide c.False layout e = absurd cc
kind_of_wide c.Boolean layout e = of_kind c.Boolean layout k.Bool refl e
kind_of_wide c.Ubyte layout e = of_kind c.Ubyte layout k.Ubyte refl e
kind_of_wide c.Ushort layout e = of_kind c.Ushort layout k.Ushort refl e
kind_of_wide c.Uint0 layout e = absurd cc
kind_of_wide c.SmallUint layout e = of_kind c.SmallUint layout k.Uint refl e
kind_of_wide c.Uint layout e = of_kind c.Uint layout k.Uint refl e
kind_of_wide c.Ulong0 layout e = absurd cc
kind_of_wide c.SmallUlong layout e = of_kind c.SmallUlong layout k.Ulong refl e
kind_of_wide c.Ulong layout e = of_kind c.Ulong layout k.Ulong refl e
kind_of_wide c.Byte layout e = of_kind c.Byte layout k.Byte refl e
kind_of_wide c.Short layout e = of_kind c.Short layout k.Short refl e
kind_of_wide c.SmallInt layout e = of_kind c.SmallInt layout k.Int refl e
kind_of_wide c.Int layout e = of_kind c.Int layout k.Int refl e
kind_of_wide c.SmallLong layout e = of_kind c.SmallLong layout k.Long refl e
kind_of_wide c.Long layout e = of_kind c.Long layout k.Long refl e
kind_of_wide c.Char layout e = of_kind c.Char layout k.Char refl e
kind_of_wide c.Timestamp layout e = of_kind c.Timestamp layout k.Timestamp refl e
kind_of_wide c.Uuid layout e = of_kind c.Uuid layout k.Uuid refl e
kind_of_wide (c.Binary w) layout e = of_kind (c.Binary w) layout k.Binary refl e
kind_of_wide (c.String w) layout e = of_kind (c.String w) layout k.String refl e
kind_of_wide (c.Symbol w) layout e = of_kind (c.Symbol w) layout k.Symbol refl e

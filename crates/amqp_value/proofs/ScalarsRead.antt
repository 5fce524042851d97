-- What follows a scalar's constructor: what is read is laid so, and what is laid so is read.
use Rattle.std.proofs.Common.{◌≡◌, ℕ, ℤ, ◌^◌, ◌<◌, Bool, true, false, cond, eqb, List, [], ◌∷◌, ◌++◌, length, Option, Some, None, refl, sym, ap, ap₂, subst, ◌⊎◌, inl, inr, ◌∙◌}
use Rattle.std.specs.Prelude.{FitsSigned}
use Rattle.std.specs.Str.{is_utf8}
use Rattle.std.specs.Int.{Width, w8, w16, w32, w64, to_be_bytes, cast_signed, cast_unsigned}
use mir.Val.{bits}
use lib.Utf8.{scalar as is_scalar, scalar_fits}
use Rattle.std.proofs.Math.Facts.{sfits_to_z, Fits-of_z}
use Rattle.std.proofs.lemmas.Bool.{eqb-true}
use Rattle.std.proofs.lemmas.Int.{of_z-to_z, to_z-of_z}
use Rattle.std.proofs.lemmas.Option.{cond_some, none-some}
use Rattle.std.proofs.lemmas.Str.{IsUtf8-from_is_utf8, is_utf8-from_IsUtf8}
use Rattle.amqp_data.specs.declared.kind.ElementKind.{ElementKind}
use Rattle.amqp_data.specs.Data.{Scalar, null, boolean, ubyte, ushort, uint, ulong, byte, short, int, long, char, timestamp, uuid, binary, string, symbol, kind_of}
use Rattle.amqp_value.specs.declared.code.SizeWidth.{SizeWidth}
use Rattle.amqp_value.specs.declared.code.ScalarCode.{ScalarCode}
use Rattle.amqp_value.specs.declared.code.ScalarCode.TheVariants as c
use Rattle.amqp_value.specs.Code.{limit, block, code_kind}
use Rattle.amqp_value.specs.Grammar.{Lays, null', true', false', boolean_true, boolean_false, ubyte', ushort', uint0, small_uint, uint', ulong0, small_ulong, ulong', byte', short', small_int, int', small_long, long', char', timestamp', uuid', binary', string', symbol'}
use Rattle.amqp_value.specs.Reading.{◌>>=◌, byte_at, number_at, bytes_at, block_at, is_ascii, ascii, utf8, truth, character, kept, tested, text_at, symbol_at, scalar_at}
use Rattle.amqp_value.proofs.Numbers.{IsBytes, bind_some, some_is, Takes, byte_takes, bytes_takes, bytes_again, IsWide, wide16, wide32, wide64, number_takes, number_again, block_takes, block_again}
use Rattle.amqp_value.proofs.Ascii.{IsAscii-from_is_ascii, is_ascii-from_IsAscii}

-- what was taken spells the scalar
pub record TookScalar (c : ScalarCode) (bytes : List ℕ) (s : Scalar) (rest : List ℕ) : Type 0 where
  pub text : List ℕ
  pub parts : bytes ≡ text ++ rest
  pub spelled : Lays c text s
  pub rest_fits : IsBytes rest

abbrev Behind : ScalarCode → List ℕ → Scalar × List ℕ → Type 0
Behind c bytes x = TookScalar c bytes x.0 x.1

took : (c : ScalarCode) (bytes text : List ℕ) (s : Scalar) (rest : List ℕ) (x : Scalar × List ℕ) → Takes bytes text rest → Lays c text s → ◌≡◌ {A = Option (Scalar × List ℕ)} (Some (s, rest)) (Some x) → Behind c bytes x
took c bytes text s rest x t l e = subst (Behind c bytes) (some_is (s, rest) x e) (record { text = text; parts = t.parts; spelled = l; rest_fits = t.rest_fits })

plain : (c : ScalarCode) (bytes : List ℕ) (s : Scalar) (x : Scalar × List ℕ) → IsBytes bytes → Lays c [] s → ◌≡◌ {A = Option (Scalar × List ℕ)} (Some (s, bytes)) (Some x) → Behind c bytes x
plain c bytes s x fits l e = took c bytes [] s bytes x (record { parts = refl; rest_fits = fits }) l e

-- ---- numbers

byte_sound : (c : ScalarCode) (made : ℕ → Scalar) → ((n : ℕ) → n < 256 → Lays c (n ∷ []) (made n)) → (bytes : List ℕ) (x : Scalar × List ℕ) → IsBytes bytes → kept made (byte_at bytes) ≡ Some x → Behind c bytes x
byte_sound c made rule bytes x fits e =
    let a = bind_some (byte_at bytes) (λ n. Some (made n.0, n.1)) x e in
    let t = byte_takes bytes a.0.0 a.0.1 fits a.1 in
    took c bytes (a.0.0 ∷ []) (made a.0.0) a.0.1 x t.0 (rule a.0.0 t.1) a.2

number_sound : (c : ScalarCode) (made : ℕ → Scalar) (w : Width) (limit : ℕ) → IsWide w limit → ((n : ℕ) → n < limit → Lays c (to_be_bytes w n) (made n)) → (bytes : List ℕ) (x : Scalar × List ℕ) → IsBytes bytes → kept made (number_at w bytes) ≡ Some x → Behind c bytes x
number_sound c made w limit wide rule bytes x fits e =
    let a = bind_some (number_at w bytes) (λ n. Some (made n.0, n.1)) x e in
    let t = number_takes w limit wide bytes a.0.0 a.0.1 fits a.1 in
    took c bytes (to_be_bytes w a.0.0) (made a.0.0) a.0.1 x t.0 (rule a.0.0 t.1) a.2

fits_signed : (w : Width) (n : ℕ) → n < 2 ^ bits w → FitsSigned w (cast_signed w n)
fits_signed w n lt = sfits_to_z (record { fits = lt })

unsigned_fits : (w : Width) (n : ℤ) → FitsSigned w n → cast_unsigned w n < 2 ^ bits w
unsigned_fits w n f = (Fits-of_z f).fits

-- a rule on signed numbers, as one on the bits
by_bits : (c : ScalarCode) (made : ℤ → Scalar) (w : Width) (written : ℕ → List ℕ) → ((n : ℤ) → FitsSigned w n → Lays c (written (cast_unsigned w n)) (made n)) → (n : ℕ) → n < 2 ^ bits w → Lays c (written n) (made (cast_signed w n))
by_bits c made w written rule n lt = subst (λ (k : ℕ). Lays c (written k) (made (cast_signed w n))) (of_z-to_z w n lt) (rule (cast_signed w n) (fits_signed w n lt))

-- ---- what is tested

record Tested {A B : Type 0} (test : A → Option B) (r : Option (A × List ℕ)) (x : B × List ℕ) : Type 0 where
  found : A
  read : r ≡ Some (found, x.1)
  passed : test found ≡ Some x.0

tested_some : {A B : Type 0} (test : A → Option B) (r : Option (A × List ℕ)) (x : B × List ℕ) → tested test r ≡ Some x → Tested test r x
tested_some {A} {B} test r x e =
    let a = bind_some r (λ y. test y.0 >>= λ z. Some (z, y.1)) x e in
    let b = bind_some (test a.0.0) (λ z. Some (z, a.0.1)) x a.2 in
    subst (Tested test r) (some_is (b.0, a.0.1) x b.2) (record { found = a.0.0; read = a.1; passed = b.1 })

picked : {A : Type 0} (p q : Bool) (x y z : A) → cond p (Some x) (cond q (Some y) None) ≡ Some z → ((p ≡ true) × (x ≡ z)) ⊎ ((q ≡ true) × (y ≡ z))
picked true q x y z e = inl (refl, some_is x z e)
picked false true x y z e = inr (refl, some_is y z e)
picked false false x y z e = absurd (none-some z e)

truth_rule : (n : ℕ) (b : Bool) → truth n ≡ Some b → Lays c.Boolean (n ∷ []) (boolean b)
truth_rule n b e =
    elim (picked (eqb n 0) (eqb n 1) false true b e) [
      | inl h ↦ subst (λ (z : ℕ × Bool). Lays c.Boolean (z.0 ∷ []) (boolean z.1)) (ap₂ (λ (i : ℕ) (j : Bool). (i, j)) (sym (eqb-true n 0 h.0)) h.1) boolean_false
      | inr h ↦ subst (λ (z : ℕ × Bool). Lays c.Boolean (z.0 ∷ []) (boolean z.1)) (ap₂ (λ (i : ℕ) (j : Bool). (i, j)) (sym (eqb-true n 1 h.0)) h.1) boolean_true
    ]

boolean_sound : (bytes : List ℕ) (x : Scalar × List ℕ) → IsBytes bytes → kept boolean (tested truth (byte_at bytes)) ≡ Some x → Behind c.Boolean bytes x
boolean_sound bytes x fits e =
    let a = bind_some (tested truth (byte_at bytes)) (λ y. Some (boolean y.0, y.1)) x e in
    let b = tested_some truth (byte_at bytes) a.0 a.1 in
    let t = byte_takes bytes b.found a.0.1 fits b.read in
    took c.Boolean bytes (b.found ∷ []) (boolean a.0.0) a.0.1 x t.0 (truth_rule b.found a.0.0 b.passed) a.2

char_sound : (bytes : List ℕ) (x : Scalar × List ℕ) → IsBytes bytes → kept char (tested character (number_at w32 bytes)) ≡ Some x → Behind c.Char bytes x
char_sound bytes x fits e =
    let a = bind_some (tested character (number_at w32 bytes)) (λ y. Some (char y.0, y.1)) x e in
    let b = tested_some character (number_at w32 bytes) a.0 a.1 in
    let g = cond_some (is_scalar b.found) b.found a.0.0 b.passed in
    let t = number_takes w32 (2 ^ 32) wide32 bytes b.found a.0.1 fits b.read in
    took c.Char bytes (to_be_bytes w32 b.found) (char a.0.0) a.0.1 x t.0 (subst (λ (z : ℕ). Lays c.Char (to_be_bytes w32 b.found) (char z)) g.1 (char' b.found g.0)) a.2

-- ---- blocks

uuid_sound : (bytes : List ℕ) (x : Scalar × List ℕ) → IsBytes bytes → kept uuid (bytes_at 16 bytes) ≡ Some x → Behind c.Uuid bytes x
uuid_sound bytes x fits e =
    let a = bind_some (bytes_at 16 bytes) (λ y. Some (uuid y.0, y.1)) x e in
    let t = bytes_takes 16 bytes a.0.0 a.0.1 fits a.1 in
    took c.Uuid bytes a.0.0 (uuid a.0.0) a.0.1 x t.0 (uuid' a.0.0 t.1) a.2

binary_sound : (w : SizeWidth) (bytes : List ℕ) (x : Scalar × List ℕ) → IsBytes bytes → kept binary (block_at w bytes) ≡ Some x → Behind (c.Binary w) bytes x
binary_sound w bytes x fits e =
    let a = bind_some (block_at w bytes) (λ y. Some (binary y.0, y.1)) x e in
    let t = block_takes w bytes a.0 fits a.1 in
    took (c.Binary w) bytes (block w a.0.0) (binary a.0.0) a.0.1 x t.takes (binary' w a.0.0 t.short) a.2

string_sound : (w : SizeWidth) (bytes : List ℕ) (x : Scalar × List ℕ) → IsBytes bytes → kept string (text_at w bytes) ≡ Some x → Behind (c.String w) bytes x
unfolding text_at
string_sound w bytes x fits e =
    let a = bind_some (tested utf8 (block_at w bytes)) (λ y. Some (string y.0, y.1)) x e in
    let b = tested_some utf8 (block_at w bytes) a.0 a.1 in
    let g = cond_some (is_utf8 b.found) b.found a.0.0 b.passed in
    let t = block_takes w bytes (b.found, a.0.1) fits b.read in
    took (c.String w) bytes (block w b.found) (string a.0.0) a.0.1 x t.takes (subst (λ (z : List ℕ). Lays (c.String w) (block w b.found) (string z)) g.1 (string' w b.found (IsUtf8-from_is_utf8 b.found g.0) t.short)) a.2

symbol_sound : (w : SizeWidth) (bytes : List ℕ) (x : Scalar × List ℕ) → IsBytes bytes → kept symbol (symbol_at w bytes) ≡ Some x → Behind (c.Symbol w) bytes x
unfolding symbol_at
symbol_sound w bytes x fits e =
    let a = bind_some (tested ascii (block_at w bytes)) (λ y. Some (symbol y.0, y.1)) x e in
    let b = tested_some ascii (block_at w bytes) a.0 a.1 in
    let g = cond_some (is_ascii b.found) b.found a.0.0 b.passed in
    let t = block_takes w bytes (b.found, a.0.1) fits b.read in
    took (c.Symbol w) bytes (block w b.found) (symbol a.0.0) a.0.1 x t.takes (subst (λ (z : List ℕ). Lays (c.Symbol w) (block w b.found) (symbol z)) g.1 (symbol' w b.found (IsAscii-from_is_ascii b.found g.0) t.short)) a.2

-- ---- every scalar

abbrev one_byte : ℕ → List ℕ
one_byte n = n ∷ []

pub scalar_sound : (c : ScalarCode) (bytes : List ℕ) (x : Scalar × List ℕ) → IsBytes bytes → scalar_at c bytes ≡ Some x → TookScalar c bytes x.0 x.1
unfolding scalar_at
scalar_sound c.Null bytes x fits e = plain c.Null bytes null x fits null' e
scalar_sound c.True bytes x fits e = plain c.True bytes (boolean true) x fits true' e
scalar_sound c.False bytes x fits e = plain c.False bytes (boolean false) x fits false' e
scalar_sound c.Boolean bytes x fits e = boolean_sound bytes x fits e
scalar_sound c.Ubyte bytes x fits e = byte_sound c.Ubyte ubyte ubyte' bytes x fits e
scalar_sound c.Ushort bytes x fits e = number_sound c.Ushort ushort w16 (2 ^ 16) wide16 ushort' bytes x fits e
scalar_sound c.Uint0 bytes x fits e = plain c.Uint0 bytes (uint 0) x fits uint0 e
scalar_sound c.SmallUint bytes x fits e = byte_sound c.SmallUint uint small_uint bytes x fits e
scalar_sound c.Uint bytes x fits e = number_sound c.Uint uint w32 (2 ^ 32) wide32 uint' bytes x fits e
scalar_sound c.Ulong0 bytes x fits e = plain c.Ulong0 bytes (ulong 0) x fits ulong0 e
scalar_sound c.SmallUlong bytes x fits e = byte_sound c.SmallUlong ulong small_ulong bytes x fits e
scalar_sound c.Ulong bytes x fits e = number_sound c.Ulong ulong w64 (2 ^ 64) wide64 ulong' bytes x fits e
scalar_sound c.Byte bytes x fits e = byte_sound c.Byte (λ n. byte (cast_signed w8 n)) (by_bits c.Byte byte w8 one_byte byte') bytes x fits e
scalar_sound c.Short bytes x fits e = number_sound c.Short (λ n. short (cast_signed w16 n)) w16 (2 ^ 16) wide16 (by_bits c.Short short w16 (to_be_bytes w16) short') bytes x fits e
scalar_sound c.SmallInt bytes x fits e = byte_sound c.SmallInt (λ n. int (cast_signed w8 n)) (by_bits c.SmallInt int w8 one_byte small_int) bytes x fits e
scalar_sound c.Int bytes x fits e = number_sound c.Int (λ n. int (cast_signed w32 n)) w32 (2 ^ 32) wide32 (by_bits c.Int int w32 (to_be_bytes w32) int') bytes x fits e
scalar_sound c.SmallLong bytes x fits e = byte_sound c.SmallLong (λ n. long (cast_signed w8 n)) (by_bits c.SmallLong long w8 one_byte small_long) bytes x fits e
scalar_sound c.Long bytes x fits e = number_sound c.Long (λ n. long (cast_signed w64 n)) w64 (2 ^ 64) wide64 (by_bits c.Long long w64 (to_be_bytes w64) long') bytes x fits e
scalar_sound c.Char bytes x fits e = char_sound bytes x fits e
scalar_sound c.Timestamp bytes x fits e = number_sound c.Timestamp (λ n. timestamp (cast_signed w64 n)) w64 (2 ^ 64) wide64 (by_bits c.Timestamp timestamp w64 (to_be_bytes w64) timestamp') bytes x fits e
scalar_sound c.Uuid bytes x fits e = uuid_sound bytes x fits e
scalar_sound (c.Binary w) bytes x fits e = binary_sound w bytes x fits e
scalar_sound (c.String w) bytes x fits e = string_sound w bytes x fits e
scalar_sound (c.Symbol w) bytes x fits e = symbol_sound w bytes x fits e

sixteen : (u rest : List ℕ) → length u ≡ 16 → bytes_at 16 (u ++ rest) ≡ Some (u, rest)
sixteen u rest len = ap (λ (k : ℕ). bytes_at k (u ++ rest)) (sym len) ∙ bytes_again u rest

pub scalar_again : {c : ScalarCode} {text : List ℕ} {s : Scalar} (rest : List ℕ) → Lays c text s → scalar_at c (text ++ rest) ≡ Some (s, rest)
unfolding scalar_at text_at symbol_at
scalar_again rest null' = refl
scalar_again rest true' = refl
scalar_again rest false' = refl
scalar_again rest boolean_true = refl
scalar_again rest boolean_false = refl
scalar_again rest (ubyte' n lt) = refl
scalar_again rest (ushort' n lt) = rw (number_again w16 (2 ^ 16) wide16 n rest lt) refl
scalar_again rest uint0 = refl
scalar_again rest (small_uint n lt) = refl
scalar_again rest (uint' n lt) = rw (number_again w32 (2 ^ 32) wide32 n rest lt) refl
scalar_again rest ulong0 = refl
scalar_again rest (small_ulong n lt) = refl
scalar_again rest (ulong' n lt) = rw (number_again w64 (2 ^ 64) wide64 n rest lt) refl
scalar_again rest (byte' n f) = rw (to_z-of_z w8 n f) refl
scalar_again rest (short' n f) = rw (number_again w16 (2 ^ 16) wide16 (cast_unsigned w16 n) rest (unsigned_fits w16 n f), to_z-of_z w16 n f) refl
scalar_again rest (small_int n f) = rw (to_z-of_z w8 n f) refl
scalar_again rest (int' n f) = rw (number_again w32 (2 ^ 32) wide32 (cast_unsigned w32 n) rest (unsigned_fits w32 n f), to_z-of_z w32 n f) refl
scalar_again rest (small_long n f) = rw (to_z-of_z w8 n f) refl
scalar_again rest (long' n f) = rw (number_again w64 (2 ^ 64) wide64 (cast_unsigned w64 n) rest (unsigned_fits w64 n f), to_z-of_z w64 n f) refl
scalar_again rest (char' n ok) = rw (number_again w32 (2 ^ 32) wide32 n rest (scalar_fits n ok), ok) refl
scalar_again rest (timestamp' n f) = rw (number_again w64 (2 ^ 64) wide64 (cast_unsigned w64 n) rest (unsigned_fits w64 n f), to_z-of_z w64 n f) refl
scalar_again rest (uuid' u len) = rw (sixteen u rest len) refl
scalar_again rest (binary' w s lt) = rw (block_again w s rest lt) refl
scalar_again rest (string' w s u lt) = rw (block_again w s rest lt, is_utf8-from_IsUtf8 s u) refl
scalar_again rest (symbol' w s a lt) = rw (block_again w s rest lt, is_ascii-from_IsAscii s a) refl

-- what a constructor of elements is followed by is of its kind
pub lays_kind : {c : ScalarCode} {text : List ℕ} {s : Scalar} (k : ElementKind) → Lays c text s → code_kind c ≡ Some k → kind_of s ≡ Some k
lays_kind k null' e = absurd (none-some k e)
lays_kind k true' e = absurd (none-some k e)
lays_kind k false' e = absurd (none-some k e)
lays_kind k boolean_true e = e
lays_kind k boolean_false e = e
lays_kind k (ubyte' n lt) e = e
lays_kind k (ushort' n lt) e = e
lays_kind k uint0 e = absurd (none-some k e)
lays_kind k (small_uint n lt) e = e
lays_kind k (uint' n lt) e = e
lays_kind k ulong0 e = absurd (none-some k e)
lays_kind k (small_ulong n lt) e = e
lays_kind k (ulong' n lt) e = e
lays_kind k (byte' n f) e = e
lays_kind k (short' n f) e = e
lays_kind k (small_int n f) e = e
lays_kind k (int' n f) e = e
lays_kind k (small_long n f) e = e
lays_kind k (long' n f) e = e
lays_kind k (char' n ok) e = e
lays_kind k (timestamp' n f) e = e
lays_kind k (uuid' u len) e = e
lays_kind k (binary' w s lt) e = e
lays_kind k (string' w s u lt) e = e
lays_kind k (symbol' w s a lt) e = e

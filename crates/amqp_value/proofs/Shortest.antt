-- A scalar behind its first constructor.
use Rattle.std.proofs.Common.{◌≡◌, ℕ, ℤ, pos, negsuc, ◌<◌, ◌^◌, Bool, true, false, cond, eqb, ltb, leb, List, [], length, Result, Ok, Err, refl, sym, subst, arith}
use Rattle.std.specs.Prelude.{OnOk, FitsSigned}
use Rattle.std.specs.declared.alloc.AllocError.{AllocError}
use Rattle.std.specs.Int.{w8, w32, w64}
use Rattle.std.proofs.lemmas.Bool.{eqb-true, ltb-true, and_parts}
use Rattle.amqp_data.specs.Data.{Scalar, null, boolean, ubyte, ushort, uint, ulong, byte, short, int, long, char, timestamp, uuid, binary, string, symbol, scalar}
use Rattle.amqp_value.specs.declared.code.ScalarCode.TheVariants as c
use Rattle.amqp_value.specs.Grammar.{Lays, null', true', false', ubyte', ushort', uint0, small_uint, uint', ulong0, small_ulong, ulong', byte', short', small_int, int', small_long, long', char', timestamp', uuid', binary', string', symbol', scalar'}
use Rattle.amqp_value.specs.Canonical.{width_of, is_small, shortest, laid, canonical_scalar, canonical, IsScalarSized, IsSized}
use Rattle.amqp_value.specs.Writing.{IsInRange, Puts, Wrote, IsWritable}
use Rattle.amqp_value.proofs.Lengths.{width_fits}

uint_lays : (n : ℕ) (p q : Bool) → eqb n 0 ≡ p → ltb n 256 ≡ q → n < 2 ^ 32 → Lays (cond p c.Uint0 (cond q c.SmallUint c.Uint)) (laid (cond p c.Uint0 (cond q c.SmallUint c.Uint)) (uint n)) (uint n)
unfolding laid
uint_lays n true q e f lt = subst (λ (k : ℕ). Lays c.Uint0 [] (uint k)) (sym (eqb-true n 0 e)) uint0
uint_lays n false true e f lt = small_uint n (ltb-true n 256 f)
uint_lays n false false e f lt = uint' n lt

ulong_lays : (n : ℕ) (p q : Bool) → eqb n 0 ≡ p → ltb n 256 ≡ q → n < 2 ^ 64 → Lays (cond p c.Ulong0 (cond q c.SmallUlong c.Ulong)) (laid (cond p c.Ulong0 (cond q c.SmallUlong c.Ulong)) (ulong n)) (ulong n)
unfolding laid
ulong_lays n true q e f lt = subst (λ (k : ℕ). Lays c.Ulong0 [] (ulong k)) (sym (eqb-true n 0 e)) ulong0
ulong_lays n false true e f lt = small_ulong n (ltb-true n 256 f)
ulong_lays n false false e f lt = ulong' n lt

below : (m : ℕ) → leb m 127 ≡ true → m < 2 ^ 7
below m e = grind arith

small_fits : (n : ℤ) → is_small n ≡ true → FitsSigned w8 n
small_fits (pos m) e = record { sfits = below m e }
small_fits (negsuc m) e = record { sfits = below m (and_parts (leb m 127) true e).0 }

int_lays : (n : ℤ) (p : Bool) → is_small n ≡ p → FitsSigned w32 n → Lays (cond p c.SmallInt c.Int) (laid (cond p c.SmallInt c.Int) (int n)) (int n)
unfolding laid
int_lays n true e f = small_int n (small_fits n e)
int_lays n false e f = int' n f

long_lays : (n : ℤ) (p : Bool) → is_small n ≡ p → FitsSigned w64 n → Lays (cond p c.SmallLong c.Long) (laid (cond p c.SmallLong c.Long) (long n)) (long n)
unfolding laid
long_lays n true e f = small_long n (small_fits n e)
long_lays n false e f = long' n f

-- the bytes behind the first constructor spell the scalar
pub shortest_lays : (s : Scalar) → IsInRange s → IsScalarSized s → Lays (shortest s) (laid (shortest s) s) s
unfolding laid
shortest_lays null h r = null'
shortest_lays (boolean true) h r = true'
shortest_lays (boolean false) h r = false'
shortest_lays (ubyte n) h r = ubyte' n h
shortest_lays (ushort n) h r = ushort' n h
shortest_lays (uint n) h r = uint_lays n (eqb n 0) (ltb n 256) refl refl h
shortest_lays (ulong n) h r = ulong_lays n (eqb n 0) (ltb n 256) refl refl h
shortest_lays (byte n) h r = byte' n h
shortest_lays (short n) h r = short' n h
shortest_lays (int n) h r = int_lays n (is_small n) refl h
shortest_lays (long n) h r = long_lays n (is_small n) refl h
shortest_lays (char n) h r = char' n h
shortest_lays (timestamp n) h r = timestamp' n h
shortest_lays (uuid u) h r = uuid' u h
shortest_lays (binary s) h r = binary' (width_of s) s (width_fits s r)
shortest_lays (string s) h r = string' (width_of s) s h (width_fits s r)
shortest_lays (symbol s) h r = symbol' (width_of s) s h (width_fits s r)

pub wrote_scalar : (old new : List ℕ) (s : Scalar) → IsWritable (scalar s) → Puts old new s → Wrote old new (scalar s)
unfolding canonical canonical_scalar IsSized
wrote_scalar old new s w h = record { bytes = h.0; spelled = scalar' (shortest s) (laid (shortest s) s) s (shortest_lays s h.1 w.sized) }

-- what a writer of a scalar returned, at any value that is the scalar
pub scalar_put : (r : Result (Unit {0}) AllocError) (old new : List ℕ) (s : Scalar) → IsWritable (scalar s) → OnOk r (Puts old new s) → OnOk r (Wrote old new (scalar s))
scalar_put (Ok u) old new s w h = wrote_scalar old new s w h
scalar_put (Err e) old new s w h = h

pub binary_room : (s : List ℕ) → IsWritable (scalar (binary s)) → length s < 2 ^ 32
unfolding IsSized
binary_room s w = w.sized

pub string_room : (s : List ℕ) → IsWritable (scalar (string s)) → length s < 2 ^ 32
unfolding IsSized
string_room s w = w.sized

pub symbol_room : (s : List ℕ) → IsWritable (scalar (symbol s)) → length s < 2 ^ 32
unfolding IsSized
symbol_room s w = w.sized

pub binary_sized : (s : List ℕ) → length s < 2 ^ 32 → IsSized (scalar (binary s))
unfolding IsSized
binary_sized s lt = lt

pub no_binary : (s : List ℕ) → (length s < 2 ^ 32 → ⊥) → IsSized (scalar (binary s)) → ⊥
unfolding IsSized
no_binary s h lt = h lt

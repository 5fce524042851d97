-- A scalar that is spelled is one of its kind.
use Rattle.std.proofs.Common.{ℕ, List, arith}
use Rattle.std.proofs.Math.Facts.{sfits_widen}
use Rattle.amqp_data.specs.Data.{Scalar}
use Rattle.amqp_value.specs.declared.code.ScalarCode.{ScalarCode}
use Rattle.amqp_value.specs.Grammar.{Lays, null', true', false', boolean_true, boolean_false, ubyte', ushort', uint0, small_uint, uint', ulong0, small_ulong, ulong', byte', short', small_int, int', small_long, long', char', timestamp', uuid', binary', string', symbol'}
use Rattle.amqp_value.specs.Writing.{IsInRange}

pub lays_range : {c : ScalarCode} {text : List ℕ} {s : Scalar} → Lays c text s → IsInRange s
lays_range null' = tt
lays_range true' = tt
lays_range false' = tt
lays_range boolean_true = tt
lays_range boolean_false = tt
lays_range (ubyte' n lt) = lt
lays_range (ushort' n lt) = lt
lays_range uint0 = omega arith
lays_range (small_uint n lt) = omega (arith, lt)
lays_range (uint' n lt) = lt
lays_range ulong0 = omega arith
lays_range (small_ulong n lt) = omega (arith, lt)
lays_range (ulong' n lt) = lt
lays_range (byte' n f) = f
lays_range (short' n f) = f
lays_range (small_int n f) = sfits_widen tt f
lays_range (int' n f) = f
lays_range (small_long n f) = sfits_widen tt f
lays_range (long' n f) = f
lays_range (char' n is) = is
lays_range (timestamp' n f) = f
lays_range (uuid' u e) = e
lays_range (binary' w s lt) = tt
lays_range (string' w s is lt) = is
lays_range (symbol' w s is lt) = is

use Rattle.std.proofs.Common.{◌≡◌, take, drop, ◌++◌}
use Rattle.kdf_core.specs.Pbkdf2.{xor_of}
use Rattle.sasl_scram.proofs.keys.xor_into.Given as goal

abbrev pub invariant-bytes : goal.invariant-bytes
invariant-bytes l = l.bytes ≡ xor_of (take l.i l.fn.bytes) (take l.i l.other) ++ drop l.i l.fn.bytes

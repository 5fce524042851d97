use Rattle.std.proofs.Common.{arith}
use Rattle.kdf_core.proofs.Xors.{xor_next}
use Rattle.sasl_scram.proofs.keys.xor_into.Goals as goal

pub bytes-preserved : goal.bytes-preserved
bytes-preserved c = xor_next _ _ _ _ (omega arith) (omega arith) c.bytes.invariant

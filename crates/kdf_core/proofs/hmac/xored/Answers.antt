use Rattle.std.proofs.Common.{arith}
use Rattle.kdf_core.proofs.Xors.{xor_byte_next}
use Rattle.kdf_core.proofs.hmac.xored.Goals as goal

pub bytes-preserved : goal.bytes-preserved
bytes-preserved c = xor_byte_next _ _ _ _ (omega arith) c.bytes.invariant

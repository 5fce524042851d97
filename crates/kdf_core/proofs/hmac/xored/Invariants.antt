use Rattle.std.proofs.Common.{◌≡◌, ◌++◌, take, drop}
use Rattle.kdf_core.specs.Hmac.{xor_byte}
use Rattle.kdf_core.proofs.hmac.xored.Given as goal

abbrev pub invariant-bytes : goal.invariant-bytes
invariant-bytes l = l.x-items ≡ xor_byte l.byte (take l.x-index l.block) ++ drop l.x-index l.block

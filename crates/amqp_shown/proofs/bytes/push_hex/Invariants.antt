use Rattle.std.proofs.Common.{◌≡◌, ◌++◌, drop}
use Rattle.amqp_shown.specs.Bytes.{hex_of}
use Rattle.amqp_shown.proofs.bytes.push_hex.Given as goal

abbrev pub invariant-loop-byte : goal.invariant-loop-byte
invariant-loop-byte l = l.out.items ++ hex_of (drop l.byte-index l.bytes) ≡ l.fn.out.items ++ hex_of l.bytes

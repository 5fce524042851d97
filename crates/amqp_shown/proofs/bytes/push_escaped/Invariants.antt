use Rattle.std.proofs.Common.{◌≡◌, ◌++◌, drop}
use Rattle.amqp_shown.specs.Bytes.{escaped}
use Rattle.amqp_shown.proofs.bytes.push_escaped.Given as goal

abbrev pub invariant-loop-byte : goal.invariant-loop-byte
invariant-loop-byte l = l.out.items ++ escaped l.utf8 (drop l.byte-index l.bytes) ≡ l.fn.out.items ++ escaped l.utf8 l.bytes

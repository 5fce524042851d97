use Rattle.std.proofs.Common.{◌≡◌, ◌++◌, drop}
use Rattle.amqp_show.specs.Hidden.{hidden_from, hidden}
use Rattle.amqp_show.proofs.hidden.push_hidden.Given as goal

abbrev pub invariant-loop-byte : goal.invariant-loop-byte
invariant-loop-byte l = l.out.items ++ hidden_from l.read (drop l.byte-index l.line) ≡ l.fn.out.items ++ hidden l.line

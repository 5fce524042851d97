use Rattle.std.proofs.Common.{◌≡◌, ◌++◌, drop}
use Rattle.amqp_decoder.specs.Digits.{without_spaces}
use Rattle.amqp_decoder.proofs.digits.digits_of.Given as goal

abbrev pub invariant-loop-byte : goal.invariant-loop-byte
invariant-loop-byte l = l.digits.items ++ without_spaces (drop l.byte-index l.text) ≡ without_spaces l.text

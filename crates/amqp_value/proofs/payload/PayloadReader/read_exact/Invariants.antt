use Rattle.std.proofs.Common.{length, ◌-◌}
use Rattle.amqp_value.proofs.Filling.{IsFilled}
use Rattle.amqp_value.proofs.payload.PayloadReader.read_exact.Given as goal

abbrev pub invariant-loop-filled : goal.invariant-loop-filled
invariant-loop-filled l = IsFilled l.fn.self l.out l.self-inside.bytes l.filled

abbrev pub decreases-loop-filled : goal.decreases-loop-filled
decreases-loop-filled l = length l.initial.out - l.filled

use Rattle.std.proofs.Common.{length}
use Rattle.amqp_value.proofs.Filled.{Going}
use Rattle.amqp_value.proofs.reading.read_values.Given as goal

abbrev pub invariant-loop-rest : goal.invariant-loop-rest
invariant-loop-rest l = Going l.levels l.input l.values.items l.rest

abbrev pub decreases-loop-rest : goal.decreases-loop-rest
decreases-loop-rest l = length l.rest

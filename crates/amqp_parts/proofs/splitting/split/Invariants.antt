use Rattle.amqp_parts.proofs.Parts.{Goes, size_of}
use Rattle.amqp_parts.proofs.splitting.split.Given as goal

abbrev pub invariant-loop-left : goal.invariant-loop-left
invariant-loop-left l = Goes l.max_frame l.fn.transfer l.fn.payload l.parts.items l.left

abbrev pub decreases-loop-left : goal.decreases-loop-left
decreases-loop-left l = size_of l.left

use Rattle.std.proofs.Common.{◌≡◌, length}
use Rattle.amqp_value.specs.Pieces.{joined}
use Rattle.amqp_value.proofs.payload.Span.with_front.Given as goal

abbrev pub invariant-loop-left : goal.invariant-loop-left
invariant-loop-left l = joined l.left ≡ joined l.fn.self.pieces.now

abbrev pub decreases-loop-left : goal.decreases-loop-left
decreases-loop-left l = length l.left

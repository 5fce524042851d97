use Rattle.std.proofs.Common.{◌≡◌, length}
use Rattle.amqp_value.specs.Pieces.{joined}
use Rattle.amqp_value.proofs.payload.Span.with_back.Given as goal

abbrev pub invariant-loop-piece : goal.invariant-loop-piece
invariant-loop-piece l = joined l.left ≡ joined l.fn.self.pieces.now

abbrev pub decreases-loop-piece : goal.decreases-loop-piece
decreases-loop-piece l = length l.left

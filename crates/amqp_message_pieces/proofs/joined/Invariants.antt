use Rattle.std.proofs.Common.{◌≡◌, ◌++◌, drop}
use Rattle.amqp_value.specs.Pieces.{joined}
use Rattle.amqp_message_pieces.proofs.joined.Given as goal

abbrev pub invariant-loop-piece : goal.invariant-loop-piece
invariant-loop-piece l = l.bytes ++ joined (drop l.piece-index l.pieces) ≡ joined l.pieces

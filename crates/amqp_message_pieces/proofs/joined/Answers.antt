use Rattle.std.proofs.Common.{arith}
use Rattle.amqp_message_pieces.proofs.Pieces.{next_piece, last_piece}
use Rattle.amqp_message_pieces.proofs.joined.Goals as goal

pub loop-piece-preserved : goal.loop-piece-preserved
loop-piece-preserved c =
    next_piece c.args.pieces.now c.loop-piece.bytes c.append.new.self c.as_slice.result.now c.loop-piece.piece-index c.piece-item.result c.loop-piece-test.true c.piece-item.is c.as_slice.ensures c.in_ok-append.ensures.ok c.loop-piece.invariant

pub returns : goal.returns
returns c = last_piece c.args.pieces.now c.loop-piece.bytes c.loop-piece.piece-index (omega arith) c.loop-piece.invariant

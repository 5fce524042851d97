use Rattle.std.proofs.Common.{ap, sym, ◌∙◌}
use Rattle.amqp_value.specs.Pieces.{joined}
use Rattle.amqp_message_pieces.proofs.Pieces.{of_bytes}
use Rattle.amqp_message_pieces.proofs.decode_message_pieces.Goals as goal

pub returns-in-Some : goal.returns-in-Some
returns-in-Some c = of_bytes c.decode_message.result c.as_slice.result.now c.in-Some.piece.now (joined c.args.payload.now) c.as_slice.ensures (sym c.in-Some.ensures ∙ ap joined c.as_slice-pieces.ensures.same) c.decode_message.ensures

pub returns-in_ok-bytes-in-None : goal.returns-in_ok-bytes-in-None
returns-in_ok-bytes-in-None c = of_bytes c.decode_message-in-None.result c.as_slice-in-None.result.now c.in_ok-bytes-in-None.bytes (joined c.args.payload.now) c.as_slice-in-None.ensures (c.in_ok-bytes-in-None.ensures ∙ ap joined c.as_slice-pieces.ensures.same) c.decode_message-in-None.ensures

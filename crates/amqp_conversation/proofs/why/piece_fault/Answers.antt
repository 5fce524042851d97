use Rattle.amqp_conversation.proofs.Framed.{has_frame}
use Rattle.amqp_conversation.proofs.why.piece_fault.Goals as goal

pub frame_fault-requires : goal.frame_fault-requires
frame_fault-requires c = has_frame c.args.bytes.now c.args.piece c.in-Frame.kind _ c.in-Frame.start c.in-Frame.size c.in-Frame.is c.requires.begins c.requires.size

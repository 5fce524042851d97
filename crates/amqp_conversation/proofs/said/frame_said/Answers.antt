use Rattle.std.proofs.Common.{◌≡◌, ap}
use Rattle.amqp_pieces.specs.declared.FrameKind.{FrameKind}
use Rattle.amqp_pieces.specs.declared.FrameKind.TheVariants.{Amqp, Sasl}
use Rattle.amqp_pieces.specs.declared.Piece.TheVariants.{Frame}
use Rattle.amqp_conversation.proofs.Gives.{gives_amqp, gives_sasl}
use Rattle.amqp_conversation.proofs.said.frame_said.Goals as goal

pub returns-in-Amqp : goal.returns-in-Amqp
returns-in-Amqp c =
    gives_amqp _ c.amqp_said.result c.args.bytes.now (Frame c.args.kind c.args.channel c.args.start c.args.size) c.args.channel c.args.start c.args.size (ap (λ (k : FrameKind). Frame k c.args.channel c.args.start c.args.size) c.in-Amqp.is) c.requires.begins c.amqp_said.ensures

pub returns-in-Sasl : goal.returns-in-Sasl
returns-in-Sasl c =
    gives_sasl _ c.sasl_said.result c.args.bytes.now (Frame c.args.kind c.args.channel c.args.start c.args.size) c.args.channel c.args.start c.args.size (ap (λ (k : FrameKind). Frame k c.args.channel c.args.start c.args.size) c.in-Sasl.is) c.requires.begins c.sasl_said.ensures

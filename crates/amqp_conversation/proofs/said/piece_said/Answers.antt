use Rattle.std.proofs.Common.{◌≡◌}
use Rattle.amqp_pieces.specs.declared.Piece.TheVariants.{Header}
use Rattle.amqp_conversation.proofs.Gives.{gives_header}
use Rattle.amqp_conversation.proofs.said.piece_said.Goals as goal

pub returns-in-Ok : goal.returns-in-Ok
returns-in-Ok c =
    let e : c.args.piece ≡ Header c.in-Header.protocol c.in-Header.major c.in-Header.minor c.in-Header.revision = cc in
    gives_header c.args.bytes.now c.in-Ok.text.items c.args.piece c.in-Header.protocol c.in-Header.major c.in-Header.minor c.in-Header.revision e c.requires.begins c.in-Ok.ensures

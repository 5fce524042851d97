use Rattle.amqp_pieces.proofs.Unlike.{one_piece}
use Rattle.amqp_pieces.proofs.begins_with_one.Goals as goal

pub returns : goal.returns
returns c = one_piece

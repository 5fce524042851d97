use Rattle.amqp_pieces.proofs.Unlike.{fault_no_piece}
use Rattle.amqp_pieces.proofs.begins_or_not.Goals as goal

pub returns : goal.returns
returns c = fault_no_piece

use Rattle.served_connection.proofs.ListenLaws.Disposes.{tells_what_is_disposed}
use Rattle.served_connection.proofs.listens.tells_what_is_disposed.Goals as goal

pub returns : goal.returns
returns c = tells_what_is_disposed

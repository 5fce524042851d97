use Rattle.served_connection.proofs.ListenLaws.Accepts.{tells_what_is_accepted}
use Rattle.served_connection.proofs.listens.tells_what_is_accepted.Goals as goal

pub returns : goal.returns
returns c = tells_what_is_accepted

use Rattle.served_connection.proofs.ListenLaws.Runs.{messages_came}
use Rattle.served_connection.proofs.listens.messages_came.Goals as goal

pub returns : goal.returns
returns g c = messages_came g.L.Link

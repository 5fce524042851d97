use Rattle.served_connection.proofs.ListenLaws.Runs.{served_came}
use Rattle.served_connection.proofs.listens.served_came.Goals as goal

pub returns : goal.returns
returns g c = served_came g.L.Link

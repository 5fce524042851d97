use Rattle.served_connection.proofs.ListenLaws.Runs.{served_whole}
use Rattle.served_connection.proofs.listens.served_whole.Goals as goal

pub returns : goal.returns
returns g c = served_whole g.L.Link

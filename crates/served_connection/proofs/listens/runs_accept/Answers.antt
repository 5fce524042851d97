use Rattle.served_connection.proofs.ListenLaws.Asked.{runs_accept}
use Rattle.served_connection.proofs.listens.runs_accept.Goals as goal

pub returns : goal.returns
returns g c = runs_accept g.L.Link

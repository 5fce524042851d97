use Rattle.served_connection.proofs.ServeLaws.Runs.{connected_run}
use Rattle.served_connection.proofs.laws.connected_run.Goals as goal

pub returns : goal.returns
returns g c = connected_run g.L.Link

use Rattle.served_connection.proofs.ServeLaws.Runs.{left_run}
use Rattle.served_connection.proofs.laws.left_run.Goals as goal

pub returns : goal.returns
returns g c = left_run g.L.Link

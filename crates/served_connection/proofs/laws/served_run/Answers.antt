use Rattle.served_connection.proofs.ServeLaws.Runs.{served_run}
use Rattle.served_connection.proofs.laws.served_run.Goals as goal

pub returns : goal.returns
returns g c = served_run g.L.Link

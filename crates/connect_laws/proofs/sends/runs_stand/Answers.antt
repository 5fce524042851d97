use Rattle.connect_laws.proofs.Standing.{runs_stand}
use Rattle.connect_laws.proofs.sends.runs_stand.Goals as goal

pub returns : goal.returns
returns g c = runs_stand g.L.Link

use Rattle.connect_laws.proofs.Asking.{runs_tell_outcomes}
use Rattle.connect_laws.proofs.sends.runs_tell_outcomes.Goals as goal

pub returns : goal.returns
returns g c = runs_tell_outcomes g.L.Link

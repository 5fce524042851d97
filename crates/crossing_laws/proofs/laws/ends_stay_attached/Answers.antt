use Rattle.crossing_laws.proofs.Stays.{ends_stay_attached}
use Rattle.crossing_laws.proofs.laws.ends_stay_attached.Goals as goal

pub returns : goal.returns
returns c = ends_stay_attached

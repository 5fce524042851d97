use Rattle.crossing_laws.proofs.Agrees.{crossing_is_met}
use Rattle.crossing_laws.proofs.laws.crossing_is_met.Goals as goal

pub returns : goal.returns
returns c = crossing_is_met

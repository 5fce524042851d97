use Rattle.crossing_laws.proofs.Agrees.{ends_agree}
use Rattle.crossing_laws.proofs.laws.ends_agree.Goals as goal

pub returns : goal.returns
returns c = ends_agree

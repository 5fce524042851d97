use Rattle.crossing_laws.proofs.Examples.{ends_are_met}
use Rattle.crossing_laws.proofs.laws.ends_are_met.Goals as goal

pub returns : goal.returns
returns c = ends_are_met

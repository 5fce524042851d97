use Rattle.crossing_laws.proofs.Fronts.{nothing_else_is_written}
use Rattle.crossing_laws.proofs.laws.nothing_else_is_written.Goals as goal

pub returns : goal.returns
returns c = nothing_else_is_written

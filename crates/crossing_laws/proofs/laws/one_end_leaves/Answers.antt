use Rattle.crossing_laws.proofs.Agrees.{one_end_leaves}
use Rattle.crossing_laws.proofs.laws.one_end_leaves.Goals as goal

pub returns : goal.returns
returns c = one_end_leaves

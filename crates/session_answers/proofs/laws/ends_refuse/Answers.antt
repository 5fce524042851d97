use Rattle.session_answers.proofs.Refusals.{ends_refuse}
use Rattle.session_answers.proofs.laws.ends_refuse.Goals as goal

pub returns : goal.returns
returns g c = ends_refuse g.L.Link

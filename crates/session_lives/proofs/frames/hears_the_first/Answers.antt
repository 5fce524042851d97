use Rattle.session_lives.proofs.Fronts.{hears_the_first}
use Rattle.session_lives.proofs.frames.hears_the_first.Goals as goal

pub returns : goal.returns
returns c = hears_the_first

use Rattle.session_lives.proofs.Sound.{hears_its_own}
use Rattle.session_lives.proofs.frames.hears_its_own.Goals as goal

pub returns : goal.returns
returns c = hears_its_own

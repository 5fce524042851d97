use Rattle.session_lives.proofs.Channels.{speaks_on_its_own}
use Rattle.session_lives.proofs.frames.speaks_on_its_own.Goals as goal

pub returns : goal.returns
returns c = speaks_on_its_own

use Rattle.session_lives.proofs.Deeds.{sessions_live}
use Rattle.session_lives.proofs.sessions.sessions_live.Goals as goal

pub returns : goal.returns
returns c = sessions_live

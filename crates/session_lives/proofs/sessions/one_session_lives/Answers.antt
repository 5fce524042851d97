use Rattle.session_lives.proofs.Deeds.{one_session_lives}
use Rattle.session_lives.proofs.sessions.one_session_lives.Goals as goal

pub returns : goal.returns
returns c = one_session_lives

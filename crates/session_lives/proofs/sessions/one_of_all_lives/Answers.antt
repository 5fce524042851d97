use Rattle.session_lives.proofs.Runs.{one_of_all_lives}
use Rattle.session_lives.proofs.sessions.one_of_all_lives.Goals as goal

pub returns : goal.returns
returns c = one_of_all_lives

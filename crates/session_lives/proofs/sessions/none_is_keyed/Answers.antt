use Rattle.session_lives.proofs.Deeds.{none_is_keyed}
use Rattle.session_lives.proofs.sessions.none_is_keyed.Goals as goal

pub returns : goal.returns
returns c = none_is_keyed

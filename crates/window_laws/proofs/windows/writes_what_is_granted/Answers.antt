use Rattle.window_laws.proofs.Grants.{writes_what_is_granted}
use Rattle.window_laws.proofs.windows.writes_what_is_granted.Goals as goal

pub returns : goal.returns
returns c = writes_what_is_granted

use Rattle.window_laws.proofs.Examples.{window_is_met}
use Rattle.window_laws.proofs.windows.window_is_met.Goals as goal

pub returns : goal.returns
returns c = window_is_met

use Rattle.session_laws.proofs.Examples.{paths_are_met}
use Rattle.session_laws.proofs.messages.path_is_met.Goals as goal

pub returns : goal.returns
returns c = paths_are_met

use Rattle.session_laws.proofs.Returns.{outcomes_were_given}
use Rattle.session_laws.proofs.outcomes.outcomes_were_given.Goals as goal

pub returns : goal.returns
returns c = outcomes_were_given

use Rattle.session_laws.proofs.Gives.{says_what_is_given}
use Rattle.session_laws.proofs.outcomes.says_what_is_given.Goals as goal

pub returns : goal.returns
returns c = says_what_is_given

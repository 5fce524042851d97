use Rattle.session_laws.proofs.Sizes.{limits_agree}
use Rattle.session_laws.proofs.messages.limits_agree.Goals as goal

pub returns : goal.returns
returns c = limits_agree

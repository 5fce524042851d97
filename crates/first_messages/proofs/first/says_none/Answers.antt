use Rattle.first_messages.proofs.Silent.{says_none}
use Rattle.first_messages.proofs.first.says_none.Goals as goal

pub returns : goal.returns
returns c = says_none

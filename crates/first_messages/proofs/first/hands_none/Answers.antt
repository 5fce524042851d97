use Rattle.first_messages.proofs.Deaf.{hands_none}
use Rattle.first_messages.proofs.first.hands_none.Goals as goal

pub returns : goal.returns
returns c = hands_none

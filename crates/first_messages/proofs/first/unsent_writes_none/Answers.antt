use Rattle.first_messages.proofs.Unsent.{unsent_writes_none}
use Rattle.first_messages.proofs.first.unsent_writes_none.Goals as goal

pub returns : goal.returns
returns c = unsent_writes_none

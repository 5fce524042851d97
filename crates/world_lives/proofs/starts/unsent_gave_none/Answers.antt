use Rattle.world_lives.proofs.WorldLinks.Unsent.{unsent_gave_none}
use Rattle.world_lives.proofs.starts.unsent_gave_none.Goals as goal

pub returns : goal.returns
returns c = unsent_gave_none

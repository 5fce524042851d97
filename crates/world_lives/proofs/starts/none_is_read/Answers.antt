use Rattle.world_lives.proofs.WorldLinks.First.{none_is_read}
use Rattle.world_lives.proofs.starts.none_is_read.Goals as goal

pub returns : goal.returns
returns c = none_is_read

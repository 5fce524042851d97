use Rattle.world_lives.proofs.WorldLinks.First.{none_is_written}
use Rattle.world_lives.proofs.starts.none_is_written.Goals as goal

pub returns : goal.returns
returns c = none_is_written

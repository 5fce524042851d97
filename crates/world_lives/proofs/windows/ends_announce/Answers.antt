use Rattle.world_lives.proofs.WorldWindows.Hearing.{ends_announce}
use Rattle.world_lives.proofs.windows.ends_announce.Goals as goal

pub returns : goal.returns
returns c = ends_announce

use Rattle.world_lives.proofs.WorldWindows.Keeping.{keeps_facing}
use Rattle.world_lives.proofs.windows.keeps_facing.Goals as goal

pub returns : goal.returns
returns c = keeps_facing

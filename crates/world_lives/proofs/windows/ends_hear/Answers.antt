use Rattle.world_lives.proofs.WorldWindows.Hearing.{ends_hear}
use Rattle.world_lives.proofs.windows.ends_hear.Goals as goal

pub returns : goal.returns
returns c = ends_hear

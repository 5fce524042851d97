use Rattle.world_lives.proofs.WorldWindows.Growing.{each_is_made}
use Rattle.world_lives.proofs.windows.each_is_made.Goals as goal

pub returns : goal.returns
returns c = each_is_made

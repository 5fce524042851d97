use Rattle.world_lives.proofs.WorldWindows.Growing.{each_is_of_one}
use Rattle.world_lives.proofs.windows.each_is_of_one.Goals as goal

pub returns : goal.returns
returns c = each_is_of_one

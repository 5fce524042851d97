use Rattle.world_lives.proofs.WorldWindows.Facing.{waits_for_the_begin}
use Rattle.world_lives.proofs.windows.waits_for_the_begin.Goals as goal

pub returns : goal.returns
returns c = waits_for_the_begin

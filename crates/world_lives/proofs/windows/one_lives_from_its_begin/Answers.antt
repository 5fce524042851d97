use Rattle.world_lives.proofs.WorldWindows.Living.{one_lives_from_its_begin}
use Rattle.world_lives.proofs.windows.one_lives_from_its_begin.Goals as goal

pub returns : goal.returns
returns c = one_lives_from_its_begin

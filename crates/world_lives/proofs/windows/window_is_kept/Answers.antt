use Rattle.world_lives.proofs.WorldWindows.Facing.{window_is_kept}
use Rattle.world_lives.proofs.windows.window_is_kept.Goals as goal

pub returns : goal.returns
returns c = window_is_kept

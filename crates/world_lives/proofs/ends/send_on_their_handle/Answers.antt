use Rattle.world_lives.proofs.EndLives.Handles.{send_on_their_handle}
use Rattle.world_lives.proofs.ends.send_on_their_handle.Goals as goal

pub returns : goal.returns
returns c = send_on_their_handle

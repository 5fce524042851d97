use Rattle.world_lives.proofs.EndLives.Receivers.{receivers_pass}
use Rattle.world_lives.proofs.ends.receivers_pass.Goals as goal

pub returns : goal.returns
returns c = receivers_pass

use Rattle.world_lives.proofs.EndLives.Senders.{senders_pass}
use Rattle.world_lives.proofs.ends.senders_pass.Goals as goal

pub returns : goal.returns
returns c = senders_pass

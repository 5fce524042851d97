use Rattle.world_lives.proofs.EndLives.Between.{messages_pass}
use Rattle.world_lives.proofs.ends.messages_pass.Goals as goal

pub returns : goal.returns
returns c = messages_pass

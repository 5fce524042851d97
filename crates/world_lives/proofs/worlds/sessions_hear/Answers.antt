use Rattle.world_lives.proofs.Hearing.{sessions_hear}
use Rattle.world_lives.proofs.worlds.sessions_hear.Goals as goal

pub returns : goal.returns
returns c = sessions_hear

use Rattle.world_lives.proofs.Alone.{speaks_alone}
use Rattle.world_lives.proofs.worlds.speaks_alone.Goals as goal

pub returns : goal.returns
returns c = speaks_alone

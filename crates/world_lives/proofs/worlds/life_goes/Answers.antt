use Rattle.world_lives.proofs.Lived.{life_goes}
use Rattle.world_lives.proofs.worlds.life_goes.Goals as goal

pub returns : goal.returns
returns c = life_goes

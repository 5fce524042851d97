use Rattle.world_lives.proofs.Lived.{life_stops}
use Rattle.world_lives.proofs.worlds.life_stops.Goals as goal

pub returns : goal.returns
returns c = life_stops

use Rattle.world_lives.proofs.EndLives.Deeds.{ends_do}
use Rattle.world_lives.proofs.ends.ends_do.Goals as goal

pub returns : goal.returns
returns g c = ends_do g.L.Link

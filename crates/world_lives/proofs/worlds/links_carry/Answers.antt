use Rattle.world_lives.proofs.Arriving.{links_carry}
use Rattle.world_lives.proofs.worlds.links_carry.Goals as goal

pub returns : goal.returns
returns c = links_carry

use Rattle.world_lives.proofs.WorldLinks.Starting.{links_carry_from_the_start}
use Rattle.world_lives.proofs.starts.links_carry_from_the_start.Goals as goal

pub returns : goal.returns
returns c = links_carry_from_the_start

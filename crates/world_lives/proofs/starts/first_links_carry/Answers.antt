use Rattle.world_lives.proofs.WorldLinks.Starting.{first_links_carry}
use Rattle.world_lives.proofs.starts.first_links_carry.Goals as goal

pub returns : goal.returns
returns c = first_links_carry

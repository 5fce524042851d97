use Rattle.world_lives.proofs.WorldLinks.Starting.{unsent_links_carry}
use Rattle.world_lives.proofs.starts.unsent_links_carry.Goals as goal

pub returns : goal.returns
returns c = unsent_links_carry

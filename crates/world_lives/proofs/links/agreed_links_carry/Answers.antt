use Rattle.world_lives.proofs.WorldLinks.Carrying.{agreed_links_carry}
use Rattle.world_lives.proofs.links.agreed_links_carry.Goals as goal

pub returns : goal.returns
returns c = agreed_links_carry

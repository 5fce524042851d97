use Rattle.link_lives.proofs.Deeds.{one_link_lives}
use Rattle.link_lives.proofs.links.one_link_lives.Goals as goal

pub returns : goal.returns
returns c = one_link_lives

use Rattle.link_lives.proofs.Runs.{links_live}
use Rattle.link_lives.proofs.links.links_live.Goals as goal

pub returns : goal.returns
returns c = links_live

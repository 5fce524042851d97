use Rattle.link_lives.proofs.Runs.{one_receiver_lives}
use Rattle.link_lives.proofs.links.one_receiver_lives.Goals as goal

pub returns : goal.returns
returns c = one_receiver_lives

use Rattle.link_lives.proofs.Runs.{one_sender_lives}
use Rattle.link_lives.proofs.links.one_sender_lives.Goals as goal

pub returns : goal.returns
returns c = one_sender_lives

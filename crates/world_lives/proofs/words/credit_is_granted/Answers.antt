use Rattle.world_lives.proofs.OutcomeLives.Credits.{credit_is_granted}
use Rattle.world_lives.proofs.words.credit_is_granted.Goals as goal

pub returns : goal.returns
returns c = credit_is_granted

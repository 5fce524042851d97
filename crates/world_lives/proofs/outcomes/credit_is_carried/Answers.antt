use Rattle.world_lives.proofs.OutcomeLives.Coming.{credit_is_carried}
use Rattle.world_lives.proofs.outcomes.credit_is_carried.Goals as goal

pub returns : goal.returns
returns c = credit_is_carried

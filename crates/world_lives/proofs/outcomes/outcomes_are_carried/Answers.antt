use Rattle.world_lives.proofs.OutcomeLives.Coming.{outcomes_are_carried}
use Rattle.world_lives.proofs.outcomes.outcomes_are_carried.Goals as goal

pub returns : goal.returns
returns c = outcomes_are_carried

use Rattle.world_lives.proofs.OutcomeLives.Returning.{outcomes_return}
use Rattle.world_lives.proofs.words.outcomes_return.Goals as goal

pub returns : goal.returns
returns c = outcomes_return

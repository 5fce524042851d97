use Rattle.world_lives.proofs.WorldLinks.Cutting.{steps_are_cut}
use Rattle.world_lives.proofs.WorldLinks.Reading.{read_was_written}
use Rattle.world_lives.proofs.starts.steps_are_cut.Goals as goal

pub returns-clause-cut : goal.returns-clause-cut
returns-clause-cut c = steps_are_cut

pub returns-clause-read : goal.returns-clause-read
returns-clause-read c = read_was_written

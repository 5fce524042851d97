use Rattle.world_lives.proofs.Calls.{names_are_new}
use Rattle.world_lives.proofs.worlds.names_are_new.Goals as goal

pub returns : goal.returns
returns c = names_are_new

use Rattle.world_lives.proofs.Once.{names_are_used_once}
use Rattle.world_lives.proofs.worlds.names_are_used_once.Goals as goal

pub returns : goal.returns
returns c = names_are_used_once

use Rattle.world_lives.proofs.Calls.{receivers_go}
use Rattle.world_lives.proofs.worlds.receivers_go.Goals as goal

pub returns : goal.returns
returns c = receivers_go

use Rattle.world_lives.proofs.Calls.{senders_go}
use Rattle.world_lives.proofs.worlds.senders_go.Goals as goal

pub returns : goal.returns
returns c = senders_go

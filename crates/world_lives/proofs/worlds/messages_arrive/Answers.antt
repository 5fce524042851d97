use Rattle.world_lives.proofs.Arriving.{messages_arrive}
use Rattle.world_lives.proofs.worlds.messages_arrive.Goals as goal

pub returns : goal.returns
returns c = messages_arrive

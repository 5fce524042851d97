use Rattle.world_lives.proofs.WordsCarry.Hearing.{flows_are_heard}
use Rattle.world_lives.proofs.credit.flows_are_heard.Goals as goal

pub returns : goal.returns
returns c = flows_are_heard

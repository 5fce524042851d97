use Rattle.world_lives.proofs.OutcomeLives.Hearing.{words_are_heard}
use Rattle.world_lives.proofs.words.words_are_heard.Goals as goal

pub returns : goal.returns
returns c = words_are_heard

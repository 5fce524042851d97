use Rattle.link_answers.proofs.Passed.{traces_pass}
use Rattle.link_answers.proofs.worlds.traces_pass.Goals as goal

pub returns : goal.returns
returns c = traces_pass

use Rattle.link_answers.proofs.Traces.{trace_answers_stand}
use Rattle.link_answers.proofs.laws.trace_answers_stand.Goals as goal

pub returns : goal.returns
returns c = trace_answers_stand

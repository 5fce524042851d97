use Rattle.session_answers.proofs.Given.{trace_is_put_out}
use Rattle.session_answers.proofs.laws.traces_are_put_out.Goals as goal

pub returns : goal.returns
returns c = trace_is_put_out

use Rattle.amqp_run.proofs.Grammars.{is_bad_line}
use Rattle.amqp_run.proofs.script.steps_of.Goals as goal

pub returns-clause-bad : goal.returns-clause-bad
returns-clause-bad c = λ n e. is_bad_line c.args.script.now n (c.parse.ensures.bad n e)

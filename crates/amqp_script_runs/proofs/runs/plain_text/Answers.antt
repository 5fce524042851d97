use Rattle.amqp_script_runs.proofs.Errors.{told_by}
use Rattle.amqp_script_runs.proofs.runs.plain_text.Goals as goal

pub returns-in-Err-clause-bad : goal.returns-in-Err-clause-bad
returns-in-Err-clause-bad c = λ i h. c.run.ensures.bad i (told_by c.run.result c.in-Err.error c.run_error.result i c.in-Err.is c.run_error.ensures h)

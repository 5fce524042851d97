use Rattle.trace_topics.proofs.Explained.{explained}
use Rattle.amqp_script_runs.proofs.Errors.{told_by}
use Rattle.amqp_script_runs.proofs.runs.session_text.Goals as goal

pub returns-in_ok-text-in-Ok-clause-ok : goal.returns-in_ok-text-in-Ok-clause-ok
returns-in_ok-text-in-Ok-clause-ok c =
    record {
      entries = c.in-Ok.trace.entries.items;
      form = c.in-Ok.ensures.form;
      explained = explained c.args.steps.now c.in-Ok.trace.entries.items c.in-Ok.ensures.carried;
      shown = c.in_ok-text-in-Ok.ensures;
    }

pub returns-in-Err-clause-bad : goal.returns-in-Err-clause-bad
returns-in-Err-clause-bad c = λ i h. c.run.ensures.bad i (told_by c.run.result c.in-Err.error c.run_error.result i c.in-Err.is c.run_error.ensures h)

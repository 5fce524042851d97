use Rattle.std.proofs.Common.{◌≡◌, ◌++◌, drop}
use Rattle.amqp_session_script.specs.TraceText.{text_from, text_of}
use Rattle.amqp_session_script.proofs.trace_text.text.Given as goal

abbrev pub invariant-loop-step : goal.invariant-loop-step
invariant-loop-step l = l.out.items ++ text_from l.step (drop l.step l.entries) ≡ text_of l.entries

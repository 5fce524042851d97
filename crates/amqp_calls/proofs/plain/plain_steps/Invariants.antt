use Rattle.std.proofs.Common.{◌≡◌, drop}
use Rattle.amqp_calls.specs.Plain.{plain_steps}
use Rattle.amqp_calls.proofs.Joined.{joined}
use Rattle.amqp_calls.proofs.plain.plain_steps.Given as goal

abbrev pub invariant-loop-step : goal.invariant-loop-step
invariant-loop-step l = joined l.plain (plain_steps (drop l.step-index l.steps)) ≡ plain_steps l.steps

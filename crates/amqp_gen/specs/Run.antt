-- A run of messages that are made by a rule.
use Rattle.std.specs.Prelude.{◌≡◌, ℕ, List}
use Rattle.amqp_calls.specs.declared.step.Step.{Step}
use Rattle.amqp_session_world.specs.Carried.{AreCarried}
use Rattle.amqp_session_world.specs.Turn.{AreMade}
use Rattle.amqp_gen.specs.declared.run.GenRun.{GenRun}
use Rattle.amqp_gen.specs.Steps.{with_messages, bytes_of}
use Rattle.amqp_gen.specs.Tally.{tallied}
use Rattle.amqp_gen.specs.Walk.{walk}

-- the steps of a run: both ends come to a link, and so many messages go over it
abbrev pub steps_of : ℕ → ℕ → List Step
steps_of start count = with_messages walk start count

-- two ends made these steps, their connections carried what passed, and the numbers are counted off them and off what they came to
pub record IsGenRun (start count : ℕ) (run : GenRun) : Type 0 where
  pub made : AreMade (steps_of start count) run.trace.entries.items
  pub carried : AreCarried (steps_of start count) run.trace.entries.items
  pub tally : run.tally ≡ tallied run.trace.entries.items
  pub bytes : run.bytes ≡ bytes_of start count

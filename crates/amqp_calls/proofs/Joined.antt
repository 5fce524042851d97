-- Steps of connections alone, as far as they were gone through.
use Rattle.std.proofs.Common.{List, ◌++◌, Option, Some, None}
use Rattle.amqp_words.specs.declared.step.Step.{Step as ConnectionStep}

-- steps before those that follow
abbrev pub joined : List ConnectionStep → Option (List ConnectionStep) → Option (List ConnectionStep)
joined front None = None
joined front (Some steps) = Some (front ++ steps)

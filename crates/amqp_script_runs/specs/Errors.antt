-- Why there is no text of a trace.
use Rattle.std.specs.Prelude.{alloc_error}
use Rattle.amqp_world.specs.declared.world.WorldError.{WorldError}
use Rattle.amqp_world.specs.declared.world.WorldError.TheVariants as world
use Rattle.amqp_script_runs.specs.declared.runs.RunError.{RunError}
use Rattle.amqp_script_runs.specs.declared.runs.RunError.TheVariants.{Memory, BadStep}

-- a step is not valid, or memory was wanting
abbrev pub error_of : WorldError → RunError
error_of (world.BadStep i) = BadStep i
error_of (world.Memory e) = Memory e
error_of world.Failed = Memory alloc_error

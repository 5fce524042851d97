-- Steps that are made.
use Rattle.amqp_calls.specs.declared.call.Call.{Call as AnyCall}
use Rattle.amqp_calls.specs.declared.call.Call.TheVariants.{Connection, Session, Link}
use Rattle.amqp_calls.specs.declared.call.SessionCall.{SessionCall}
use Rattle.amqp_calls.specs.declared.step.Act.{Act}
use Rattle.amqp_calls.specs.declared.step.Act.TheVariants.{Call}
use Rattle.amqp_calls.specs.declared.step.Step.{Step}
use Rattle.amqp_link_words.specs.declared.link_call.LinkCall.{LinkCall}
use Rattle.amqp_words.specs.declared.call.Call.{Call as ConnectionCall}
use Rattle.amqp_words.specs.declared.step.End.{End}

-- a step at moment 0
abbrev pub step_of : End → Act → Step
step_of end act = record { end = end; at = 0; act = act }

-- steps that make a call on the connection, for its sessions, and for their links
abbrev pub connection_step : End → ConnectionCall → Step
connection_step end x = step_of end (Call (Connection x))

abbrev pub session_step : End → SessionCall → Step
session_step end x = step_of end (Call (Session x))

abbrev pub link_step : End → LinkCall → Step
link_step end x = step_of end (Call (Link x))

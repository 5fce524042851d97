-- What a frame that is read does.
use Rattle.std.specs.Prelude.{ℕ, Result, Ok, Err}
use Rattle.amqp_transport.specs.amqp_frames.declared.body.FrameBody.{FrameBody}
use Rattle.amqp_transport.specs.amqp_frames.declared.body.FrameBody.TheVariants as b
use Rattle.amqp_transport.specs.declared.frames.Frame.{Frame}
use Rattle.amqp_engine.specs.declared.engine.EngineStep.{EngineStep}
use Rattle.amqp_engine.specs.declared.engine.EngineStep.TheVariants.{Worked}
use Rattle.amqp_engine.specs.declared.error.Error.{Error}
use Rattle.amqp_engine.specs.declared.error.Error.TheVariants.{IllegalState}
use Rattle.amqp_engine.specs.declared.phase.Phase.{Phase}
use Rattle.amqp_engine.specs.declared.phase.Phase.TheVariants as p
use Rattle.amqp_engine.specs.declared.phase.Rejection.TheVariants as rejection
use Rattle.amqp_engine.specs.declared.sessions.Plan.{Plan}
use Rattle.amqp_engine.specs.declared.sessions.Plan.TheVariants as plan
use Rattle.amqp_engine.specs.Plans.{planned, rejection_told}
use Rattle.amqp_engine.specs.Channels.{taken_in}
use Rattle.amqp_engine.specs.State.{State, entered, remote_reason, answered_reason}

-- in place of the peer's Open
abbrev pub awaited : {L : Type 0} → ℕ → State L → FrameBody → State L
awaited at s (b.Open x) = entered at s x
awaited at s (b.Close x) = record s { phase = p.CloseReceived; reason = remote_reason x.error }
awaited at s body = record s { phase = p.Refused }

abbrev pub awaited_answer : FrameBody → Result EngineStep Error
awaited_answer (b.Open x) = Ok Worked
awaited_answer (b.Close x) = Ok Worked
awaited_answer body = Err IllegalState

-- a frame of a session, as is planned
abbrev pub plan_of : {L : Type 0} → State L → Frame → Plan
plan_of s x = planned s.settings s.channels x

abbrev pub phase_after : Plan → Phase → Phase
phase_after (plan.Reject why) phase = p.Rejected why
phase_after plan phase = phase

abbrev pub admitted : {L : Type 0} → Plan → State L → Frame → State L
admitted plan s x = record s { phase = phase_after plan s.phase; channels = taken_in plan s.channels x }

abbrev pub admitted_answer : Plan → Result EngineStep Error
admitted_answer (plan.Reject why) = Err (rejection_told why)
admitted_answer plan = Ok Worked

-- while the connection is open
abbrev pub arrived : {L : Type 0} → State L → Frame → FrameBody → State L
arrived s x (b.Open y) = record s { phase = p.Rejected rejection.IllegalState }
arrived s x (b.Close y) = record s { phase = p.CloseReceived; reason = remote_reason y.error }
arrived s x b.Empty = s
arrived s x body = admitted (plan_of s x) s x

abbrev pub arrived_answer : Plan → FrameBody → Result EngineStep Error
arrived_answer plan (b.Open x) = Err IllegalState
arrived_answer plan (b.Close x) = Ok Worked
arrived_answer plan b.Empty = Ok Worked
arrived_answer plan body = admitted_answer plan

-- while the peer's Close is awaited: other frames are dropped
abbrev pub outlasted : {L : Type 0} → State L → FrameBody → State L
outlasted s (b.Close x) = record s { phase = p.Ended; reason = answered_reason s.reason x.error }
outlasted s body = s

-- a frame was read
abbrev pub received : {L : Type 0} → Phase → ℕ → State L → Frame → State L
received p.OpenSent at s x = awaited at s x.body
received p.Opened at s x = arrived s x x.body
received p.CloseSent at s x = outlasted s x.body
received p.Discarding at s x = outlasted s x.body
received phase at s x = s

-- and what the step answers
abbrev pub answer_to : {L : Type 0} → Phase → State L → Frame → Result EngineStep Error
answer_to p.OpenSent s x = awaited_answer x.body
answer_to p.Opened s x = arrived_answer (plan_of s x) x.body
answer_to phase s x = Ok Worked

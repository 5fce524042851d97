-- What becomes of a frame of a session (OASIS AMQP 1.0, part 2, sections 2.5 and 2.7.1).
use Rattle.std.specs.Prelude.{ℕ, nat_lt, Bool, true, false, Option, Some, None, slice_index_or, if◌then◌else◌}
use Rattle.amqp_transport.specs.amqp_frames.declared.body.FrameBody.{FrameBody}
use Rattle.amqp_transport.specs.amqp_frames.declared.body.FrameBody.TheVariants as b
use Rattle.amqp_transport.specs.declared.frames.Frame.{Frame}
use Rattle.amqp_engine.specs.declared.connection.Settings.{Settings}
use Rattle.amqp_engine.specs.declared.error.Error.{Error}
use Rattle.amqp_engine.specs.declared.error.Error.TheVariants as error
use Rattle.amqp_engine.specs.declared.phase.Rejection.{Rejection}
use Rattle.amqp_engine.specs.declared.phase.Rejection.TheVariants as rejection
use Rattle.amqp_engine.specs.declared.sessions.Plan.{Plan}
use Rattle.amqp_engine.specs.declared.sessions.Plan.TheVariants as plan
use Rattle.amqp_engine.specs.Channels.{Channels, is_among}
use Rattle.amqp_engine.specs.Limits.{is_beyond}

-- A Begin that answers names a channel on which this end has a session, whose Begin is not answered yet; a second answer is out of
-- order (part 2, section 2.5.1).
abbrev pub answer_plan : Bool → Bool → Plan
answer_plan false is_answered = plan.Reject rejection.NotFound
answer_plan true true = plan.Reject rejection.IllegalState
answer_plan true false = plan.Answer

-- a Begin on a channel where a session is begun is out of order; one that names no channel asks for a session, at an end that takes some
abbrev pub begin_plan : Bool → Bool → Channels → Option ℕ → Plan
begin_plan true is_listener c named = plan.Reject rejection.IllegalState
begin_plan false is_listener c (Some channel) = answer_plan (slice_index_or c.seats channel false) (is_among channel c.answered)
begin_plan false true c None = plan.Ask
begin_plan false false c None = plan.Reject rejection.NotImplemented

-- other frames come on a channel where the peer has begun a session
abbrev pub known_plan : Bool → Bool → Channels → FrameBody → Plan
known_plan is_known is_listener c (b.Begin x) = begin_plan is_known is_listener c x.remote_channel
known_plan is_known is_listener c (b.End x) = if is_known then plan.End else plan.Reject rejection.NotFound
known_plan is_known is_listener c body = if is_known then plan.Deliver else plan.Reject rejection.NotFound

-- no frame comes on a channel above the highest that both ends take (part 2, section 2.7.1)
abbrev pub within_plan : Bool → Plan → Plan
within_plan true q = plan.Reject rejection.FramingError
within_plan false q = q

-- no frame that a session would take names a handle above the highest that this end has announced for it (part 2, section 2.7.2)
abbrev pub beyond_plan : Bool → Plan → Plan
beyond_plan true plan.Deliver = plan.Reject rejection.FramingError
beyond_plan true q = q
beyond_plan false q = q

abbrev pub planned : Settings → Channels → Frame → Plan
planned s c x =
    within_plan (nat_lt s.channel_max x.channel)
    (beyond_plan (is_beyond c.limits x.channel x.body) (known_plan (is_among x.channel c.remotes) s.is_listener c x.body))

-- what the end's own caller is told of a rejection
abbrev pub rejection_told : Rejection → Error
rejection_told rejection.IllegalState = error.IllegalState
rejection_told rejection.NotImplemented = error.NotImplemented
rejection_told rejection.NotFound = error.NotFound
rejection_told rejection.FramingError = error.IllegalState

-- What an engine is, and what a frame that it reads or writes makes of it.
use Rattle.std.specs.Prelude.{ℕ, List, ◌++◌, codes, max, Option, Some, None, if◌then◌else◌}
use Rattle.amqp_composites.specs.declared.error.Error.{Error as AmqpError}
use Rattle.amqp_transport.specs.amqp_performatives.declared.open.Open.{Open}
use Rattle.amqp_transport.specs.amqp_frames.declared.body.FrameBody.{FrameBody}
use Rattle.amqp_transport.specs.amqp_frames.declared.body.FrameBody.TheVariants as b
use Rattle.amqp_transport.specs.amqp_frames.declared.shared.ConnectionStopReason.{ConnectionStopReason}
use Rattle.amqp_transport.specs.amqp_frames.declared.shared.ConnectionStopReason.TheVariants as why
use Rattle.amqp_transport.specs.declared.frames.Frame.{Frame}
use Rattle.amqp_transport.specs.declared.heart_beat.HeartBeat.{HeartBeat}
use Rattle.amqp_transport.specs.Clocks.{periods}
use Rattle.amqp_transport.specs.Kinds.{amqp_bytes, amqp_spells, amqp_channel, amqp_again}
use Rattle.amqp_transport.specs.Stream.{HasFrame}
use Rattle.amqp_transport.specs.Wire.{Wire}
use Rattle.amqp_wire.specs.Frame.{frame_of}
use Rattle.amqp_engine.specs.declared.connection.EndKind.{EndKind}
use Rattle.amqp_engine.specs.declared.connection.Settings.{Settings}
use Rattle.amqp_engine.specs.declared.phase.Phase.{Phase}
use Rattle.amqp_engine.specs.declared.phase.Phase.TheVariants as p
use Rattle.amqp_engine.specs.declared.phase.Rejection.{Rejection}
use Rattle.amqp_engine.specs.declared.phase.Rejection.TheVariants as rejection
use Rattle.amqp_engine.specs.Channels.{Channels, no_channels, said_in}
use Rattle.amqp_engine.specs.Phases.{is_stopped}
use Rattle.amqp_engine.specs.Settings.{settings_of_end, open_of, agreed}

-- the transport, how far the connection is, the heartbeat, why it stops, what is kept of the Opens, and the channels of sessions
pub record State (L : Type 0) : Type 0 where
  pub wire : Wire L
  pub phase : Phase
  pub beat : HeartBeat
  pub reason : ConnectionStopReason
  pub settings : Settings
  pub channels : Channels

-- the bytes of a frame
abbrev pub bytes_of : Frame → List ℕ
bytes_of x = frame_of 0 x.channel (amqp_bytes x)

-- a frame can hold it, and its body spells it as it is read again (part 2, section 2.3)
abbrev pub IsFramed : Frame → Type 0
IsFramed x = HasFrame amqp_spells amqp_bytes amqp_channel amqp_again x

-- both limits
abbrev pub limited : {L : Type 0} → Wire L → ℕ → ℕ → Wire L
limited w read written = record w { codec = record w.codec { decoder = max 512 read; encoder = max 512 written } }

-- a frame is queued
abbrev pub queueing : {L : Type 0} → State L → Frame → State L
queueing s x = record s { wire = record s.wire { codec = record s.wire.codec { output = s.wire.codec.output ++ bytes_of x } } }

-- a frame of a session is queued
abbrev pub sending : {L : Type 0} → State L → Frame → State L
sending s x = record (queueing s x) { channels = said_in s.channels x }

-- the frames of the connection itself
abbrev pub open_frame : EndKind → Frame
open_frame end = record { channel = 0; body = b.Open (open_of end) }

abbrev pub close_frame : Option AmqpError → Frame
close_frame error = record { channel = 0; body = b.Close (record { error = error }) }

-- no beat at any moment
abbrev pub no_beat : HeartBeat
no_beat = record { period = 0; start = 0; last = None }

-- Open is queued
abbrev pub opened : {L : Type 0} → Wire L → EndKind → State L
opened w end = queueing (record { wire = limited w 512 512; phase = p.OpenSent; beat = no_beat; reason = why.Closed; settings = settings_of_end end; channels = no_channels }) (open_frame end)

-- the idle time of an Open, 0 where it has none
abbrev pub idle_time : Option ℕ → ℕ
idle_time None = 0
idle_time (Some idle) = idle

-- the peer's Open is read: the limits and the heartbeat begin
abbrev pub entered : {L : Type 0} → ℕ → State L → Open → State L
entered at s x = record s { wire = limited s.wire s.settings.largest_read (max x.max_frame_size 512); phase = p.Opened; beat = record { period = idle_time x.idle_time_out; start = at; last = None }; settings = agreed s.settings x }

-- why a connection stops that the peer closes
abbrev pub remote_reason : Option AmqpError → ConnectionStopReason
remote_reason None = why.RemoteClosed
remote_reason (Some error) = why.RemoteClosedWithError error

-- why a connection stops that this end closes
abbrev pub own_reason : Option AmqpError → ConnectionStopReason
own_reason None = why.Closed
own_reason (Some error) = why.ClosedWithError error

-- why a connection stops that this end closed for that reason, where the peer answers so
abbrev pub answered_reason : ConnectionStopReason → Option AmqpError → ConnectionStopReason
answered_reason reason None = reason
answered_reason reason (Some error) = why.RemoteClosedWithError error

-- the transport failed; an end that has stopped keeps its reason
abbrev pub failed_reason : Phase → ConnectionStopReason → ConnectionStopReason
failed_reason p.Ended reason = reason
failed_reason p.Failed reason = reason
failed_reason phase reason = why.Closed

abbrev pub failing : {L : Type 0} → State L → State L
failing s = record s { phase = p.Failed; reason = failed_reason s.phase s.reason }

-- Close is queued, for that error
abbrev pub close_phase : Option AmqpError → Phase
close_phase None = p.CloseSent
close_phase (Some error) = p.Discarding

abbrev pub closing : {L : Type 0} → State L → Option AmqpError → State L
closing s error = record (queueing s (close_frame error)) { phase = close_phase error; reason = own_reason error }

-- the error of a rejection (part 2, sections 2.7.1, 2.8.15 and 2.8.16)
abbrev pub condition_of : Rejection → List ℕ
condition_of rejection.IllegalState = codes "amqp:illegal-state"
condition_of rejection.NotImplemented = codes "amqp:not-implemented"
condition_of rejection.NotFound = codes "amqp:not-found"
condition_of rejection.FramingError = codes "amqp:connection:framing-error"

abbrev pub error_for : Rejection → AmqpError
error_for r = record { condition = condition_of r; description = None; info = None }

-- an empty frame is queued, as a beat is due
abbrev pub beating : {L : Type 0} → State L → Frame → ℕ → State L
beating s x at = record (queueing s x) { beat = record s.beat { last = Some (periods s.beat at) } }

-- a Close was queued
abbrev pub closed_for : {L : Type 0} → State L → FrameBody → State L
closed_for s (b.Close x) = record s { phase = close_phase x.error; reason = own_reason x.error }
closed_for s body = s

-- it is told where the connection has stopped
abbrev pub stop_reason_of : {L : Type 0} → State L → Option ConnectionStopReason
stop_reason_of s = if is_stopped s.phase then Some s.reason else None

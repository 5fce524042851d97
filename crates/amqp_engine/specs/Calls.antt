-- What each call of an engine does, by what the link and the transport answer in it.
use Rattle.std.specs.Prelude.{◌≡◌, ◌<◌, ◌≤◌, ◌+◌, ◌^◌, ◌⊎◌, ℕ, Bool, true, false, length, Option, Some, None, Result, Ok, Err}
use Rattle.amqp_wire.specs.declared.link.Link.{Ghosts}
use Rattle.amqp_wire.specs.declared.link.IoKind.TheVariants.{End}
use Rattle.amqp_transport.specs.declared.frames.Frame.{Frame}
use Rattle.amqp_transport.specs.declared.transport.Error.{Error as TransportFault}
use Rattle.amqp_transport.specs.declared.transport.Error.TheVariants as fault
use Rattle.amqp_transport.specs.declared.transport.Next.{Next}
use Rattle.amqp_transport.specs.declared.transport.Next.TheVariants as next
use Rattle.amqp_transport.specs.declared.transport.Flush.{Flush}
use Rattle.amqp_transport.specs.declared.transport.Flush.TheVariants as flush
use Rattle.amqp_transport.specs.Clocks.{IsDue}
use Rattle.amqp_transport.specs.Kinds.{amqp_bytes, amqp_spells, amqp_oversized, no_frame}
use Rattle.amqp_transport.specs.Stream.{Grew}
use Rattle.amqp_transport.specs.Wire.{Wire, Polled, FlushedTo}
use Rattle.amqp_engine.specs.declared.connection.EndKind.{EndKind}
use Rattle.amqp_engine.specs.declared.engine.EngineStep.{EngineStep}
use Rattle.amqp_engine.specs.declared.engine.EngineStep.TheVariants as step
use Rattle.amqp_engine.specs.declared.error.Error.{Error}
use Rattle.amqp_engine.specs.declared.error.Error.TheVariants as error
use Rattle.amqp_engine.specs.declared.phase.Phase.{Phase}
use Rattle.amqp_engine.specs.declared.phase.Phase.TheVariants as p
use Rattle.amqp_engine.specs.declared.phase.Rejection.{Rejection}
use Rattle.amqp_transport.specs.amqp_frames.declared.shared.IncomingSession.{IncomingSession}
use Rattle.amqp_engine.specs.declared.error.AllocSessionError.{AllocSessionError}
use Rattle.amqp_engine.specs.declared.error.AllocSessionError.TheVariants as alloc
use Rattle.amqp_engine.specs.Channels.{Channels, TakesFrame, TakesSession, first_free, seat_taken, seat_freed}
use Rattle.amqp_engine.specs.Errors.{error_of}
use Rattle.amqp_engine.specs.Machine.{received, answer_to}
use Rattle.amqp_engine.specs.Phases.{has_failed, is_open}
use Rattle.amqp_engine.specs.State.{State, queueing, failing, closing, close_frame, error_for, beating, opened, open_frame, limited, IsFramed}

-- a frame above the limit of what is written, or one that has no bytes
abbrev pub IsTooLarge : ℕ → Frame → Type 0
IsTooLarge limit x = (limit < 8 + length (amqp_bytes x)) ⊎ ((2 ^ 32 ≤ 8 + length (amqp_bytes x)) ⊎ amqp_oversized x)

-- Open is queued whole, in a frame that spells it (part 2, section 2.3), or nothing is and the transport comes back
abbrev pub OpensTo : {L : Type 0} → Wire L → EndKind → Result (State L) (Error × Wire L) → Type 0
OpensTo w end (Ok s) = (IsTooLarge 512 (open_frame end) → ⊥) × (s ≡ opened w end) × IsFramed (open_frame end)
OpensTo w end (Err (error.Memory a, back)) = back ≡ limited w 512 512
OpensTo w end (Err (error.TransportError fault.FramingError, back)) = IsTooLarge 512 (open_frame end) × (back ≡ limited w 512 512)
OpensTo w end (Err (e, back)) = ⊥

-- A frame is queued whole and spells what it holds (part 2, section 2.3), and then the engine is so and answers so. Want of memory
-- changes nothing; a frame that is too large ends the engine.
abbrev pub Puts : {L A : Type 0} → State L → Frame → State L → A → Result A Error → State L → Type 0
Puts old x after value (Ok v) new = (v ≡ value) × (IsTooLarge old.wire.codec.encoder x → ⊥) × (new ≡ after) × IsFramed x
Puts old x after value (Err (error.Memory a)) new = new ≡ old
Puts old x after value (Err (error.TransportError fault.FramingError)) new = IsTooLarge old.wire.codec.encoder x × (new ≡ failing old)
Puts old x after value (Err e) new = ⊥

-- want of memory changes nothing, and another error of the transport ends the engine
abbrev pub failing_by : {L : Type 0} → TransportFault → State L → State L
failing_by (fault.Memory a) s = s
failing_by e s = failing s

abbrev pub IsMemory : {A : Type 0} → Result A Error → Type 0
IsMemory (Err (error.Memory a)) = Unit {0}
IsMemory result = ⊥

-- what is done where the transport gives this
abbrev pub After : {L : Type 0} → ℕ → State L → Result (Next Frame) TransportFault → Result EngineStep Error → State L → Type 0
After at s (Ok (next.Frame x)) result new = (result ≡ answer_to s.phase s x) × (new ≡ received s.phase at s x)
After at s (Ok next.Pending) result new = (result ≡ Ok step.Pending) × (new ≡ s)
After at s (Ok next.Ended) result new = (result ≡ Err (error.TransportError (fault.Io End))) × (new ≡ failing s)
After at s (Err e) result new = (result ≡ Err (error_of e)) × (new ≡ failing_by e s)

-- the transport is asked for a frame
pub record Reads {L : Type 0} (link : Ghosts L) (at : ℕ) (old : State L) (result : Result EngineStep Error) (new : State L) : Type 0 where
  pub answer : Result (Next Frame) TransportFault
  pub wire : Wire L
  pub polled : Polled link 0 amqp_spells old.wire at answer wire
  pub joined : Grew link 0 amqp_spells old.wire at answer wire
  pub does : After at (record old { wire = wire }) answer result new

-- the same, or memory for the frame was wanting before
abbrev pub ReadsOrWants : {L : Type 0} → Ghosts L → ℕ → State L → Result EngineStep Error → State L → Type 0
ReadsOrWants link at old result new = Reads link at old result new ⊎ (IsMemory result × (new ≡ old))

-- while the connection is open: the beat that is due, or at most one frame
abbrev pub Works : {L : Type 0} → Ghosts L → ℕ → State L → Result EngineStep Error → State L → Type 0
Works link at old result new =
    (IsDue old.beat at × Puts old no_frame (beating old no_frame at) step.Worked result new) ⊎ ((IsDue old.beat at → ⊥) × ReadsOrWants link at old result new)

-- a Close that is owed without an error
abbrev pub Answers : {L : Type 0} → State L → Result EngineStep Error → State L → Type 0
Answers old result new = Puts old (close_frame None) (record (queueing old (close_frame None)) { phase = p.Ended }) step.Worked result new

-- a Close that is owed with the error of a rejection; memory for it may be wanting before
abbrev pub Rejects : {L : Type 0} → State L → Rejection → Result EngineStep Error → State L → Type 0
Rejects old why result new = Puts old (close_frame (Some (error_for why))) (closing old (Some (error_for why))) step.Worked result new ⊎ (IsMemory result × (new ≡ old))

-- what is done in that phase
abbrev pub Acts : {L : Type 0} → Phase → Ghosts L → ℕ → State L → Result EngineStep Error → State L → Type 0
Acts p.OpenSent link at old result new = Reads link at old result new
Acts p.Opened link at old result new = Works link at old result new
Acts p.CloseReceived link at old result new = Answers old result new
Acts p.Refused link at old result new = Answers old result new
Acts (p.Rejected why) link at old result new = Rejects old why result new
Acts p.CloseSent link at old result new = Reads link at old result new
Acts p.Discarding link at old result new = Reads link at old result new
Acts p.Ended link at old result new = (result ≡ Ok step.Stopped) × (new ≡ old)
Acts p.Failed link at old result new = (result ≡ Ok step.Stopped) × (new ≡ old)

-- what is done where the transport's flush answers this
abbrev pub AfterFlush : {L : Type 0} → State L → Result Flush TransportFault → Result Flush Error → State L → Type 0
AfterFlush s (Ok f) result new = (result ≡ Ok f) × (new ≡ s)
AfterFlush s (Err e) result new = (result ≡ Err (error_of e)) × (new ≡ failing_by e s)

-- what is queued is written
pub record Writes {L : Type 0} (link : Ghosts L) (old : State L) (result : Result Flush Error) (new : State L) : Type 0 where
  pub answer : Result Flush TransportFault
  pub wire : Wire L
  pub flushed : FlushedTo link old.wire answer wire
  pub does : AfterFlush (record old { wire = wire }) answer result new

-- after a failure nothing is written
abbrev pub FlushesIf : {L : Type 0} → Bool → Ghosts L → State L → Result Flush Error → State L → Type 0
FlushesIf true link old result new = (result ≡ Ok flush.Empty) × (new ≡ old)
FlushesIf false link old result new = Writes link old result new

abbrev pub Flushes : {L : Type 0} → Ghosts L → State L → Result Flush Error → State L → Type 0
Flushes link old result new = FlushesIf (has_failed old.phase) link old result new

-- what follows the flush of a step
abbrev pub ThenActs : {L : Type 0} → Ghosts L → ℕ → Result Flush Error → State L → Result EngineStep Error → State L → Type 0
ThenActs link at (Ok f) mid result new = Acts mid.phase link at mid result new
ThenActs link at (Err e) mid result new = (result ≡ Err e) × (new ≡ mid)

-- what is queued is written, and then one thing is done
pub record Steps {L : Type 0} (link : Ghosts L) (at : ℕ) (old : State L) (result : Result EngineStep Error) (new : State L) : Type 0 where
  pub mid : State L
  pub flush : Result Flush Error
  pub flushes : Flushes link old flush mid
  pub acts : ThenActs link at flush mid result new

-- a frame is queued where the connection is open, else nothing changes
abbrev pub SendsIf : {L : Type 0} → Bool → State L → Frame → State L → Result Unit Error → State L → Type 0
SendsIf true old x after result new = Puts old x after tt result new
SendsIf false old x after result new = (result ≡ Err error.IllegalState) × (new ≡ old)

abbrev pub Sends : {L : Type 0} → State L → Frame → State L → Result Unit Error → State L → Type 0
Sends old x after result new = SendsIf (is_open old.phase) old x after result new

-- the channels change, and nothing else
abbrev pub with_channels : {L : Type 0} → State L → Channels → State L
with_channels s c = record s { channels = c }

-- the first session frame that waits is taken off
pub record Takes {L : Type 0} (old : State L) (result : Option Frame) (new : State L) : Type 0 where
  pub channels : TakesFrame old.channels result new.channels
  pub rest : new ≡ with_channels old new.channels

-- the first session that the peer asks for is taken off
pub record TakesAsked {L : Type 0} (old : State L) (result : Option IncomingSession) (new : State L) : Type 0 where
  pub channels : TakesSession old.channels result new.channels
  pub rest : new ≡ with_channels old new.channels

-- the first channel that no session has is taken, unless it is above the highest
abbrev pub Allocates : {L : Type 0} → State L → Result ℕ AllocSessionError → State L → Type 0
Allocates old (Ok channel) new = (channel ≡ first_free old.channels.seats) × (channel ≤ old.settings.channel_max) × (new ≡ with_channels old (record old.channels { seats = seat_taken old.channels.seats channel }))
Allocates old (Err alloc.ChannelMaxReached) new = (old.settings.channel_max < first_free old.channels.seats) × (new ≡ old)
Allocates old (Err (alloc.Memory a)) new = new ≡ old

-- a channel is free again
abbrev pub freed : {L : Type 0} → State L → ℕ → State L
freed s channel = with_channels s (seat_freed channel s.channels)

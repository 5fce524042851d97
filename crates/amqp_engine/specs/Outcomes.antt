-- What an answer says of its call.
use Rattle.std.specs.Prelude.{◌≡◌, ◌≤◌, ◌+◌, ◌⊎◌, ℕ, List, [], ◌∷◌, length, Bool, true, false, Option, Result, Ok, Err, ⊤}
use Rattle.amqp_wire.specs.declared.link.Link.{Ghosts}
use Rattle.amqp_wire.specs.declared.link.Stop.TheVariants.{Empty}
use Rattle.amqp_wire.specs.declared.link.Held.TheVariants.{Full}
use Rattle.amqp_wire.specs.Events.{LinkEvent, NotRead, NotWritten, Includes, reads_in}
use Rattle.amqp_composites.specs.declared.error.Error.{Error as AmqpError}
use Rattle.amqp_transport.specs.declared.frames.Frame.{Frame}
use Rattle.amqp_transport.specs.declared.transport.Error.TheVariants as fault
use Rattle.amqp_transport.specs.Causes.{IsLast}
use Rattle.amqp_transport.specs.Clocks.{IsDue, HasElapsed}
use Rattle.amqp_engine.specs.declared.engine.EngineStep.{EngineStep}
use Rattle.amqp_engine.specs.declared.engine.EngineStep.TheVariants as step
use Rattle.amqp_engine.specs.declared.error.Error.{Error}
use Rattle.amqp_engine.specs.declared.error.Error.TheVariants as error
use Rattle.amqp_engine.specs.declared.phase.Phase.{Phase}
use Rattle.amqp_engine.specs.declared.phase.Phase.TheVariants as p
use Rattle.amqp_engine.specs.declared.phase.Rejection.{Rejection}
use Rattle.amqp_transport.specs.amqp_frames.Session.{of_session}
use Rattle.amqp_engine.specs.declared.sessions.Plan.{Plan}
use Rattle.amqp_engine.specs.Channels.{Channels, taken_in}
use Rattle.amqp_engine.specs.Machine.{plan_of, phase_after}
use Rattle.amqp_engine.specs.Phases.{is_stopped, has_failed, is_open, hears}
use Rattle.amqp_engine.specs.Plans.{rejection_told}
use Rattle.amqp_engine.specs.State.{State, failing, closing, close_frame}
use Rattle.amqp_engine.specs.Calls.{IsTooLarge}
use Rattle.amqp_engine.specs.Sentence.{Ran, IsCalm}
use Rattle.amqp_engine.specs.Faults.{IsFault, AllOwed}
use Rattle.amqp_engine.specs.Beats.{IsBeat}
use Rattle.amqp_engine.specs.Closers.{KeepsCloser}

-- what was queued was written as far as the link took it, unless the transport failed before
abbrev pub IsWritten : Phase → List LinkEvent → List ℕ → Type 0
IsWritten phase events output = (has_failed phase ≡ true) ⊎ (Includes events (NotWritten Full) ⊎ (output ≡ []))

-- nothing is there: no heartbeat was due, the idle time had not passed, and at last a read found the link empty
pub record HasWaited {L : Type 0} (at : ℕ) (old : State L) (events : List LinkEvent) (new : State L) : Type 0 where
  pub last : IsLast events (NotRead Empty)
  pub found : Includes events (NotRead Empty)
  pub written : Includes events (NotWritten Full) ⊎ (new.wire.codec.output ≡ [])
  pub phase : new.phase ≡ old.phase
  pub live : is_stopped new.phase ≡ false
  pub undue : old.phase ≡ p.Opened → IsDue old.beat at → ⊥
  pub still : new.beat ≡ old.beat
  pub unelapsed : HasElapsed new.wire.clock at → ⊥

-- the connection had stopped before
pub record HasRested {L : Type 0} (old : State L) (events : List LinkEvent) (new : State L) : Type 0 where
  pub stopped : is_stopped new.phase ≡ true
  pub phase : new.phase ≡ old.phase
  pub written : IsWritten new.phase events new.wire.codec.output

-- a frame that was read calls for a Close, and this is told: in place of the peer's Open, or while the connection is open
abbrev pub IsRefusal : Phase → Error → Phase → Type 0
IsRefusal p.OpenSent e next = (e ≡ error.IllegalState) × (next ≡ p.Refused)
IsRefusal p.Opened e next = (why : Rejection) × (e ≡ rejection_told why) × (next ≡ p.Rejected why)
IsRefusal phase e next = ⊥

-- a frame was given or queued
abbrev pub HasWorked : List Frame → List Frame → Type 0
HasWorked given queued = 1 ≤ length given + length queued

-- The phase after a step that worked: the peer's Open came, or its Close in place of it; from there on the connection has not failed.
-- Where it had stopped, no step works.
abbrev pub IsOnward : Phase → Phase → Type 0
IsOnward p.OpenSent next = (next ≡ p.Opened) ⊎ (next ≡ p.CloseReceived)
IsOnward p.Ended next = ⊥
IsOnward p.Failed next = ⊥
IsOnward phase next = has_failed next ≡ false

-- a frame was given or queued; where one was given, all that was queued was written before, as far as the link took it
pub record HasGoneOn {L : Type 0} (old : State L) (events : List LinkEvent) (given queued : List Frame) (new : State L) : Type 0 where
  pub worked : HasWorked given queued
  pub onward : IsOnward old.phase new.phase
  pub written : 1 ≤ length given → IsWritten new.phase events new.wire.codec.output

-- what the answer of a step says: nothing where memory was wanting
abbrev pub IsTold : {L : Type 0} → ℕ → State L → List LinkEvent → List Frame → List Frame → Result EngineStep Error → State L → Type 0
IsTold at old events given queued (Ok step.Worked) new = HasGoneOn old events given queued new
IsTold at old events given queued (Ok step.Pending) new = HasWaited at old events new
IsTold at old events given queued (Ok step.Stopped) new = HasRested old events new
IsTold at old events given queued (Err (error.Memory a)) new = ⊤
IsTold at old events given queued (Err (error.TransportError e)) new = (has_failed new.phase ≡ true) × (IsCalm old → IsFault at old events e) × (given ≡ [])
IsTold at old events given queued (Err error.IllegalState) new = HasWorked given queued × IsRefusal old.phase error.IllegalState new.phase
IsTold at old events given queued (Err error.NotImplemented) new = HasWorked given queued × IsRefusal old.phase error.NotImplemented new.phase
IsTold at old events given queued (Err error.NotFound) new = HasWorked given queued × IsRefusal old.phase error.NotFound new.phase
IsTold at old events given queued (Err error.RemoteClosed) new = ⊥
IsTold at old events given queued (Err (error.RemoteClosedWithError e)) new = ⊥

-- at most one frame was given, and the idle time starts anew with it
abbrev pub IsMoment : {L : Type 0} → ℕ → State L → List Frame → State L → Type 0
IsMoment at old given new = ((given ≡ []) × (new.wire.clock.since ≡ old.wire.clock.since)) ⊎ ((x : Frame) × (given ≡ x ∷ []) × (new.wire.clock.since ≡ at))

-- what a frame that was read makes of the channels: one of a session is taken in as is planned while the connection is open
abbrev pub channels_by : Bool → Bool → Plan → Channels → Frame → Channels
channels_by true true plan c x = taken_in plan c x
channels_by true false plan c x = c
channels_by false session plan c x = c

-- and of the phase where it is one of a session and the connection is open
pub record IsAdmitted {L : Type 0} (old : State L) (x : Frame) (new : State L) : Type 0 where
  pub channels : new.channels ≡ channels_by (is_open old.phase) (of_session x.body) (plan_of old x) old.channels x
  pub phase : is_open old.phase ≡ true → of_session x.body ≡ true → new.phase ≡ phase_after (plan_of old x) old.phase
  pub opening : is_open old.phase ≡ false → hears new.phase ≡ true → of_session x.body ≡ false

-- what a step makes of the channels, by the frame that was given in it
abbrev pub IsHanded : {L : Type 0} → State L → List Frame → State L → Type 0
IsHanded old [] new = new.channels ≡ old.channels
IsHanded old (x ∷ []) new = IsAdmitted old x new
IsHanded old (x ∷ y ∷ xs) new = ⊥

-- the answer tells of no work
abbrev pub IsIdle : Result EngineStep Error → Type 0
IsIdle (Ok step.Worked) = ⊥
IsIdle (Ok step.Pending) = ⊤
IsIdle (Ok step.Stopped) = ⊤
IsIdle (Err e) = ⊥

-- a run of one step, with what its answer says; the bytes that reads gave are told as one event at most, what is queued was owed, and an
-- empty frame by a beat that is due; and it is kept whose Close came first
pub record Stepped {L : Type 0} (link : Ghosts L) (at : ℕ) (old : State L) (result : Result EngineStep Error) (new : State L) : Type 0 where
  pub run : Ran link old new
  pub few : reads_in run.events ≤ 1
  pub moment : IsMoment at old run.given new
  pub told : IsTold at old run.events run.given run.queued result new
  pub owed : AllOwed old.phase run.queued
  pub beat : IsBeat at old run.given run.queued new
  pub closer : KeepsCloser old run.given run.queued new
  pub handed : IsHanded old run.given new
  pub listens : hears new.phase ≡ true → hears old.phase ≡ true
  pub idles : IsIdle result → run.given ≡ []

-- what the answer of a close says: a Close is queued, or nothing is
abbrev pub IsClosedBy : {L : Type 0} → State L → Option AmqpError → List Frame → Result Unit Error → State L → Type 0
IsClosedBy old y queued (Ok u) new = (queued ≡ close_frame y ∷ []) × (new ≡ closing old y) × (old.phase ≡ p.Opened)
IsClosedBy old y queued (Err (error.Memory a)) new = (queued ≡ []) × (new ≡ old)
IsClosedBy old y queued (Err error.IllegalState) new = (queued ≡ []) × (is_open old.phase ≡ false) × (new ≡ old)
IsClosedBy old y queued (Err (error.TransportError fault.FramingError)) new = (queued ≡ []) × IsTooLarge old.wire.codec.encoder (close_frame y) × (new ≡ failing old)
IsClosedBy old y queued (Err e) new = ⊥

-- a run of one close, in which nothing passed at the link, with what its answer says
pub record HasClosed {L : Type 0} (link : Ghosts L) (old : State L) (y : Option AmqpError) (result : Result Unit Error) (new : State L) : Type 0 where
  pub run : Ran link old new
  pub silent : run.events ≡ []
  pub none : run.given ≡ []
  pub told : IsClosedBy old y run.queued result new

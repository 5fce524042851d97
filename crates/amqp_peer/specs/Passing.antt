-- What an end tells the sessions above its connection, and what it does for them (OASIS AMQP 1.0, part 2, sections 2.4 and 2.5).
use Rattle.std.specs.Prelude.{◌≡◌, ◌⊎◌, ℕ, Bool, true, false, Option, None, Result}
use Rattle.amqp_frames.specs.declared.shared.ConnectionState.{ConnectionState}
use Rattle.amqp_frames.specs.declared.shared.ConnectionState.TheVariants as state
use Rattle.amqp_frames.specs.declared.shared.IncomingSession.{IncomingSession}
use Rattle.amqp_transport.specs.declared.frames.Frame.{Frame}
use Rattle.amqp_transport.specs.declared.transport.Error.TheVariants.{FramingError}
use Rattle.amqp_engine.specs.declared.error.AllocSessionError.{AllocSessionError}
use Rattle.amqp_engine.specs.declared.error.Error.{Error as ConnectionFault}
use Rattle.amqp_engine.specs.declared.error.Error.TheVariants.{TransportError}
use Rattle.amqp_engine.specs.Calls.{Takes, TakesAsked, Allocates, Sends, IsTooLarge, freed}
use Rattle.amqp_engine.specs.Channels.{first_of}
use Rattle.amqp_engine.specs.Phases.{is_open, state_of}
use Rattle.amqp_engine.specs.State.{State, IsFramed, sending, failing}
use Rattle.amqp_peer.specs.declared.held.Held.{Held}
use Rattle.amqp_peer.specs.declared.held.Held.TheVariants.{Early, Late, Unopened, Moving}
use Rattle.amqp_peer.specs.Peering.{Peering}
use Rattle.amqp_peer.specs.Runs.{first_fault}

-- ---- what holds the link

-- the state Opened of the standard: both ends have sent their Open, and no Close was queued or read (part 2, section 2.4.6)
abbrev pub is_opened_state : ConnectionState → Bool
is_opened_state state.Opened = true
is_opened_state other = false

abbrev pub is_opened : {L : Type 0} → Held L → Bool
is_opened (Early o p) = false
is_opened (Late s) = is_opened_state (state_of s.phase)
is_opened (Unopened c) = false
is_opened Moving = false

-- the largest frame that may be written, in bytes: 512 before the connection has begun (part 2, section 2.4.1)
abbrev pub largest_written : {L : Type 0} → Held L → ℕ
largest_written (Early o p) = 512
largest_written (Late s) = s.settings.largest_written
largest_written (Unopened c) = 512
largest_written Moving = 512

-- the first session that the peer asks for and that waits
abbrev pub asked_first : {L : Type 0} → Held L → Option IncomingSession
asked_first (Early o p) = None
asked_first (Late s) = first_of s.channels.begun
asked_first (Unopened c) = None
asked_first Moving = None

-- the first session frame that waits is taken off; there is none where the connection has not begun
abbrev pub TakesIncoming : {L : Type 0} → Held L → Option Frame → Held L → Type 0
TakesIncoming (Early o p) x new = (x ≡ None) × (new ≡ Early o p)
TakesIncoming {L} (Late s) x new = (s' : State L) × (new ≡ Late s') × Takes s x s'
TakesIncoming (Unopened c) x new = (x ≡ None) × (new ≡ Unopened c)
TakesIncoming Moving x new = (x ≡ None) × (new ≡ Moving)

-- the first session that the peer asks for is taken off; there is none where the connection has not begun
abbrev pub TakesSession : {L : Type 0} → Held L → Option IncomingSession → Held L → Type 0
TakesSession (Early o p) x new = (x ≡ None) × (new ≡ Early o p)
TakesSession {L} (Late s) x new = (s' : State L) × (new ≡ Late s') × TakesAsked s x s'
TakesSession (Unopened c) x new = (x ≡ None) × (new ≡ Unopened c)
TakesSession Moving x new = (x ≡ None) × (new ≡ Moving)

-- the first channel that no session has is taken, or none is
abbrev pub AllocatesLate : {L : Type 0} → Held L → Result ℕ AllocSessionError → Held L → Type 0
AllocatesLate (Early o p) result new = ⊥
AllocatesLate {L} (Late s) result new = (s' : State L) × (new ≡ Late s') × Allocates s result s'
AllocatesLate (Unopened c) result new = ⊥
AllocatesLate Moving result new = ⊥

-- a channel is free again; none was taken where the connection has not begun
abbrev pub freed_in : {L : Type 0} → Held L → ℕ → Held L
freed_in (Early o p) channel = Early o p
freed_in (Late s) channel = Late (freed s channel)
freed_in (Unopened c) channel = Unopened c
freed_in Moving channel = Moving

-- a frame of a session was queued, or not
abbrev pub SendsLate : {L : Type 0} → Frame → Held L → Result Unit ConnectionFault → Held L → Type 0
SendsLate x (Early o p) result new = ⊥
SendsLate {L} x (Late s) result new = (s' : State L) × (new ≡ Late s') × Sends s x (sending s x) result s'
SendsLate x (Unopened c) result new = ⊥
SendsLate x Moving result new = ⊥

-- ---- the end

-- all but what holds the link stays
abbrev pub IsHeldAlone : {L : Type 0} → Peering L → Peering L → Type 0
IsHeldAlone old new = new ≡ record old { held = new.held }

-- a frame is queued whole, behind all that was, and spells what it holds (part 2, section 2.3)
pub record IsPassed {L : Type 0} (s : State L) (x : Frame) (old new : Peering L) : Type 0 where
  pub fits : IsTooLarge s.wire.codec.encoder x → ⊥
  pub framed : IsFramed x
  pub is : new ≡ record old { held = Late (sending s x) }

-- it is too large for the peer: nothing is queued, the connection has stopped, and that is kept as the fault where none was before
pub record IsUnpassable {L : Type 0} (s : State L) (x : Frame) (old new : Peering L) : Type 0 where
  pub large : IsTooLarge s.wire.codec.encoder x
  pub is : new ≡ record old { held = Late (failing s); fault = first_fault old.fault (TransportError FramingError) }

-- where the connection is not open the frame is let go, and nothing changes
abbrev pub PassesIf : {L : Type 0} → Bool → State L → Frame → Peering L → Peering L → Type 0
PassesIf true s x old new = IsPassed s x old new ⊎ IsUnpassable s x old new
PassesIf false s x old new = new ≡ old

abbrev pub PassesLate : {L : Type 0} → Held L → Frame → Peering L → Peering L → Type 0
PassesLate (Early o p) x old new = ⊥
PassesLate (Late s) x old new = PassesIf (is_open s.phase) s x old new
PassesLate (Unopened c) x old new = ⊥
PassesLate Moving x old new = ⊥

-- a frame of a session was given to the connection, which has begun
abbrev pub Passes : {L : Type 0} → Frame → Peering L → Peering L → Type 0
Passes x old new = PassesLate old.held x old new

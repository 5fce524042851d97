-- What an end holds its link with.
use Rattle.std.specs.Prelude.{◌≡◌, ℕ, [], Bool, true, false, Option, Some, None, Result, Ok, Err, ⊤}
use Rattle.amqp_wire.specs.declared.link.Link.{Ghosts}
use Rattle.amqp_wire.specs.Codec.{Codec}
use Rattle.amqp_composites.specs.declared.error.Error.{Error as AmqpError}
use Rattle.amqp_frames.specs.declared.shared.ConnectionState.{ConnectionState}
use Rattle.amqp_frames.specs.declared.shared.ConnectionState.TheVariants as state
use Rattle.amqp_frames.specs.declared.shared.ConnectionStopReason.{ConnectionStopReason}
use Rattle.amqp_transport.specs.Clocks.{IsDue, HasElapsed}
use Rattle.amqp_transport.specs.Stream.{IsPart}
use Rattle.amqp_transport.specs.Wire.{Wire, idle_of}
use Rattle.sasl_gate.specs.declared.gate.negotiation.Phase.TheVariants.{Header as HeaderPhase}
use Rattle.amqp_opening.specs.declared.authentication.Authentication.{Authentication}
use Rattle.amqp_opening.specs.declared.authentication.Authentication.TheVariants.{Idle as IdleExchange}
use Rattle.amqp_opening.specs.declared.opening.OpeningPoll.{OpeningPoll}
use Rattle.amqp_opening.specs.declared.opening.Stage.{Stage}
use Rattle.amqp_opening.specs.declared.opening.Stage.TheVariants.{Idle, Negotiating, Header, Exchanged, Ended}
use Rattle.amqp_opening.specs.Authentication.{peer_mechanism}
use Rattle.amqp_opening.specs.Opening.{Opened, begun as begun_with, begun_plain, IsUnderWay, IsAtRest, Ran as OpeningRan}
use Rattle.amqp_engine.specs.declared.engine.EngineStep.{EngineStep}
use Rattle.amqp_engine.specs.declared.error.Error.{Error as ConnectionFault}
use Rattle.amqp_engine.specs.declared.phase.Phase.{Phase}
use Rattle.amqp_engine.specs.declared.phase.Phase.TheVariants as p
use Rattle.amqp_engine.specs.Calls.{OpensTo, Steps}
use Rattle.amqp_engine.specs.Outcomes.{Stepped, HasClosed}
use Rattle.amqp_engine.specs.Phases.{state_of, is_stopped, has_failed}
use Rattle.amqp_engine.specs.State.{State, stop_reason_of}
use Rattle.amqp_peer.specs.declared.held.Held.{Held}
use Rattle.amqp_peer.specs.declared.held.Held.TheVariants.{Early, Late, Unopened, Moving}
use Rattle.amqp_peer.specs.declared.prepared.Prepared.{Prepared}
use Rattle.amqp_words.specs.declared.call.Call.{Call}
use Rattle.amqp_words.specs.declared.call.Call.TheVariants.{Open, Accept, Close}

-- the link is not on its way
abbrev pub IsThere : {L : Type 0} → Held L → Type 0
IsThere (Early o p) = ⊤
IsThere (Late s) = ⊤
IsThere (Unopened c) = ⊤
IsThere Moving = ⊥

-- the connection has not begun
abbrev pub IsEarly : {L : Type 0} → Held L → Type 0
IsEarly (Early o p) = ⊤
IsEarly (Late s) = ⊥
IsEarly (Unopened c) = ⊥
IsEarly Moving = ⊥

-- the connection has begun
abbrev pub IsLate : {L : Type 0} → Held L → Type 0
IsLate (Early o p) = ⊥
IsLate (Late s) = ⊤
IsLate (Unopened c) = ⊥
IsLate Moving = ⊥

-- a call fits what is held: an open or accept where nothing began, a close where the connection did
abbrev pub FitsCall : {L : Type 0} → Call → Held L → Type 0
FitsCall (Open settings host sasl) held = IsEarly held
FitsCall (Accept settings sasl) held = IsEarly held
FitsCall (Close error) held = IsLate held

-- the headers are being exchanged
abbrev pub IsReadyWith : {L : Type 0} → Opened L Authentication → Option Prepared → Type 0
IsReadyWith o None = ⊥
IsReadyWith o (Some p) = IsUnderWay o.stage

abbrev pub IsReady : {L : Type 0} → Held L → Type 0
IsReady (Early o p) = IsReadyWith o p
IsReady (Late s) = ⊥
IsReady (Unopened c) = ⊥
IsReady Moving = ⊥

-- the headers are exchanged, and it is known with what the connection begins
abbrev pub IsExchangedWith : {L : Type 0} → Opened L Authentication → Option Prepared → Type 0
IsExchangedWith o None = ⊥
IsExchangedWith o (Some p) = o.stage ≡ Exchanged

abbrev pub IsExchanged : {L : Type 0} → Held L → Type 0
IsExchanged (Early o p) = IsExchangedWith o p
IsExchanged (Late s) = ⊥
IsExchanged (Unopened c) = ⊥
IsExchanged Moving = ⊥

-- the headers are being exchanged, or are, and the connection has not begun
abbrev pub IsMidway : Stage → Type 0
IsMidway Idle = ⊥
IsMidway Negotiating = ⊤
IsMidway Header = ⊤
IsMidway Exchanged = ⊤
IsMidway Ended = ⊥

abbrev pub IsBusyWith : {L : Type 0} → Opened L Authentication → Option Prepared → Type 0
IsBusyWith o None = ⊥
IsBusyWith o (Some p) = IsMidway o.stage

abbrev pub IsBusy : {L : Type 0} → Held L → Type 0
IsBusy (Early o p) = IsBusyWith o p
IsBusy (Late s) = ⊥
IsBusy (Unopened c) = ⊥
IsBusy Moving = ⊥

-- the headers are being exchanged, or the connection has begun and not stopped
abbrev pub IsActive : {L : Type 0} → Held L → Type 0
IsActive (Early o p) = IsReadyWith o p
IsActive (Late s) = is_stopped s.phase ≡ false
IsActive (Unopened c) = ⊥
IsActive Moving = ⊥

-- the connection has begun and stopped
abbrev pub IsStopped : {L : Type 0} → Held L → Type 0
IsStopped (Early o p) = ⊥
IsStopped (Late s) = is_stopped s.phase ≡ true
IsStopped (Unopened c) = ⊥
IsStopped Moving = ⊥

-- the connection has begun, and its transport has not failed
abbrev pub IsSound : {L : Type 0} → Held L → Type 0
IsSound (Early o p) = ⊥
IsSound (Late s) = has_failed s.phase ≡ false
IsSound (Unopened c) = ⊥
IsSound Moving = ⊥

-- the connection goes on with a frame of the peer's alone: no Close is owed, and it has not stopped (part 2, section 2.4.6)
abbrev pub IsAwaiting : Phase → Type 0
IsAwaiting p.OpenSent = ⊤
IsAwaiting p.Opened = ⊤
IsAwaiting p.CloseReceived = ⊥
IsAwaiting p.Refused = ⊥
IsAwaiting (p.Rejected why) = ⊥
IsAwaiting p.CloseSent = ⊤
IsAwaiting p.Discarding = ⊤
IsAwaiting p.Ended = ⊥
IsAwaiting p.Failed = ⊥

-- the connection says no more but a Close, if it has not queued it: one is queued or owed, or it has stopped (part 2, section 2.4.6)
abbrev pub IsLeaving : Phase → Type 0
IsLeaving p.OpenSent = ⊥
IsLeaving p.Opened = ⊥
IsLeaving p.CloseReceived = ⊤
IsLeaving p.Refused = ⊤
IsLeaving (p.Rejected why) = ⊤
IsLeaving p.CloseSent = ⊤
IsLeaving p.Discarding = ⊤
IsLeaving p.Ended = ⊤
IsLeaving p.Failed = ⊤

abbrev pub IsLeavingIn : {L : Type 0} → Held L → Type 0
IsLeavingIn (Early o p) = ⊥
IsLeavingIn (Late s) = IsLeaving s.phase
IsLeavingIn (Unopened c) = ⊥
IsLeavingIn Moving = ⊥

-- a connection that can do no more at this moment: what it read last is no whole frame, a frame is awaited, no beat is due while it is
-- open, and the idle time has not passed (part 2, section 2.4.5)
pub record IsAtRestIn {L : Type 0} (at : ℕ) (s : State L) : Type 0 where
  pub part : IsPart s.wire.codec.input
  pub awaits : IsAwaiting s.phase
  pub undue : s.phase ≡ p.Opened → IsDue s.beat at → ⊥
  pub unelapsed : HasElapsed s.wire.clock at → ⊥

-- what is read next is not there whole: of the exchange of headers, or a frame of a connection that has begun and can do no more at
-- this moment, and all that it queued is written
abbrev pub IsSorted : {L : Type 0} → ℕ → Held L → Type 0
IsSorted at (Early o p) = IsAtRest peer_mechanism o
IsSorted at (Late s) = IsAtRestIn at s × (s.wire.codec.output ≡ [])
IsSorted at (Unopened c) = ⊤
IsSorted at Moving = ⊤

-- the link that is held, or another where it is on its way
abbrev pub link_at : {L : Type 0} → L → Held L → L
link_at d (Early o p) = o.negotiation.codec.link
link_at d (Late s) = s.wire.codec.link
link_at d (Unopened c) = c.link
link_at d Moving = d

-- the same with another link; where it is on its way, a codec with that link alone
abbrev pub with_link : {L : Type 0} → Held L → L → Held L
with_link (Early o p) w = Early (record o { negotiation = record o.negotiation { codec = record o.negotiation.codec { link = w } } }) p
with_link (Late s) w = Late (record s { wire = record s.wire { codec = record s.wire.codec { link = w } } })
with_link (Unopened c) w = Unopened (record c { link = w })
with_link Moving w = Unopened (record { link = w; input = []; output = []; decoder = 512; encoder = 512 })

-- a link with which nothing was done
abbrev pub nothing_held : {L : Type 0} → L → Held L
nothing_held link = Early (record {
  negotiation = record { codec = record { link = link; input = []; output = []; decoder = 512; encoder = 512 }; phase = HeaderPhase; exchange = IdleExchange };
  stage = Idle;
  has_sasl = false;
}) None

-- the exchange of headers began with a SASL layer
abbrev pub BeganWith : {L : Type 0} → Held L → Authentication → Prepared → Held L → Type 0
BeganWith (Early o p) x prepared new = new ≡ Early (begun_with o x) (Some prepared)
BeganWith (Late s) x prepared new = ⊥
BeganWith (Unopened c) x prepared new = ⊥
BeganWith Moving x prepared new = ⊥

-- the exchange of headers began without one
abbrev pub BeganPlain : {L : Type 0} → Held L → Prepared → Held L → Type 0
BeganPlain (Early o p) prepared new = new ≡ Early (begun_plain o) (Some prepared)
BeganPlain (Late s) prepared new = ⊥
BeganPlain (Unopened c) prepared new = ⊥
BeganPlain Moving prepared new = ⊥

-- the exchange of headers ended
abbrev pub EndedEarly : {L : Type 0} → Held L → Held L → Type 0
EndedEarly (Early o p) new = new ≡ Early (record o { stage = Ended }) p
EndedEarly (Late s) new = ⊥
EndedEarly (Unopened c) new = ⊥
EndedEarly Moving new = ⊥

-- the exchange of headers went on
abbrev pub RanEarly : {L E : Type 0} → Ghosts L → Held L → ℕ → Result OpeningPoll E → Held L → ℕ → Type 0
RanEarly {L} link (Early o p) left result new left' = (o' : Opened L Authentication) × (new ≡ Early o' p) × OpeningRan link peer_mechanism o left result o' left'
RanEarly link (Late s) left result new left' = ⊥
RanEarly link (Unopened c) left result new left' = ⊥
RanEarly link Moving left result new left' = ⊥

-- the transport over the codec of an opening, which begins at that moment
abbrev pub bound : {L : Type 0} → Codec L → Option ℕ → ℕ → Wire L
bound c idle at = record { codec = c; clock = record { idle = idle_of idle; since = at }; kept = None }

-- the connection began, or its Open was too large
abbrev pub IsConnecting : {L : Type 0} → Wire L → Prepared → Result Unit ConnectionFault → Held L → Type 0
IsConnecting {L} w p (Ok u) new = (s : State L) × (new ≡ Late s) × OpensTo w p.end (Ok s)
IsConnecting {L} w p (Err e) new = (back : Wire L) × (new ≡ Unopened back.codec) × OpensTo {L = L} w p.end (Err (e, back))

abbrev pub ConnectedWith : {L : Type 0} → Opened L Authentication → Option Prepared → ℕ → Result Unit ConnectionFault → Held L → Type 0
ConnectedWith o None at result new = ⊥
ConnectedWith o (Some p) at result new = IsConnecting (bound o.negotiation.codec p.idle at) p result new

abbrev pub Connected : {L : Type 0} → Held L → ℕ → Result Unit ConnectionFault → Held L → Type 0
Connected (Early o p) at result new = ConnectedWith o p at result new
Connected (Late s) at result new = ⊥
Connected (Unopened c) at result new = ⊥
Connected Moving at result new = ⊥

-- one step of the connection
abbrev pub SteppedLate : {L : Type 0} → Ghosts L → ℕ → Held L → Result EngineStep ConnectionFault → Held L → Type 0
SteppedLate link at (Early o p) result new = ⊥
SteppedLate {L} link at (Late s) result new = (s' : State L) × (new ≡ Late s') × Stepped link at s result s' × Steps link at s result s'
SteppedLate link at (Unopened c) result new = ⊥
SteppedLate link at Moving result new = ⊥

-- a Close was queued, or not
abbrev pub ClosedLate : {L : Type 0} → Ghosts L → Option AmqpError → Held L → Result Unit ConnectionFault → Held L → Type 0
ClosedLate link error (Early o p) result new = ⊥
ClosedLate {L} link error (Late s) result new = (s' : State L) × (new ≡ Late s') × HasClosed link s error result s'
ClosedLate link error (Unopened c) result new = ⊥
ClosedLate link error Moving result new = ⊥

-- both ends have sent their Open, and no Close was read
abbrev pub is_made_state : ConnectionState → Bool
is_made_state state.Opened = true
is_made_state state.CloseSent = true
is_made_state state.Discarding = true
is_made_state other = false

abbrev pub is_made : {L : Type 0} → Held L → Bool
is_made (Early o p) = false
is_made (Late s) = is_made_state (state_of s.phase)
is_made (Unopened c) = false
is_made Moving = false

-- why the connection has stopped, if it has
abbrev pub reason_of : {L : Type 0} → Held L → Option ConnectionStopReason
reason_of (Early o p) = None
reason_of (Late s) = stop_reason_of s
reason_of (Unopened c) = None
reason_of Moving = None

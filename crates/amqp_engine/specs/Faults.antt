-- Why a step answers an error of the transport.
use Rattle.std.specs.Prelude.{◌≡◌, ◌⊎◌, ℕ, List, [], ◌∷◌, ◌++◌, Some, None, ⊤}
use Rattle.amqp_wire.specs.declared.link.Stop.TheVariants.{End as EndStop}
use Rattle.amqp_wire.specs.declared.link.IoKind.TheVariants.{Fault, End}
use Rattle.amqp_wire.specs.declared.frame.Front.TheVariants.{Refused, Foreign}
use Rattle.amqp_wire.specs.Events.{LinkEvent, NotRead, Includes, HasFailed, read_of}
use Rattle.amqp_wire.specs.Frame.{IsFront}
use Rattle.amqp_transport.specs.declared.frames.Frame.{Frame}
use Rattle.amqp_transport.specs.declared.transport.Error.{Error as TransportFault}
use Rattle.amqp_transport.specs.declared.transport.Error.TheVariants as fault
use Rattle.amqp_transport.specs.Causes.{IsUnspelled}
use Rattle.amqp_transport.specs.Clocks.{HasElapsed}
use Rattle.amqp_transport.specs.Kinds.{amqp_spells, no_frame}
use Rattle.amqp_engine.specs.declared.phase.Phase.{Phase}
use Rattle.amqp_engine.specs.declared.phase.Phase.TheVariants as p
use Rattle.amqp_engine.specs.Calls.{IsTooLarge}
use Rattle.amqp_engine.specs.State.{State, close_frame, error_for}

-- the frame that an end queues by itself: a heartbeat, or a Close
abbrev pub IsOwed : Phase → Frame → Type 0
IsOwed p.OpenSent x = ⊥
IsOwed p.Opened x = x ≡ no_frame
IsOwed p.CloseReceived x = x ≡ close_frame None
IsOwed p.Refused x = x ≡ close_frame None
IsOwed (p.Rejected why) x = x ≡ close_frame (Some (error_for why))
IsOwed p.CloseSent x = ⊥
IsOwed p.Discarding x = ⊥
IsOwed p.Ended x = ⊥
IsOwed p.Failed x = ⊥

-- what a step queues is what the end owes, and one frame at most (part 2, sections 2.4.3 and 2.4.5)
abbrev pub AllOwed : Phase → List Frame → Type 0
AllOwed phase [] = ⊤
AllOwed phase (x ∷ []) = IsOwed phase x
AllOwed phase (x ∷ y ∷ xs) = ⊥

-- the frame that is owed is too large for the peer
abbrev pub OwesTooMuch : {L : Type 0} → State L → Type 0
OwesTooMuch s = (x : Frame) × IsOwed s.phase x × IsTooLarge s.wire.codec.encoder x

-- what is read and not given, with what came
abbrev pub input_of : {L : Type 0} → State L → List LinkEvent → List ℕ
input_of s events = s.wire.codec.input ++ read_of events

-- why the transport's error came: what passed at the link, what the input begins with, the time, or the frame that was owed
abbrev pub IsFault : {L : Type 0} → ℕ → State L → List LinkEvent → TransportFault → Type 0
IsFault at old events (fault.Memory a) = ⊥
IsFault at old events (fault.Io Fault) = HasFailed events
IsFault at old events (fault.Io End) = Includes events (NotRead EndStop)
IsFault at old events fault.IdleTimeoutElapsed = HasElapsed old.wire.clock at
IsFault at old events fault.DecodeError = IsUnspelled 0 amqp_spells old.wire.codec.decoder (input_of old events)
IsFault at old events fault.NotImplemented = IsFront 0 old.wire.codec.decoder (input_of old events) Foreign
IsFault at old events fault.FramingError = IsFront 0 old.wire.codec.decoder (input_of old events) Refused ⊎ OwesTooMuch old

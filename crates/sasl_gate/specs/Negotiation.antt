-- A negotiation over a link, in words of the bytes that were read and written.
use Rattle.std.specs.Prelude.{◌≡◌, ◌≢◌, ◌<◌, ◌≤◌, ◌+◌, ◌⊎◌, ℕ, List, [], ◌∷◌, ◌++◌, length, take, drop, All, Result, Ok, Err, ⊤}
use Rattle.sasl_exchange.specs.amqp_sasl_bodies.declared.sasl_body.SaslBody.{SaslBody}
use Rattle.sasl_exchange.specs.amqp_sasl_bodies.SaslBytes.{SpellsSasl}
use Rattle.amqp_wire.specs.declared.link.Link.{Ghosts}
use Rattle.amqp_wire.specs.declared.link.Stop.TheVariants.{Empty, End}
use Rattle.amqp_wire.specs.declared.link.Held.TheVariants.{Full}
use Rattle.amqp_wire.specs.declared.link.IoKind.TheVariants.{Fault, End as InputEnd}
use Rattle.amqp_wire.specs.declared.frame.Front.TheVariants.{Partial, Refused, Foreign}
use Rattle.amqp_wire.specs.Codec.{Codec}
use Rattle.amqp_wire.specs.Events.{LinkEvent, NotRead, NotWritten, Went, read_of, wrote_of, reads_in, Includes, HasFailed}
use Rattle.amqp_wire.specs.Frame.{IsFront, HasBody}
use Rattle.sasl_exchange.specs.declared.error.NegotiationError.{NegotiationError}
use Rattle.sasl_exchange.specs.declared.exchange.Exchange.{Ghosts as Mechanism}
use Rattle.sasl_exchange.specs.declared.error.NegotiationError.TheVariants.{Memory, ProtocolHeaderMismatch, NotImplemented, SaslError, ScramError, Io, DecodeError, IllegalState, FramingError}
use Rattle.sasl_exchange.specs.declared.exchange.Turn.{Turn}
use Rattle.sasl_exchange.specs.declared.exchange.Turn.TheVariants.{Receive, Pass}
use Rattle.sasl_gate.specs.declared.gate.negotiation.Phase.{Phase}
use Rattle.sasl_gate.specs.declared.gate.negotiation.Phase.TheVariants.{Header, Frames, Failed}
use Rattle.sasl_gate.specs.declared.gate.negotiation.GatePoll.{GatePoll}
use Rattle.sasl_gate.specs.declared.gate.negotiation.GatePoll.TheVariants.{Pending, Passed}
use Rattle.sasl_gate.specs.Frames.{sasl_header, Heard, HasSaslFrame, canonical_of, IsOversized, said}

-- a negotiation: its codec, how far it is, and the exchange of its mechanism
pub record Negotiating (L X : Type 0) : Type 0 where
  pub codec : Codec L
  pub phase : Phase
  pub exchange : X

-- the link failed, or its input ended
abbrev pub LinkCause : NegotiationError → List LinkEvent → Type 0
LinkCause (Memory a) events = ⊥
LinkCause (ProtocolHeaderMismatch h) events = ⊥
LinkCause NotImplemented events = ⊥
LinkCause (SaslError code d) events = ⊥
LinkCause (ScramError kind) events = ⊥
LinkCause (Io Fault) events = HasFailed events
LinkCause (Io InputEnd) events = Includes events (NotRead End)
LinkCause DecodeError events = ⊥
LinkCause IllegalState events = ⊥
LinkCause FramingError events = ⊥

-- the first eight bytes are not the SASL header
abbrev pub HeaderCause : NegotiationError → List ℕ → Type 0
HeaderCause (Memory a) read = ⊥
HeaderCause (ProtocolHeaderMismatch h) read = (8 ≤ length read) × (h ≡ take 8 read) × (h ≢ sasl_header)
HeaderCause NotImplemented read = ⊥
HeaderCause (SaslError code d) read = ⊥
HeaderCause (ScramError kind) read = ⊥
HeaderCause (Io kind) read = ⊥
HeaderCause DecodeError read = ⊥
HeaderCause IllegalState read = ⊥
HeaderCause FramingError read = ⊥

-- a whole frame, whose body is none of the five
pub record IsUndecodable (bytes : List ℕ) : Type 0 where
  pub size : ℕ
  pub start : ℕ
  pub channel : ℕ
  pub body : HasBody 1 512 bytes size start channel
  pub none : (x : SaslBody) → SpellsSasl (drop start (take size bytes)) x → ⊥

-- the bytes behind the frames that were taken begin with a frame that is refused
abbrev pub FrameCause : NegotiationError → List ℕ → Type 0
FrameCause (Memory a) rest = ⊥
FrameCause (ProtocolHeaderMismatch h) rest = ⊥
FrameCause NotImplemented rest = IsFront 1 512 rest Foreign
FrameCause (SaslError code d) rest = ⊥
FrameCause (ScramError kind) rest = ⊥
FrameCause (Io kind) rest = ⊥
FrameCause DecodeError rest = IsUndecodable rest
FrameCause IllegalState rest = ⊥
FrameCause FramingError rest = IsFront 1 512 rest Refused

-- want of memory, or else a fact
abbrev pub IsMemoryOr : NegotiationError → Type 0 → Type 0
IsMemoryOr (Memory a) P = ⊤
IsMemoryOr (ProtocolHeaderMismatch h) P = P
IsMemoryOr NotImplemented P = P
IsMemoryOr (SaslError code d) P = P
IsMemoryOr (ScramError kind) P = P
IsMemoryOr (Io kind) P = P
IsMemoryOr DecodeError P = P
IsMemoryOr IllegalState P = P
IsMemoryOr FramingError P = P

-- a body has no frame of at most 512 bytes (part 5, section 5.3.1)
abbrev pub IsOverlong : SaslBody → Type 0
IsOverlong x = IsOversized x ⊎ (504 < length (canonical_of x))

-- why a negotiation fails, where `causes` is why its mechanism does, and `owes` the body that it owes
pub data IsCaused (causes : NegotiationError → List SaslBody → List SaslBody → Type 0) (owes : SaslBody → Type 0) (e : NegotiationError) (events : List LinkEvent) : Type 0 where
  at_link : LinkCause e events → IsCaused causes owes e events
  at_header : HeaderCause e (read_of events) → IsCaused causes owes e events
  at_frame : (given : List SaslBody) (rest : List ℕ) → Heard (read_of events) given rest → FrameCause e rest → IsCaused causes owes e events
  by_body : (given sent : List SaslBody) (rest : List ℕ) → Heard (read_of events) given rest → causes e given sent → IsCaused causes owes e events
  too_long : (x : SaslBody) → owes x → IsOverlong x → e ≡ FramingError → IsCaused causes owes e events

-- these bodies were read: none, or behind the SASL header (part 5, section 5.3.2)
abbrev pub IsHeard : List ℕ → List SaslBody → Type 0
IsHeard read given = (given ≡ []) ⊎ ((rest : List ℕ) × Heard read given rest)

-- The bodies of which a cause speaks are those that the mechanism had taken and sent, and at most one more that it refused. Where a
-- frame or a body was refused, it waited for one
abbrev pub IsCauseAfter : (causes : NegotiationError → List SaslBody → List SaslBody → Type 0) (owes : SaslBody → Type 0) (turn : Turn) (e : NegotiationError)
    (events : List LinkEvent) → List SaslBody → List SaslBody → IsCaused causes owes e events → Type 0
IsCauseAfter causes owes turn e events given sent (at_link cause) = ⊤
IsCauseAfter causes owes turn e events given sent (at_header cause) = ⊤
IsCauseAfter causes owes turn e events given sent (at_frame read rest is cause) = (read ≡ given) × (turn ≡ Receive)
IsCauseAfter causes owes turn e events given sent (by_body read told rest is cause) =
    (told ≡ sent) × ((read ≡ given) ⊎ ((body : SaslBody) × (read ≡ given ++ body ∷ []) × (turn ≡ Receive)))
IsCauseAfter causes owes turn e events given sent (too_long x owed long is) = ⊤

-- An end that fails by an outcome that refuses has written all that it sent: so a listener has written the outcome that it told, whole
-- (part 5, section 5.3.2)
abbrev pub IsOutcomeOut : NegotiationError → List LinkEvent → List SaslBody → Type 0
IsOutcomeOut (Memory a) events sent = ⊤
IsOutcomeOut (ProtocolHeaderMismatch h) events sent = ⊤
IsOutcomeOut NotImplemented events sent = ⊤
IsOutcomeOut (SaslError code payload) events sent = wrote_of events ≡ said sent
IsOutcomeOut (ScramError kind) events sent = ⊤
IsOutcomeOut (Io kind) events sent = ⊤
IsOutcomeOut DecodeError events sent = ⊤
IsOutcomeOut IllegalState events sent = ⊤
IsOutcomeOut FramingError events sent = ⊤

-- before the SASL header was read
pub record HasHeader {L X : Type 0} (mechanism : Mechanism X) (n : Negotiating L X) (events : List LinkEvent) : Type 0 where
  pub read : read_of events ≡ n.codec.input
  pub wrote : wrote_of events ++ n.codec.output ≡ sasl_header
  pub held : mechanism.holds n.exchange [] []

-- while frames are read and written: each body that was queued has a frame that spells it
pub record HasFrames {L X : Type 0} (mechanism : Mechanism X) (n : Negotiating L X) (events : List LinkEvent) : Type 0 where
  pub given : List SaslBody
  pub sent : List SaslBody
  pub heard : Heard (read_of events) given n.codec.input
  pub wrote : wrote_of events ++ n.codec.output ≡ said sent
  pub framed : All HasSaslFrame sent
  pub held : mechanism.holds n.exchange given sent

-- after it failed: the mechanism is as it was before, with the bodies that it had taken and those that were queued; where an outcome
-- refuses, all of them are written
pub record HasFailure {L X : Type 0} (mechanism : Mechanism X) (e : NegotiationError) (n : Negotiating L X) (events : List LinkEvent) : Type 0 where
  pub given : List SaslBody
  pub sent : List SaslBody
  pub heard : IsHeard (read_of events) given
  pub wrote : wrote_of events ++ n.codec.output ≡ said sent
  pub framed : All HasSaslFrame sent
  pub held : mechanism.holds n.exchange given sent
  pub cause : IsCaused (mechanism.causes n.exchange) (mechanism.owes n.exchange) e events
  pub after : IsCauseAfter (mechanism.causes n.exchange) (mechanism.owes n.exchange) (mechanism.turn_of n.exchange) e events given sent cause
  pub told : IsOutcomeOut e events sent

abbrev pub HasIn : {L X : Type 0} → Mechanism X → Phase → Negotiating L X → List LinkEvent → Type 0
HasIn mechanism Header n events = HasHeader mechanism n events
HasIn mechanism Frames n events = HasFrames mechanism n events
HasIn mechanism (Failed e) n events = HasFailure mechanism e n events

-- a negotiation after what passed at its link
abbrev pub Has : {L X : Type 0} → Mechanism X → Negotiating L X → List LinkEvent → Type 0
Has mechanism n events = HasIn mechanism n.phase n events

-- why a negotiation can do no more now: the link has no input or takes no output, or all reads are made
abbrev pub IsHeldUp : List LinkEvent → ℕ → Type 0
IsHeldUp events left = Includes events (NotRead Empty) ⊎ Includes events (NotWritten Full) ⊎ (left ≡ 0)

-- all is written, and what is read next is not there whole: the eight bytes of the SASL header, or a frame, for whose body
-- the mechanism waits. A frame that is refused is not waited for
abbrev pub IsAtRestIn : {L X : Type 0} → Mechanism X → Phase → Negotiating L X → Type 0
IsAtRestIn mechanism Header n = (n.codec.output ≡ []) × (length n.codec.input < 8)
IsAtRestIn mechanism Frames n = (n.codec.output ≡ []) × (mechanism.turn_of n.exchange ≡ Receive) × IsFront 1 512 n.codec.input Partial
IsAtRestIn mechanism (Failed e) n = ⊥

-- it waits for input that is not there whole
abbrev pub IsAtRest : {L X : Type 0} → Mechanism X → Negotiating L X → Type 0
IsAtRest mechanism n = IsAtRestIn mechanism n.phase n

-- it waits for such input, or the link takes no output
abbrev pub IsAtRestOrFull : {L X : Type 0} → Mechanism X → List LinkEvent → Negotiating L X → Type 0
IsAtRestOrFull mechanism events n = IsAtRest mechanism n ⊎ Includes events (NotWritten Full)

-- A negotiation went on: what passed at its link is added to its history, and the reads that gave bytes are gone from
-- those that were left.
pub record GoesOn {L X : Type 0} (link : Ghosts L) (mechanism : Mechanism X) (old : Negotiating L X) (left : ℕ) (events : List LinkEvent) (new : Negotiating L X) (left' : ℕ) : Type 0 where
  pub went : Went link old.codec.link events new.codec.link
  pub counted : left' + reads_in events ≡ left
  pub kept : mechanism.same old.exchange new.exchange
  pub grows : (before : List LinkEvent) → Has mechanism old before → Has mechanism new (events ++ before)

-- it passed, and all is written
pub record IsPassed {L X : Type 0} (mechanism : Mechanism X) (n : Negotiating L X) : Type 0 where
  pub phase : n.phase ≡ Frames
  pub turn : mechanism.turn_of n.exchange ≡ Pass
  pub flushed : n.codec.output ≡ []

-- what a poll answered: a failure is kept
abbrev pub IsPollAnswer : {L X : Type 0} → Mechanism X → List LinkEvent → Negotiating L X → ℕ → Result GatePoll NegotiationError → Type 0
IsPollAnswer mechanism events new left (Ok Pending) = IsHeldUp events left × IsAtRestOrFull mechanism events new
IsPollAnswer mechanism events new left (Ok Passed) = IsPassed mechanism new
IsPollAnswer mechanism events new left (Err e) = IsMemoryOr e (new.phase ≡ Failed e)

-- a poll
pub record Polled {L X : Type 0} (link : Ghosts L) (mechanism : Mechanism X) (old : Negotiating L X) (left : ℕ) (result : Result GatePoll NegotiationError) (new : Negotiating L X) (left' : ℕ) : Type 0 where
  pub events : List LinkEvent
  pub goes : GoesOn link mechanism old left events new left'
  pub answer : IsPollAnswer mechanism events new left' result

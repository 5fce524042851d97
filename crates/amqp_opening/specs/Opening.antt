-- The opening of a connection over a link, in words of the bytes that were read and written: the SASL negotiation, where
-- there is one, and then the AMQP headers (OASIS AMQP 1.0, part 2, section 2.2).
use Rattle.std.specs.Prelude.{◌≡◌, ◌≢◌, ◌<◌, ◌≤◌, ◌+◌, ◌⊎◌, ℕ, Bool, true, false, List, [], ◌∷◌, ◌++◌, length, take, All, Option, Some, None, Result, Ok, Err, ⊤}
use Rattle.std.specs.declared.alloc.AllocError.{AllocError}
use Rattle.sasl_gate.specs.amqp_sasl_bodies.declared.sasl_body.SaslBody.{SaslBody}
use Rattle.amqp_wire.specs.declared.link.Link.{Ghosts}
use Rattle.amqp_wire.specs.declared.link.Stop.{Stop}
use Rattle.amqp_wire.specs.declared.link.Stop.TheVariants.{Empty, End, Failed as FailedRead}
use Rattle.amqp_wire.specs.declared.link.Held.TheVariants.{Full}
use Rattle.amqp_wire.specs.declared.link.IoKind.TheVariants.{Fault, End as InputEnd}
use Rattle.amqp_wire.specs.Events.{LinkEvent, NotWritten, Went, read_of, wrote_of, reads_in, Includes}
use Rattle.sasl_gate.specs.sasl_exchange.declared.error.NegotiationError.{NegotiationError}
use Rattle.sasl_gate.specs.sasl_exchange.declared.error.NegotiationError.TheVariants.{Memory, ProtocolHeaderMismatch, NotImplemented, SaslError, ScramError, Io, DecodeError, IllegalState, FramingError}
use Rattle.sasl_gate.specs.sasl_exchange.declared.exchange.Exchange.{Ghosts as Mechanism}
use Rattle.sasl_gate.specs.sasl_exchange.declared.exchange.Turn.TheVariants.{Pass}
use Rattle.sasl_gate.specs.Frames.{HasSaslFrame, Heard, said, sasl_header, IsOnlySasl}
use Rattle.sasl_gate.specs.Negotiation.{Negotiating, LinkCause, IsCaused, IsHeard, IsCauseAfter, IsOutcomeOut, IsHeldUp, IsAtRest as IsNegotiationAtRest, Has}
use Rattle.amqp_opening.specs.declared.opening.OpeningPoll.{OpeningPoll}
use Rattle.amqp_opening.specs.declared.opening.OpeningPoll.TheVariants as poll
use Rattle.amqp_opening.specs.declared.opening.Stage.{Stage}
use Rattle.amqp_opening.specs.declared.opening.Stage.TheVariants.{Idle, Negotiating as NegotiatingStage, Header, Exchanged, Ended}

-- the protocol header of AMQP 1.0 (part 2, section 2.2)
abbrev pub amqp_header : List ℕ
amqp_header = 65 ∷ 77 ∷ 81 ∷ 80 ∷ 0 ∷ 1 ∷ 0 ∷ 0 ∷ []

-- an opening: its negotiation, how far it is, and whether there is a SASL layer
pub record Opened (L X : Type 0) : Type 0 where
  pub negotiation : Negotiating L X
  pub stage : Stage
  pub has_sasl : Bool

-- it began with this exchange
abbrev pub begun : {L X : Type 0} → Opened L X → X → Opened L X
begun o x = record {
  negotiation = record o.negotiation { codec = record o.negotiation.codec { output = o.negotiation.codec.output ++ sasl_header }; exchange = x };
  stage = NegotiatingStage;
  has_sasl = true;
}

-- it began without a SASL layer
abbrev pub begun_plain : {L X : Type 0} → Opened L X → Opened L X
begun_plain o = record {
  negotiation = record o.negotiation { codec = record o.negotiation.codec { output = o.negotiation.codec.output ++ amqp_header } };
  stage = Header;
  has_sasl = false;
}

-- it began, and the AMQP headers are not both there yet
abbrev pub IsUnderWay : Stage → Type 0
IsUnderWay Idle = ⊥
IsUnderWay NegotiatingStage = ⊤
IsUnderWay Header = ⊤
IsUnderWay Exchanged = ⊥
IsUnderWay Ended = ⊥

-- The exchange has passed: its bodies were read, and then `rest`; its bodies were written, each in a frame that spells it, and then
-- the AMQP header but for `unwritten`.
pub record HasPassed {X : Type 0} (m : Mechanism X) (x : X) (rest unwritten : List ℕ) (events : List LinkEvent) : Type 0 where
  pub given : List SaslBody
  pub sent : List SaslBody
  pub heard : Heard (read_of events) given rest
  pub part : List ℕ
  pub wrote : wrote_of events ≡ said sent ++ part
  pub header : part ++ unwritten ≡ amqp_header
  pub framed : All HasSaslFrame sent
  pub held : m.holds x given sent
  pub turn : m.turn_of x ≡ Pass

-- There is no SASL layer: `rest` is all that was read, and the AMQP header was written but for `unwritten`.
pub record IsPlain (rest unwritten : List ℕ) (events : List LinkEvent) : Type 0 where
  pub heard : read_of events ≡ rest
  pub wrote : wrote_of events ++ unwritten ≡ amqp_header

-- what comes before the AMQP headers, with a SASL layer and without
abbrev pub HasIntro : {X : Type 0} → Bool → Mechanism X → X → List ℕ → List ℕ → List LinkEvent → Type 0
HasIntro true m x rest unwritten events = HasPassed m x rest unwritten events
HasIntro false m x rest unwritten events = IsPlain rest unwritten events

-- a stage after what passed at the link; once both AMQP headers are there, nothing of the own one is still to go out
abbrev pub HasAt : {L X : Type 0} → Mechanism X → Bool → Stage → Negotiating L X → List LinkEvent → Type 0
HasAt m s Idle n events = ⊥
HasAt m s NegotiatingStage n events = (s ≡ true) × Has m n events
HasAt m s Header n events = HasIntro s m n.exchange n.codec.input n.codec.output events
HasAt m s Exchanged n events = HasIntro s m n.exchange (amqp_header ++ n.codec.input) n.codec.output events × (n.codec.output ≡ [])
HasAt m s Ended n events = ⊥

-- an opening that has begun, after what passed at its link
abbrev pub HasOpening : {L X : Type 0} → Mechanism X → Opened L X → List LinkEvent → Type 0
HasOpening m o events = HasAt m o.has_sasl o.stage o.negotiation events

-- with a SASL layer: only that layer was written, or the exchange has passed; without: only the AMQP header was written
abbrev pub IsGuarded : {X : Type 0} → Mechanism X → Bool → X → List LinkEvent → Type 0
IsGuarded m true x events = IsOnlySasl (wrote_of events) ⊎ ((rest unwritten : List ℕ) × HasPassed m x rest unwritten events)
IsGuarded m false x events = (unwritten : List ℕ) × (wrote_of events ++ unwritten ≡ amqp_header)

-- why an opening with a SASL layer fails: in the negotiation or at the link, or the exchange has passed and another
-- header follows it
pub data IsSaslCause {X : Type 0} (m : Mechanism X) (x : X) (e : NegotiationError) (events : List LinkEvent) : Type 0 where
  in_negotiation : IsCaused (m.causes x) (m.owes x) e events → IsSaslCause m x e events
  at_amqp_header : (given sent : List SaslBody) (rest : List ℕ) → Heard (read_of events) given rest → m.holds x given sent → m.turn_of x ≡ Pass
      → 8 ≤ length rest → take 8 rest ≢ amqp_header → e ≡ NotImplemented → IsSaslCause m x e events

-- why one without fails: at the link, or it read another header
pub data IsPlainCause (e : NegotiationError) (events : List LinkEvent) : Type 0 where
  at_link : LinkCause e events → IsPlainCause e events
  at_plain_header : 8 ≤ length (read_of events) → take 8 (read_of events) ≢ amqp_header → e ≡ NotImplemented → IsPlainCause e events

-- why an opening fails, with a SASL layer and without
abbrev pub IsOpeningCause : {X : Type 0} → Mechanism X → Bool → X → NegotiationError → List LinkEvent → Type 0
IsOpeningCause m true x e events = IsSaslCause m x e events
IsOpeningCause m false x e events = IsPlainCause e events

-- the bodies of which a cause speaks are those that the exchange had taken and sent
abbrev pub IsSaslCauseAfter : {X : Type 0} (m : Mechanism X) (x : X) (e : NegotiationError) (events : List LinkEvent) → List SaslBody → List SaslBody → IsSaslCause m x e events → Type 0
IsSaslCauseAfter m x e events given sent (in_negotiation cause) = IsCauseAfter (m.causes x) (m.owes x) (m.turn_of x) e events given sent cause
IsSaslCauseAfter m x e events given sent (at_amqp_header read told rest heard held turn long other is) = (read ≡ given) × (told ≡ sent)

-- an exchange that has ended by an error: the bodies that it had taken and those that were queued, each in a frame that spells it, and
-- then nothing, or the AMQP header once it had passed; of all that, `out` was not written. Where it ended by an outcome that refuses, its
-- bodies were written
pub record HasEndedSasl {X : Type 0} (m : Mechanism X) (x : X) (e : NegotiationError) (events : List LinkEvent) (cause : IsSaslCause m x e events) : Type 0 where
  pub given : List SaslBody
  pub sent : List SaslBody
  pub heard : IsHeard (read_of events) given
  pub framed : All HasSaslFrame sent
  pub out : List ℕ
  pub after : List ℕ
  pub wrote : wrote_of events ++ out ≡ said sent ++ after
  pub behind : (after ≡ []) ⊎ ((m.turn_of x ≡ Pass) × (after ≡ amqp_header))
  pub held : m.holds x given sent
  pub about : IsSaslCauseAfter m x e events given sent cause
  pub told : IsOutcomeOut e events sent

-- the exchange of an opening that has ended, if it has one
abbrev pub HasEnded : {X : Type 0} (m : Mechanism X) (s : Bool) (x : X) (e : NegotiationError) (events : List LinkEvent) → IsOpeningCause m s x e events → Type 0
HasEnded m true x e events cause = HasEndedSasl m x e events cause
HasEnded m false x e events cause = ⊤

-- an opening that has ended by an error
pub record HasEnding {X : Type 0} (m : Mechanism X) (s : Bool) (x : X) (e : NegotiationError) (events : List LinkEvent) : Type 0 where
  pub guarded : IsGuarded m s x events
  pub cause : IsOpeningCause m s x e events
  pub exchange : HasEnded m s x e events cause

-- An opening went on: what passed at its link is added to its history, and the reads that gave bytes are gone from
-- those that were left.
pub record Moves {L X : Type 0} (link : Ghosts L) (m : Mechanism X) (old : Opened L X) (left : ℕ) (events : List LinkEvent) (new : Opened L X) (left' : ℕ) : Type 0 where
  pub went : Went link old.negotiation.codec.link events new.negotiation.codec.link
  pub counted : left' + reads_in events ≡ left
  pub kept : m.same old.negotiation.exchange new.negotiation.exchange
  pub layer : new.has_sasl ≡ old.has_sasl

-- an opening keeps what it has
abbrev pub Keeps : {L X : Type 0} → Mechanism X → Opened L X → List LinkEvent → Opened L X → Type 0
Keeps m old events new = (before : List LinkEvent) → HasOpening m old before → HasOpening m new (events ++ before)

-- an opening has ended by an error
abbrev pub Ends : {L X : Type 0} → Mechanism X → Opened L X → List LinkEvent → NegotiationError → Opened L X → Type 0
Ends m old events e new = (before : List LinkEvent) → HasOpening m old before → HasEnding m new.has_sasl new.negotiation.exchange e (events ++ before)

-- the negotiation is at rest, or all is written and fewer than the eight bytes of the AMQP header of the other end are there
abbrev pub IsAtRestAt : {L X : Type 0} → Mechanism X → Stage → Negotiating L X → Type 0
IsAtRestAt m Idle n = ⊥
IsAtRestAt m NegotiatingStage n = IsNegotiationAtRest m n
IsAtRestAt m Header n = (n.codec.output ≡ []) × (length n.codec.input < 8)
IsAtRestAt m Exchanged n = ⊥
IsAtRestAt m Ended n = ⊥

-- it waits for input that is not there whole
abbrev pub IsAtRest : {L X : Type 0} → Mechanism X → Opened L X → Type 0
IsAtRest m o = IsAtRestAt m o.stage o.negotiation

-- it waits for such input, or the link takes no output
abbrev pub IsAtRestOrFull : {L X : Type 0} → Mechanism X → List LinkEvent → Opened L X → Type 0
IsAtRestOrFull m events o = IsAtRest m o ⊎ Includes events (NotWritten Full)

-- what a run comes to: it waits, both AMQP headers are there, or it has ended by an error; after want of memory nothing
-- is said
abbrev pub ComesTo : {L X E : Type 0} → Mechanism X → Opened L X → List LinkEvent → Result OpeningPoll E → Opened L X → ℕ → Type 0
ComesTo m old events (Ok poll.Pending) new left = IsUnderWay new.stage × IsHeldUp events left × Keeps m old events new × IsAtRestOrFull m events new
ComesTo m old events (Ok poll.Exchanged) new left = (new.stage ≡ Exchanged) × Keeps m old events new
ComesTo m old events (Ok (poll.Failed e)) new left = (new.stage ≡ Ended) × Ends m old events e new
ComesTo m old events (Err e) new left = ⊤

-- a run
pub record Ran {L X E : Type 0} (link : Ghosts L) (m : Mechanism X) (old : Opened L X) (left : ℕ) (result : Result OpeningPoll E) (new : Opened L X) (left' : ℕ) : Type 0 where
  pub events : List LinkEvent
  pub moves : Moves link m old left events new left'
  pub comes : ComesTo m old events result new left'

-- what comes of a read that gave nothing
abbrev pub IsStopEnd : {L X : Type 0} → Stop → Opened L X → OpeningPoll → Opened L X → Type 0
IsStopEnd Empty old result new = (result ≡ poll.Pending) × (new ≡ old)
IsStopEnd End old result new = (result ≡ poll.Failed (Io InputEnd)) × (new ≡ record old { stage = Ended })
IsStopEnd FailedRead old result new = (result ≡ poll.Failed (Io Fault)) × (new ≡ record old { stage = Ended })

-- the want of memory that an error is
abbrev pub IsMemoryIn : NegotiationError → Option AllocError → Type 0
IsMemoryIn (Memory a) result = result ≡ Some a
IsMemoryIn (ProtocolHeaderMismatch h) result = result ≡ None
IsMemoryIn NotImplemented result = result ≡ None
IsMemoryIn (SaslError code d) result = result ≡ None
IsMemoryIn (ScramError kind) result = result ≡ None
IsMemoryIn (Io kind) result = result ≡ None
IsMemoryIn DecodeError result = result ≡ None
IsMemoryIn IllegalState result = result ≡ None
IsMemoryIn FramingError result = result ≡ None

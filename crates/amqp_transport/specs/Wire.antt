-- What a transport answers (OASIS AMQP 1.0, part 2, sections 2.3 and 2.4.5).
use Rattle.std.specs.Prelude.{◌≡◌, ◌≢◌, ◌<◌, ◌≤◌, ◌+◌, ◌^◌, ◌⊎◌, ℕ, List, [], ◌++◌, length, take, drop, Option, Some, None, Result, Ok, Err}
use Rattle.amqp_wire.specs.declared.link.Link.{Ghosts}
use Rattle.amqp_wire.specs.declared.link.Stop.{Stop}
use Rattle.amqp_wire.specs.declared.link.Stop.TheVariants.{Empty, End, Failed}
use Rattle.amqp_wire.specs.declared.link.Held.{Held}
use Rattle.amqp_wire.specs.declared.link.Held.TheVariants.{Full as HeldFull, Failed as HeldFailed, Memory as HeldMemory}
use Rattle.amqp_wire.specs.declared.frame.Front.{Front}
use Rattle.amqp_wire.specs.declared.frame.Front.TheVariants.{Partial, Refused, Foreign, Whole}
use Rattle.amqp_transport.specs.declared.transport.Error.{Error}
use Rattle.amqp_transport.specs.declared.transport.Error.TheVariants.{Memory, Io, IdleTimeoutElapsed, DecodeError, NotImplemented, FramingError}
use Rattle.amqp_wire.specs.declared.link.IoKind.TheVariants.{Fault, End as EndKind}
use Rattle.amqp_transport.specs.declared.transport.Next.{Next}
use Rattle.amqp_transport.specs.declared.transport.Next.TheVariants.{Frame, Pending, Ended}
use Rattle.amqp_transport.specs.declared.transport.Flush.{Flush}
use Rattle.amqp_transport.specs.declared.transport.Flush.TheVariants.{Empty as Flushed_all, Full as Flushed_full}
use Rattle.amqp_wire.specs.Frame.{IsFront, frame_of}
use Rattle.amqp_wire.specs.Steps.{ReadBy}
use Rattle.amqp_transport.specs.declared.idle_clock.IdleClock.{IdleClock}
use Rattle.amqp_transport.specs.Clocks.{HasElapsed}
use Rattle.amqp_wire.specs.Codec.{Codec, Fed, Flushed}
use Rattle.amqp_transport.specs.Arrivals.{IsWanted}

-- a codec, an idle clock, and the error that is answered again
pub record Wire (L : Type 0) : Type 0 where
  pub codec : Codec L
  pub clock : IdleClock
  pub kept : Option Error

-- the idle time, 0 where there is none
abbrev pub idle_of : Option ℕ → ℕ
idle_of (Some idle) = idle
idle_of None = 0

-- the idle time has passed
abbrev pub IsIdle : {L : Type 0} → Wire L → ℕ → Type 0
IsIdle w at = HasElapsed w.clock at

abbrev pub keeping : {L : Type 0} → Wire L → Error → Wire L
keeping w e = record w { kept = Some e }

-- this error is answered, now and from now on
pub record Fails {L X : Type 0} (old : Wire L) (e : Error) (result : Result (Next X) Error) (new : Wire L) : Type 0 where
  pub error : result ≡ Err e
  pub kept : new ≡ keeping old e

-- the first frame's body is read
abbrev pub Given : {L X : Type 0} → (List ℕ → X → Type 0) → ℕ → ℕ → ℕ → Wire L → Result (Next X) Error → Wire L → Type 0
Given spells size start at old (Ok (Frame x)) new =
    spells (drop start (take size old.codec.input)) x × (new ≡ record old { codec = record old.codec { input = drop size old.codec.input }; clock = record { idle = old.clock.idle; since = at } })
Given {L} {X} spells size start at old (Err DecodeError) new =
    ((x : X) → spells (drop start (take size old.codec.input)) x → ⊥) × (new ≡ keeping old DecodeError)
Given spells size start at old (Err (Memory a)) new = new ≡ old
Given spells size start at old result new = ⊥

-- no frame came: the idle time has passed, or this is answered
pub record Waits {L X : Type 0} (at : ℕ) (old : Wire L) (otherwise : Result (Next X) Error) (after : Wire L) (result : Result (Next X) Error) (new : Wire L) : Type 0 where
  pub idle : IsIdle old at → Fails old IdleTimeoutElapsed result new
  pub other : (IsIdle old at → ⊥) → (result ≡ otherwise) × (new ≡ after)

-- the input ended
pub record Ends {L X : Type 0} (old : Wire L) (result : Result (Next X) Error) (new : Wire L) : Type 0 where
  pub whole : old.codec.input ≡ [] → (result ≡ Ok Ended) × (new ≡ old)
  pub cut : old.codec.input ≢ [] → Fails old (Io EndKind) result new

-- what is answered when the input begins so, and the last read ended so
abbrev pub Answered : {L X : Type 0} → (ℕ → List ℕ → X → Type 0) → Front → Option Stop → ℕ → Wire L → Result (Next X) Error → Wire L → Type 0
Answered spells (Whole size start channel) stop at old result new = Given (spells channel) size start at old result new
Answered spells Refused stop at old result new = Fails old FramingError result new
Answered spells Foreign stop at old result new = Fails old NotImplemented result new
Answered spells Partial (Some End) at old result new = Ends old result new
Answered spells Partial (Some Empty) at old result new = Waits at old (Ok Pending) old result new
Answered spells Partial (Some Failed) at old result new = Waits at old (Err (Io Fault)) (keeping old (Io Fault)) result new
Answered spells Partial None at old result new = ⊥

-- bytes came in, and then this was answered
pub record Answers {L X : Type 0} (link : Ghosts L) (kind : ℕ) (spells : ℕ → List ℕ → X → Type 0) (old : Wire L) (at : ℕ) (result : Result (Next X) Error) (new : Wire L) : Type 0 where
  pub bytes : List ℕ
  pub stop : Option Stop
  pub front : Front
  pub fed : Codec L
  pub reads : ReadBy link old.codec.link bytes stop fed.link
  pub rest : fed ≡ record old.codec { link = fed.link; input = old.codec.input ++ bytes }
  pub begins : IsFront kind old.codec.decoder fed.input front
  pub wanted : IsWanted front stop
  pub answer : Answered spells front stop at (record old { codec = fed }) result new

abbrev pub IsMemory : {A : Type 0} → Result A Error → Type 0
IsMemory (Err (Memory a)) = Unit {0}
IsMemory result = ⊥

-- memory was wanting: bytes that came in stay
pub record Wants {L : Type 0} (link : Ghosts L) (old new : Wire L) : Type 0 where
  pub bytes : List ℕ
  pub fed : Fed link old.codec bytes new.codec
  pub rest : new ≡ record old { codec = new.codec }

abbrev pub PolledAt : {L X : Type 0} → Option Error → Ghosts L → ℕ → (ℕ → List ℕ → X → Type 0) → Wire L → ℕ → Result (Next X) Error → Wire L → Type 0
PolledAt (Some e) link kind spells old at result new = (result ≡ Err e) × (new ≡ old)
PolledAt None link kind spells old at result new =
    Answers link kind spells old at result new ⊎ (IsMemory result × Wants link old new)

abbrev pub Polled : {L X : Type 0} → Ghosts L → ℕ → (ℕ → List ℕ → X → Type 0) → Wire L → ℕ → Result (Next X) Error → Wire L → Type 0
Polled link kind spells old at result new = PolledAt old.kept link kind spells old at result new

-- the frame is above the limit, its size has no room in 32 bits, or the item has no bytes (part 2, section 2.3.1)
abbrev pub IsTooLarge : {L X : Type 0} → (X → List ℕ) → (X → Type 0) → Wire L → X → Type 0
IsTooLarge canonical is_oversized old x = (old.codec.encoder < 8 + length (canonical x)) ⊎ ((2 ^ 32 ≤ 8 + length (canonical x)) ⊎ is_oversized x)

-- the frame is queued whole where it is not too large; else nothing is
abbrev pub StartedSend : {L X : Type 0} → ℕ → (X → List ℕ) → (X → ℕ) → (X → Type 0) → Wire L → X → Result Unit Error → Wire L → Type 0
StartedSend kind canonical channel is_oversized old x (Ok u) new =
    (IsTooLarge canonical is_oversized old x → ⊥) × (new ≡ record old { codec = record old.codec { output = old.codec.output ++ frame_of kind (channel x) (canonical x) } })
StartedSend kind canonical channel is_oversized old x (Err FramingError) new = IsTooLarge canonical is_oversized old x × (new ≡ old)
StartedSend kind canonical channel is_oversized old x (Err (Memory a)) new = new ≡ old
StartedSend kind canonical channel is_oversized old x (Err e) new = ⊥

-- how a flush is answered
abbrev pub flush_of : Option Held → Result Flush Error
flush_of None = Ok Flushed_all
flush_of (Some HeldFull) = Ok Flushed_full
flush_of (Some HeldFailed) = Err (Io Fault)
flush_of (Some HeldMemory) = Err (Memory (record {}))

pub record FlushedTo {L : Type 0} (link : Ghosts L) (old : Wire L) (result : Result Flush Error) (new : Wire L) : Type 0 where
  pub held : Option Held
  pub flushed : Flushed link old.codec held new.codec
  pub rest : new ≡ record old { codec = new.codec }
  pub answer : result ≡ flush_of held

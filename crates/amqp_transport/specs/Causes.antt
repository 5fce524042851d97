-- Why a poll answers so, and what it leaves (OASIS AMQP 1.0, part 2, sections 2.3 and 2.4.5).
use Rattle.std.specs.Prelude.{◌≡◌, ℕ, List, [], ◌∷◌, take, drop, Option, Some, None, Result, Ok, Err, ⊤}
use Rattle.amqp_wire.specs.declared.link.Stop.TheVariants.{Empty, End, Failed}
use Rattle.amqp_wire.specs.declared.link.IoKind.TheVariants.{Fault, End as EndKind}
use Rattle.amqp_wire.specs.declared.frame.Front.TheVariants.{Refused, Foreign}
use Rattle.amqp_wire.specs.Events.{LinkEvent, NotRead}
use Rattle.amqp_wire.specs.Frame.{HasBody, IsFront}
use Rattle.amqp_transport.specs.declared.idle_clock.IdleClock.{IdleClock}
use Rattle.amqp_transport.specs.declared.transport.Error.{Error}
use Rattle.amqp_transport.specs.declared.transport.Error.TheVariants.{Memory, Io, IdleTimeoutElapsed, DecodeError, NotImplemented, FramingError}
use Rattle.amqp_transport.specs.declared.transport.Next.{Next}
use Rattle.amqp_transport.specs.declared.transport.Next.TheVariants.{Frame, Pending, Ended}
use Rattle.amqp_transport.specs.Clocks.{HasElapsed}

-- the last event is this one
abbrev pub IsLast : List LinkEvent → LinkEvent → Type 0
IsLast [] y = ⊥
IsLast (x ∷ events) y = x ≡ y

-- the bytes begin with a whole frame, whose body spells nothing (section 2.3.2)
pub record IsUnspelled {X : Type 0} (kind : ℕ) (spells : ℕ → List ℕ → X → Type 0) (limit : ℕ) (bytes : List ℕ) : Type 0 where
  pub size : ℕ
  pub start : ℕ
  pub channel : ℕ
  pub body : HasBody kind limit bytes size start channel
  pub none : (x : X) → spells channel (drop start (take size bytes)) x → ⊥

-- what passed at the link, or what the bytes begin with, where this is answered for the first time
abbrev pub IsCause : {X : Type 0} → ℕ → (ℕ → List ℕ → X → Type 0) → ℕ → List ℕ → IdleClock → ℕ → List LinkEvent → Result (Next X) Error → Type 0
IsCause kind spells limit bytes clock at events (Ok (Frame x)) = ⊤
IsCause kind spells limit bytes clock at events (Ok Pending) = IsLast events (NotRead Empty)
IsCause kind spells limit bytes clock at events (Ok Ended) = IsLast events (NotRead End) × (bytes ≡ [])
IsCause kind spells limit bytes clock at events (Err (Memory a)) = ⊤
IsCause kind spells limit bytes clock at events (Err (Io Fault)) = IsLast events (NotRead Failed)
IsCause kind spells limit bytes clock at events (Err (Io EndKind)) = IsLast events (NotRead End)
IsCause kind spells limit bytes clock at events (Err IdleTimeoutElapsed) = HasElapsed clock at
IsCause kind spells limit bytes clock at events (Err DecodeError) = IsUnspelled kind spells limit bytes
IsCause kind spells limit bytes clock at events (Err NotImplemented) = IsFront kind limit bytes Foreign
IsCause kind spells limit bytes clock at events (Err FramingError) = IsFront kind limit bytes Refused

-- a frame starts the idle time anew
abbrev pub clock_after : {X : Type 0} → Result (Next X) Error → ℕ → IdleClock → IdleClock
clock_after (Ok (Frame x)) at clock = record { idle = clock.idle; since = at }
clock_after (Ok Pending) at clock = clock
clock_after (Ok Ended) at clock = clock
clock_after (Err e) at clock = clock

-- each error is kept, but for want of memory
abbrev pub kept_after : {X : Type 0} → Result (Next X) Error → Option Error → Option Error
kept_after (Ok x) kept = kept
kept_after (Err (Memory a)) kept = kept
kept_after (Err e) kept = Some e

-- an error that is kept is the answer
abbrev pub Allows : {X : Type 0} → Option Error → Result (Next X) Error → Type 0
Allows None result = ⊤
Allows (Some e) result = result ≡ Err e

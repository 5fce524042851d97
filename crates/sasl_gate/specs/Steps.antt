-- One step of a negotiation.
use Rattle.std.specs.Prelude.{◌≡◌, ◌+◌, ℕ, List, Option, Some, None, Result, Ok, Err, ⊤, ◌⊎◌}
use Rattle.sasl_exchange.specs.amqp_sasl_bodies.declared.sasl_body.SaslBody.{SaslBody}
use Rattle.sasl_exchange.specs.amqp_sasl_bodies.SaslBytes.{SpellsSasl}
use Rattle.sasl_gate.specs.Frames.{HasSaslFrame, canonical_of}
use Rattle.amqp_wire.specs.declared.link.Link.{Ghosts}
use Rattle.amqp_wire.specs.Events.{LinkEvent}
use Rattle.sasl_exchange.specs.declared.exchange.Exchange.{Ghosts as Mechanism}
use Rattle.sasl_gate.specs.declared.gate.negotiation.Phase.{Phase}
use Rattle.sasl_gate.specs.declared.gate.negotiation.Phase.TheVariants.{Header, Frames, Failed}
use Rattle.sasl_gate.specs.declared.gate.negotiation.Step.{Step}
use Rattle.sasl_gate.specs.declared.gate.negotiation.Step.TheVariants.{Goes, Waits, Ends}
use Rattle.amqp_wire.specs.declared.frame.Front.{Front}
use Rattle.amqp_wire.specs.declared.frame.Front.TheVariants.{Partial, Refused, Foreign, Whole}
use Rattle.amqp_wire.specs.declared.link.Stop.{Stop}
use Rattle.amqp_wire.specs.declared.reading.Arrival.{Arrival}
use Rattle.amqp_wire.specs.declared.link.Stop.TheVariants.{Empty, End, Failed as FailedRead}
use Rattle.amqp_wire.specs.declared.link.IoKind.TheVariants.{Fault, End as InputEnd}
use Rattle.amqp_wire.specs.declared.reading.Wait.{Wait}
use Rattle.amqp_wire.specs.declared.reading.Wait.TheVariants.{Over, Stopped, Spent}
use Rattle.sasl_exchange.specs.declared.error.NegotiationError.{NegotiationError}
use Rattle.sasl_exchange.specs.declared.error.NegotiationError.TheVariants.{Io}
use Rattle.sasl_gate.specs.declared.gate.negotiation.GatePoll.{GatePoll}
use Rattle.sasl_gate.specs.declared.gate.negotiation.GatePoll.TheVariants.{Pending, Passed}
use Rattle.sasl_gate.specs.Negotiation.{Negotiating, GoesOn, IsHeldUp, IsAtRestOrFull, IsPassed, IsMemoryOr, IsOverlong}

-- what a step came to; want of memory comes to nothing
abbrev pub step_in : {E : Type 0} → Result Step E → Step
step_in (Ok s) = s
step_in (Err e) = Goes

abbrev pub IsStepEnd : {L X : Type 0} → Mechanism X → Step → List LinkEvent → Negotiating L X → ℕ → Type 0
IsStepEnd mechanism Goes events new left = ⊤
IsStepEnd mechanism Waits events new left = IsHeldUp events left × IsAtRestOrFull mechanism events new
IsStepEnd mechanism Ends events new left = ⊤

-- a negotiation made a step
pub record Stepped {L X : Type 0} (link : Ghosts L) (mechanism : Mechanism X) (old : Negotiating L X) (left : ℕ) (step : Step) (new : Negotiating L X) (left' : ℕ) : Type 0 where
  pub events : List LinkEvent
  pub goes : GoesOn link mechanism old left events new left'
  pub end : IsStepEnd mechanism step events new left'

abbrev pub rank_of : Phase → ℕ
rank_of Header = 1
rank_of Frames = 0
rank_of (Failed e) = 0

-- how many units a negotiation may still take or give
abbrev pub measure_of : {L X : Type 0} → Mechanism X → Negotiating L X → ℕ
measure_of mechanism n = rank_of n.phase + mechanism.left n.exchange

-- it has not failed
abbrev pub IsAlive : Phase → Type 0
IsAlive Header = ⊤
IsAlive Frames = ⊤
IsAlive (Failed e) = ⊥

abbrev pub IsFailed : Phase → Type 0
IsFailed Header = ⊥
IsFailed Frames = ⊥
IsFailed (Failed e) = ⊤

-- it has passed or failed
abbrev pub HasEnded : {L X : Type 0} → Mechanism X → Negotiating L X → Type 0
HasEnded mechanism n = IsFailed n.phase ⊎ IsPassed mechanism n

-- what comes of a read that gave nothing
abbrev pub IsStopAnswer : {L X : Type 0} → Stop → Negotiating L X → Step → Negotiating L X → Type 0
IsStopAnswer Empty old step new = (step ≡ Waits) × (new ≡ old)
IsStopAnswer End old step new = (step ≡ Ends) × (new ≡ record old { phase = Failed (Io InputEnd) })
IsStopAnswer FailedRead old step new = (step ≡ Ends) × (new ≡ record old { phase = Failed (Io Fault) })

-- what comes of a wait that did not bring what was waited for
abbrev pub IsWaitAnswer : {L X : Type 0} → Wait → Negotiating L X → Step → Negotiating L X → Type 0
IsWaitAnswer Over old step new = (step ≡ Waits) × (new ≡ old)
IsWaitAnswer Spent old step new = (step ≡ Waits) × (new ≡ old)
IsWaitAnswer (Stopped stop) old step new = IsStopAnswer stop old step new

abbrev pub ArrivesIn : {L X : Type 0} → Ghosts L → Mechanism X → Front → Wait → Negotiating L X → ℕ → Step → Negotiating L X → ℕ → Type 0
ArrivesIn link mechanism Partial wait old left step new left' = IsWaitAnswer wait old step new
ArrivesIn link mechanism Refused wait old left step new left' = Stepped link mechanism old left step new left'
ArrivesIn link mechanism Foreign wait old left step new left' = Stepped link mechanism old left step new left'
ArrivesIn link mechanism (Whole size start channel) wait old left step new left' = Stepped link mechanism old left step new left'

-- what comes of the front of the input
abbrev pub ArrivesAt : {L X : Type 0} → Ghosts L → Mechanism X → Arrival → Negotiating L X → ℕ → Step → Negotiating L X → ℕ → Type 0
ArrivesAt link mechanism arrival old left step new left' = ArrivesIn link mechanism arrival.front arrival.wait old left step new left'

-- the body that bytes spell, if there is one
abbrev pub IsDecoded : List ℕ → Option SaslBody → Type 0
IsDecoded bytes None = (x : SaslBody) → SpellsSasl bytes x → ⊥
IsDecoded bytes (Some body) = SpellsSasl bytes body

-- the bytes of the body that is owed, which spell it, if a frame has room for them
abbrev pub IsOwed : (SaslBody → Type 0) → Option (List ℕ) → Type 0
IsOwed owes None = (body : SaslBody) × owes body × IsOverlong body
IsOwed owes (Some bytes) = (body : SaslBody) × owes body × (bytes ≡ canonical_of body) × HasSaslFrame body

-- what a negotiation that has ended answers
abbrev pub IsEndAnswer : {L X : Type 0} → Mechanism X → Negotiating L X → Result GatePoll NegotiationError → Type 0
IsEndAnswer mechanism n (Ok Pending) = ⊥
IsEndAnswer mechanism n (Ok Passed) = IsPassed mechanism n
IsEndAnswer mechanism n (Err e) = IsMemoryOr e (n.phase ≡ Failed e)

-- Where a negotiation fails by its mechanism.
use Rattle.std.specs.Prelude.{◌≡◌, ◌⊎◌, ℕ, List, [], ⊤}
use Rattle.amqp_sasl_bodies.specs.declared.sasl_body.SaslBody.{SaslBody}
use Rattle.amqp_wire.specs.Events.{LinkEvent}
use Rattle.sasl_exchange.specs.declared.error.NegotiationError.{NegotiationError}
use Rattle.sasl_exchange.specs.declared.exchange.Turn.{Turn}
use Rattle.sasl_exchange.specs.declared.exchange.Turn.TheVariants.{Pass}
use Rattle.sasl_gate.specs.Negotiation.{IsCaused, IsCauseAfter, at_link, at_header, at_frame, by_body, too_long}

-- the mechanism is the cause: it refused a body, or told the other end that it refuses (OASIS AMQP 1.0, part 5, section 5.3.2)
abbrev pub IsByMechanism : (causes : NegotiationError → List SaslBody → List SaslBody → Type 0) (owes : SaslBody → Type 0) (e : NegotiationError) (events : List LinkEvent)
    → IsCaused causes owes e events → Type 0
IsByMechanism causes owes e events (at_link cause) = ⊥
IsByMechanism causes owes e events (at_header cause) = ⊥
IsByMechanism causes owes e events (at_frame given rest is cause) = ⊥
IsByMechanism causes owes e events (by_body given sent rest is cause) = ⊤
IsByMechanism causes owes e events (too_long x owed long is) = ⊥

-- the cause lies in what the link did, or in a body of the own end that has no frame of at most 512 bytes (part 5, section 5.3.1)
abbrev pub IsOwnCause : (causes : NegotiationError → List SaslBody → List SaslBody → Type 0) (owes : SaslBody → Type 0) (e : NegotiationError) (events : List LinkEvent)
    → IsCaused causes owes e events → Type 0
IsOwnCause causes owes e events (at_link cause) = ⊤
IsOwnCause causes owes e events (at_header cause) = ⊥
IsOwnCause causes owes e events (at_frame given rest is cause) = ⊥
IsOwnCause causes owes e events (by_body given sent rest is cause) = ⊥
IsOwnCause causes owes e events (too_long x owed long is) = ⊤

-- nothing follows the SASL layer of an end before it passes (part 5, section 5.3.2)
abbrev pub IsFollowed : Turn → List ℕ → Type 0
IsFollowed turn after = (after ≡ []) ⊎ (turn ≡ Pass)

-- a negotiation whose mechanism had been given these bodies and had sent those failed by it
abbrev pub FailsBy : (NegotiationError → List SaslBody → List SaslBody → Type 0) → (SaslBody → Type 0) → Turn → NegotiationError → List LinkEvent → List SaslBody → List SaslBody → Type 0
FailsBy causes owes turn e events given sent =
    (cause : IsCaused causes owes e events) × IsCauseAfter causes owes turn e events given sent cause × IsByMechanism causes owes e events cause

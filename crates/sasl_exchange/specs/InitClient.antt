-- The client's end of a SASL negotiation whose client says all in its init: ANONYMOUS (RFC 4505) or PLAIN (RFC 4616).
use Rattle.std.specs.Prelude.{◌≡◌, ℕ, Bool, true, false, List, [], ◌∷◌, Option, Contains, ⊤}
use Rattle.std.proofs.Common.{refl, sym, subst, ◌∙◌}
use Rattle.amqp_sasl_bodies.specs.declared.sasl_body.SaslBody.{SaslBody}
use Rattle.amqp_sasl_bodies.specs.declared.sasl_body.SaslBody.TheVariants.{Mechanisms, Outcome}
use Rattle.amqp_sasl_bodies.specs.declared.sasl_code.SaslCode.{SaslCode}
use Rattle.amqp_sasl_bodies.specs.declared.sasl_code.SaslCode.TheVariants as sasl
use Rattle.sasl_exchange.specs.declared.error.NegotiationError.{NegotiationError}
use Rattle.sasl_exchange.specs.declared.error.NegotiationError.TheVariants.{Memory, ProtocolHeaderMismatch, NotImplemented, SaslError, ScramError, Io, DecodeError, IllegalState, FramingError}
use Rattle.sasl_exchange.specs.declared.exchange.Exchange.{Ghosts as Mechanism}
use Rattle.sasl_exchange.specs.declared.exchange.Turn.{Turn}
use Rattle.sasl_exchange.specs.declared.exchange.Turn.TheVariants.{Send, Receive, Refuse, Pass}
use Rattle.sasl_exchange.specs.declared.init_client.InitClientStage.{InitClientStage}
use Rattle.sasl_exchange.specs.declared.init_client.InitClientStage.TheVariants.{AwaitsMechanisms, OwesInit, AwaitsOutcome, Passed}
use Rattle.sasl_exchange.specs.ClientEnds.{is_refusal, HasMechanisms, IsUnlisted, EndsInRefusal, IsOutOfOrder}
use Rattle.sasl_exchange.specs.Exchange.{refused_with}
use Rattle.sasl_exchange.specs.ScramBodies.{mechanisms_body, init_body, outcome_body}

-- such an end: its mechanism's name, what its init says, the host that it means to reach, and how far it is
pub record InitClientEnd : Type 0 where
  pub mechanism : List ℕ
  pub response : Option (List ℕ)
  pub hostname : Option (List ℕ)
  pub stage : InitClientStage

abbrev pub turn_in : InitClientStage → Turn
turn_in AwaitsMechanisms = Receive
turn_in OwesInit = Send
turn_in AwaitsOutcome = Receive
turn_in Passed = Pass

abbrev pub init_client_turn : InitClientEnd → Turn
init_client_turn x = turn_in x.stage

abbrev pub left_in : InitClientStage → ℕ
left_in AwaitsMechanisms = 3
left_in OwesInit = 2
left_in AwaitsOutcome = 1
left_in Passed = 0

abbrev pub init_client_left : InitClientEnd → ℕ
init_client_left x = left_in x.stage

-- the init of an end
abbrev pub own_init : InitClientEnd → SaslBody
own_init x = init_body x.mechanism x.response x.hostname

abbrev pub owes_in : InitClientStage → InitClientEnd → SaslBody → Type 0
owes_in AwaitsMechanisms x body = ⊥
owes_in OwesInit x body = body ≡ own_init x
owes_in AwaitsOutcome x body = ⊥
owes_in Passed x body = ⊥

-- the body that an end owes
abbrev pub init_client_owes : InitClientEnd → SaslBody → Type 0
init_client_owes x body = owes_in x.stage x body

-- an end that has passed: the outcome is `Ok`
pub record HasPassed (x : InitClientEnd) (given sent : List SaslBody) : Type 0 where
  pub names : List (List ℕ)
  pub payload : Option (List ℕ)
  pub given_is : given ≡ mechanisms_body names ∷ outcome_body sasl.Ok payload ∷ []
  pub listed : Contains names x.mechanism
  pub sent_is : sent ≡ own_init x ∷ []

abbrev pub holds_in : InitClientStage → InitClientEnd → List SaslBody → List SaslBody → Type 0
holds_in AwaitsMechanisms x given sent = (given ≡ []) × (sent ≡ [])
holds_in OwesInit x given sent = HasMechanisms x.mechanism given sent []
holds_in AwaitsOutcome x given sent = HasMechanisms x.mechanism given sent (own_init x ∷ [])
holds_in Passed x given sent = HasPassed x given sent

-- the bodies that an end was given and those that it sent
abbrev pub init_client_holds : InitClientEnd → List SaslBody → List SaslBody → Type 0
init_client_holds x given sent = holds_in x.stage x given sent

-- two ends were made for the same mechanism, say the same in their init, and mean the same host
pub record InitClientSame (x y : InitClientEnd) : Type 0 where
  pub mechanism : x.mechanism ≡ y.mechanism
  pub response : x.response ≡ y.response
  pub hostname : x.hostname ≡ y.hostname

-- whether a body may be the next one for a client that was given those before: mechanisms, outcome, and at any time an outcome other
-- than `Ok` (OASIS AMQP 1.0, part 5, sections 5.3.2 and 5.3.3.6)
abbrev pub is_next : List SaslBody → SaslBody → Bool
is_next [] (Mechanisms m) = true
is_next (a ∷ []) (Outcome o) = true
is_next before (Outcome o) = is_refusal o.code
is_next before body = false

-- why a client fails, by what it was given and what it sent
abbrev pub init_client_causes : InitClientEnd → NegotiationError → List SaslBody → List SaslBody → Type 0
init_client_causes x (Memory a) given sent = ⊥
init_client_causes x (ProtocolHeaderMismatch h) given sent = ⊥
init_client_causes x NotImplemented given sent = IsUnlisted x.mechanism given
init_client_causes x (SaslError code payload) given sent = EndsInRefusal code payload given
init_client_causes x (ScramError kind) given sent = ⊥
init_client_causes x (Io kind) given sent = ⊥
init_client_causes x DecodeError given sent = ⊥
init_client_causes x IllegalState given sent = IsOutOfOrder is_next given
init_client_causes x FramingError given sent = ⊥

-- the client's end as a mechanism
abbrev pub init_client_mechanism : Mechanism InitClientEnd
init_client_mechanism = record {
  holds = init_client_holds;
  causes = init_client_causes;
  owes = init_client_owes;
  turn_of = init_client_turn;
  left = init_client_left;
  same = InitClientSame;
}

-- ---- the laws of the mechanism

-- it refuses
abbrev Refuses : Turn → Type 0
Refuses Send = ⊥
Refuses Receive = ⊥
Refuses (Refuse code) = ⊤
Refuses Pass = ⊥

never_refuses : (stage : InitClientStage) → Refuses (turn_in stage) → ⊥
never_refuses AwaitsMechanisms h = h
never_refuses OwesInit h = h
never_refuses AwaitsOutcome h = h
never_refuses Passed h = h

pub init_client_refusal : (x : InitClientEnd) (code : SaslCode) (given sent : List SaslBody) → init_client_turn x ≡ Refuse code
    → init_client_holds x given sent → init_client_causes x (refused_with code) given sent
init_client_refusal x code given sent h held = absurd (never_refuses x.stage (subst Refuses (sym h) tt))

pub init_client_same_self : (x : InitClientEnd) → InitClientSame x x
init_client_same_self x = record { mechanism = refl; response = refl; hostname = refl }

pub init_client_same_then : (x y z : InitClientEnd) → InitClientSame x y → InitClientSame y z → InitClientSame x z
init_client_same_then x y z a b = record {
  mechanism = a.mechanism ∙ b.mechanism;
  response = a.response ∙ b.response;
  hostname = a.hostname ∙ b.hostname;
}

-- ---- the ends of an exchange

-- an end that has read and written nothing
abbrev pub init_client_begun : List ℕ → Option (List ℕ) → Option (List ℕ) → InitClientEnd
init_client_begun mechanism response hostname = record { mechanism = mechanism; response = response; hostname = hostname; stage = AwaitsMechanisms }

-- The SASL bodies of an exchange with SCRAM (OASIS AMQP 1.0, part 5, section 5.3.3; RFC 5802, section 5).
use Rattle.std.specs.Prelude.{◌≡◌, ◌<◌, ℕ, List, [], ◌∷◌, ◌++◌, Option, Result, OnErr}
use Rattle.std.specs.declared.alloc.AllocError.{AllocError}
use Rattle.amqp_sasl_bodies.specs.declared.sasl_body.SaslBody.{SaslBody}
use Rattle.amqp_sasl_bodies.specs.declared.sasl_body.SaslBody.TheVariants.{Mechanisms, Init, Challenge, Response, Outcome}
use Rattle.amqp_sasl_bodies.specs.declared.sasl_code.SaslCode.{SaslCode}
use Rattle.sasl_exchange.specs.declared.exchange.Exchange.{Ghosts as Mechanism}
use Rattle.sasl_exchange.specs.declared.exchange.Verdict.{Verdict}
use Rattle.sasl_exchange.specs.Exchange.{OnTaken, OnRefused}

abbrev pub mechanisms_body : List (List ℕ) → SaslBody
mechanisms_body names = Mechanisms (record { sasl_server_mechanisms = names })

abbrev pub init_body : List ℕ → Option (List ℕ) → Option (List ℕ) → SaslBody
init_body mechanism response hostname = Init (record { mechanism = mechanism; initial_response = response; hostname = hostname })

abbrev pub challenge_body : List ℕ → SaslBody
challenge_body text = Challenge (record { challenge = text })

abbrev pub response_body : List ℕ → SaslBody
response_body text = Response (record { response = text })

abbrev pub outcome_body : SaslCode → Option (List ℕ) → SaslBody
outcome_body code payload = Outcome (record { code = code; additional_data = payload })

-- what became of a body that an end of a mechanism read
pub record Received {X : Type 0} (mechanism : Mechanism X) (old : X) (body : SaslBody) (result : Result Verdict AllocError) (new : X) : Type 0 where
  pub taken : OnTaken result ((given sent : List SaslBody) → mechanism.holds old given sent → mechanism.holds new (given ++ body ∷ []) sent)
  pub less : OnTaken result (mechanism.left new < mechanism.left old)
  pub same : OnTaken result (mechanism.same old new)
  pub refused : OnRefused result (λ e. (given sent : List SaslBody) → mechanism.holds old given sent → mechanism.causes old e (given ++ body ∷ []) sent)
  pub kept : OnRefused result (λ _. new ≡ old)
  pub err : OnErr result (new ≡ old)

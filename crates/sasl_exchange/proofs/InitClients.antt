-- The client's end whose client says all in its init: what it reads, and what it passes on.
use Rattle.std.proofs.Common.{◌≡◌, ◌≢◌, ◌<◌, ◌≤◌, arith, List, [], ◌∷◌, ◌++◌, length, Ok, refl, sym, ap, ◌∙◌, subst}
use Rattle.std.specs.Prelude.{⊤}
use Rattle.amqp_sasl_bodies.specs.declared.sasl_body.SaslBody.{SaslBody}
use Rattle.amqp_sasl_bodies.specs.declared.sasl_body.SaslBody.TheVariants.{Outcome}
use Rattle.amqp_sasl_bodies.specs.declared.sasl.SaslOutcome.{SaslOutcome}
use Rattle.amqp_sasl_bodies.specs.declared.sasl_code.SaslCode.{SaslCode}
use Rattle.amqp_sasl_bodies.specs.declared.sasl_code.SaslCode.TheVariants as sasl
use Rattle.sasl_exchange.specs.declared.error.NegotiationError.TheVariants.{SaslError}
use Rattle.sasl_exchange.specs.declared.exchange.Turn.{Turn}
use Rattle.sasl_exchange.specs.declared.exchange.Turn.TheVariants.{Send, Receive, Refuse, Pass}
use Rattle.sasl_exchange.specs.declared.exchange.Verdict.TheVariants.{Taken, Refused}
use Rattle.sasl_exchange.specs.declared.init_client.InitClientStage.{InitClientStage}
use Rattle.sasl_exchange.specs.declared.init_client.InitClientStage.TheVariants.{AwaitsMechanisms, OwesInit, AwaitsOutcome, Passed}
use Rattle.sasl_exchange.specs.ClientEnds.{HasMechanisms}
use Rattle.sasl_exchange.specs.InitClient.{InitClientEnd, turn_in, init_client_turn, left_in, own_init, HasPassed, holds_in, init_client_holds, init_client_mechanism}
use Rattle.sasl_exchange.specs.ScramBodies.{mechanisms_body, outcome_body, Received}

-- ---- how many bodies such a client sends

few_in : (stage : InitClientStage) (x : InitClientEnd) (given sent : List SaslBody) → holds_in stage x given sent → length sent ≤ 1
few_in AwaitsMechanisms x given sent h = let e = ap (λ (u : List SaslBody). length u) h.1 in omega (arith, e)
few_in OwesInit x given sent h = let e = ap (λ (u : List SaslBody). length u) h.sent_is in omega (arith, e)
few_in AwaitsOutcome x given sent h = let e = ap (λ (u : List SaslBody). length u) h.sent_is in omega (arith, e)
few_in Passed x given sent h = let e = ap (λ (u : List SaslBody). length u) h.sent_is in omega (arith, e)

-- one at most
pub init_client_few : (x : InitClientEnd) (given sent : List SaslBody) → init_client_holds x given sent → length sent ≤ 1
init_client_few x given sent h = few_in x.stage x given sent h

-- ---- bodies that such a client reads

-- an outcome other than `Ok`
pub received_refusal : (x : InitClientEnd) (o : SaslOutcome) → o.code ≢ sasl.Ok → Received init_client_mechanism x (Outcome o) (Ok (Refused (SaslError o.code o.additional_data))) x
received_refusal x o ne = record { taken = tt; less = tt; same = tt; refused = λ given sent h. (given, refl, ne); kept = refl; err = tt }

passed_in : (x : InitClientEnd) (o : SaslOutcome) (given sent : List SaslBody) → o.code ≡ sasl.Ok → HasMechanisms x.mechanism given sent (own_init x ∷ [])
    → HasPassed (record x { stage = Passed }) (given ++ Outcome o ∷ []) sent
passed_in x o given sent ok h = record {
  names = h.names;
  payload = o.additional_data;
  given_is = ap (λ (u : List SaslBody). u ++ Outcome o ∷ []) h.given_is ∙ ap (λ (code : SaslCode). mechanisms_body h.names ∷ outcome_body code o.additional_data ∷ []) ok;
  listed = h.listed;
  sent_is = h.sent_is;
}

less_outcome : (stage : InitClientStage) → stage ≡ AwaitsOutcome → 0 < left_in stage
less_outcome stage e = subst (λ (s : InitClientStage). 0 < left_in s) (sym e) (omega arith)

-- outcome `Ok`
pub received_outcome : (x : InitClientEnd) (o : SaslOutcome) → x.stage ≡ AwaitsOutcome → o.code ≡ sasl.Ok
    → Received init_client_mechanism x (Outcome o) (Ok Taken) (record x { stage = Passed })
received_outcome x o stage ok = record {
  taken = λ given sent h. passed_in x o given sent ok (subst (λ (s : InitClientStage). holds_in s x given sent) stage h);
  less = less_outcome x.stage stage;
  same = record { mechanism = refl; response = refl; hostname = refl };
  refused = tt;
  kept = tt;
  err = tt;
}

-- ---- an end that has passed

abbrev Passes : Turn → Type 0
Passes Send = ⊥
Passes Receive = ⊥
Passes (Refuse code) = ⊥
Passes Pass = ⊤

passed_stage : (stage : InitClientStage) (x : InitClientEnd) (given sent : List SaslBody) → Passes (turn_in stage) → holds_in stage x given sent → HasPassed x given sent
passed_stage AwaitsMechanisms x given sent t h = absurd t
passed_stage OwesInit x given sent t h = absurd t
passed_stage AwaitsOutcome x given sent t h = absurd t
passed_stage Passed x given sent t h = h

-- a client that passes has passed
pub init_client_passes : (x : InitClientEnd) (given sent : List SaslBody) → init_client_turn x ≡ Pass → init_client_holds x given sent → HasPassed x given sent
init_client_passes x given sent turn held = passed_stage x.stage x given sent (subst Passes (sym turn) tt) held

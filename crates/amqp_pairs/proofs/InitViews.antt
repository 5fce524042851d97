-- How far the ends of an exchange with ANONYMOUS or PLAIN are, by what each was given and what it sent.
use Rattle.std.proofs.Common.{◌≡◌, ◌≤◌, ℕ, List, [], ◌∷◌, length, Option, None, Contains, refl, ap, arith}
use Rattle.amqp_sasl_bodies.specs.declared.sasl_body.SaslBody.{SaslBody}
use Rattle.amqp_sasl_bodies.specs.declared.sasl_code.SaslCode.{SaslCode}
use Rattle.amqp_sasl_bodies.specs.declared.sasl_code.SaslCode.TheVariants as sasl
use Rattle.amqp_opening.specs.Authentication.{passwords_for}
use Rattle.sasl_exchange.specs.declared.exchange.Turn.TheVariants.{Send, Receive, Pass}
use Rattle.sasl_exchange.specs.declared.init_client.InitClientStage.{InitClientStage}
use Rattle.sasl_exchange.specs.declared.init_client.InitClientStage.TheVariants.{AwaitsMechanisms, OwesInit, AwaitsOutcome, Passed}
use Rattle.sasl_exchange.specs.declared.init_server.InitCheck.{InitCheck}
use Rattle.sasl_exchange.specs.declared.init_server.InitServerStage.{InitServerStage}
use Rattle.sasl_exchange.specs.declared.init_server.InitServerStage.TheVariants.{OwesMechanisms, AwaitsInit, OwesOutcome, Told}
use Rattle.sasl_exchange.specs.InitClient.{InitClientEnd, holds_in as client_holds_in, own_init, turn_in as client_turn_in}
use Rattle.sasl_exchange.specs.InitServer.{IsJudged, check_mechanisms, holds_in, told_turn, turn_in}
use Rattle.sasl_exchange.specs.ScramBodies.{mechanisms_body, outcome_body}
use Rattle.sasl_scram.specs.States.{Account}

-- ---- a client

pub data InitClientView (stage : InitClientStage) (x : InitClientEnd) (given sent : List SaslBody) : Type 0 where
  awaits_mechanisms : client_turn_in stage ≡ Receive → given ≡ [] → sent ≡ [] → InitClientView stage x given sent
  owes_init : (names : List (List ℕ)) → client_turn_in stage ≡ Send → given ≡ mechanisms_body names ∷ [] → Contains names x.mechanism → sent ≡ [] → InitClientView stage x given sent
  awaits_outcome : (names : List (List ℕ)) → client_turn_in stage ≡ Receive → given ≡ mechanisms_body names ∷ [] → Contains names x.mechanism → sent ≡ own_init x ∷ []
      → InitClientView stage x given sent
  passed : (names : List (List ℕ)) (payload : Option (List ℕ)) → client_turn_in stage ≡ Pass → given ≡ mechanisms_body names ∷ outcome_body sasl.Ok payload ∷ []
      → Contains names x.mechanism → sent ≡ own_init x ∷ [] → InitClientView stage x given sent

pub init_client_view : (stage : InitClientStage) (x : InitClientEnd) (given sent : List SaslBody) → client_holds_in stage x given sent → InitClientView stage x given sent
init_client_view AwaitsMechanisms x given sent h = awaits_mechanisms refl h.0 h.1
init_client_view OwesInit x given sent h = owes_init h.names refl h.given_is h.listed h.sent_is
init_client_view AwaitsOutcome x given sent h = awaits_outcome h.names refl h.given_is h.listed h.sent_is
init_client_view Passed x given sent h = passed h.names h.payload refl h.given_is h.listed h.sent_is

module _ (stage : InitClientStage) (x : InitClientEnd) (given sent : List SaslBody) where
  -- it sends one body at most
  pub init_client_few : InitClientView stage x given sent → length sent ≤ 1
  init_client_few (awaits_mechanisms t g s) = let n = ap (λ (u : List SaslBody). length u) s in omega (arith, n)
  init_client_few (owes_init names t g c s) = let n = ap (λ (u : List SaslBody). length u) s in omega (arith, n)
  init_client_few (awaits_outcome names t g c s) = let n = ap (λ (u : List SaslBody). length u) s in omega (arith, n)
  init_client_few (passed names payload t g c s) = let n = ap (λ (u : List SaslBody). length u) s in omega (arith, n)

-- ---- a listener

pub data InitListenerView (check : InitCheck Account) (stage : InitServerStage) (given sent : List SaslBody) : Type 0 where
  owes_mechanisms : turn_in stage ≡ Send → given ≡ [] → sent ≡ [] → InitListenerView check stage given sent
  awaits_init : turn_in stage ≡ Receive → given ≡ [] → sent ≡ check_mechanisms check ∷ [] → InitListenerView check stage given sent
  owes_outcome : (code : SaslCode) (body : SaslBody) → turn_in stage ≡ Send → given ≡ body ∷ [] → IsJudged passwords_for check body code → sent ≡ check_mechanisms check ∷ []
      → InitListenerView check stage given sent
  told : (code : SaslCode) (body : SaslBody) → turn_in stage ≡ told_turn code → given ≡ body ∷ [] → IsJudged passwords_for check body code
      → sent ≡ check_mechanisms check ∷ outcome_body code None ∷ [] → InitListenerView check stage given sent

pub init_listener_view : (check : InitCheck Account) (stage : InitServerStage) (given sent : List SaslBody) → holds_in passwords_for check stage given sent → InitListenerView check stage given sent
init_listener_view check OwesMechanisms given sent h = owes_mechanisms refl h.0 h.1
init_listener_view check AwaitsInit given sent h = awaits_init refl h.0 h.1
init_listener_view check (OwesOutcome code) given sent h = owes_outcome code h.body refl h.given_is h.judged h.sent_is
init_listener_view check (Told code) given sent h = told code h.body refl h.given_is h.judged h.sent_is

module _ (check : InitCheck Account) (stage : InitServerStage) (given sent : List SaslBody) where
  -- it sends two bodies at most
  pub init_listener_few : InitListenerView check stage given sent → length sent ≤ 2
  init_listener_few (owes_mechanisms t g s) = let n = ap (λ (u : List SaslBody). length u) s in omega (arith, n)
  init_listener_few (awaits_init t g s) = let n = ap (λ (u : List SaslBody). length u) s in omega (arith, n)
  init_listener_few (owes_outcome code body t g j s) = let n = ap (λ (u : List SaslBody). length u) s in omega (arith, n)
  init_listener_few (told code body t g j s) = let n = ap (λ (u : List SaslBody). length u) s in omega (arith, n)

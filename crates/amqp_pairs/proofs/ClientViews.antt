-- How far a client is that was given one challenge at most, by what it was given and what it sent.
use Rattle.std.proofs.Common.{◌≡◌, ℕ, List, [], ◌∷◌, Some, refl, ap, ◌∙◌}
use Rattle.amqp_sasl_bodies.specs.declared.sasl_body.SaslBody.{SaslBody}
use Rattle.amqp_sasl_bodies.specs.declared.sasl_code.SaslCode.TheVariants as sasl
use Rattle.base64.specs.Engines.{standard}
use Rattle.base64.specs.GeneralPurpose.{encode_of}
use Rattle.sasl_exchange.specs.declared.scram_client.ClientStage.{ClientStage}
use Rattle.sasl_exchange.specs.declared.scram_client.ClientStage.TheVariants.{AwaitsMechanisms, OwesInit, AwaitsChallenge, OwesResponse, AwaitsOutcome, OwesEmptyResponse, AwaitsEnd, Passed}
use Rattle.sasl_exchange.specs.declared.exchange.Turn.TheVariants.{Send, Receive, Pass}
use Rattle.sasl_scram.specs.declared.client.ClientPhase.{ClientPhase}
use Rattle.sasl_scram.specs.declared.client.ClientPhase.TheVariants.{Unanswered, Answered, Verified}
use Rattle.sasl_scram.specs.Check.{ClientAnswers}
use Rattle.sasl_exchange.specs.ScramClient.{ClientEnd, HasAnswer, HasPassed, IsFinal, in_challenge, in_outcome, client_init, holds_in, turn_in}
use Rattle.sasl_scram.specs.Hashes.{digest_of, block_of, output_of}
use Rattle.sasl_exchange.specs.ScramBodies.{challenge_body, mechanisms_body, outcome_body, response_body}
use Rattle.sasl_scram.specs.States.{ForAnswered}
use Rattle.sasl_scram.specs.Texts.{IsServerFinal}
use Rattle.amqp_pairs.proofs.Bodies.{OneChallenge}

-- an answer to a server first
pub record IsAnswered (x : ClientEnd) (first final : List ℕ) : Type 0 where
  pub signature : List ℕ
  pub answers : ClientAnswers (digest_of x.hash) (block_of x.hash) (output_of x.hash) x.client.user x.client.password x.client.nonce first final signature

pub data ClientView (stage : ClientStage) (x : ClientEnd) (given sent : List SaslBody) : Type 0 where
  awaits_mechanisms : turn_in stage ≡ Receive → given ≡ [] → sent ≡ [] → ClientView stage x given sent
  owes_init : (names : List (List ℕ)) → turn_in stage ≡ Send → given ≡ mechanisms_body names ∷ [] → sent ≡ [] → ClientView stage x given sent
  awaits_challenge : (names : List (List ℕ)) → turn_in stage ≡ Receive → given ≡ mechanisms_body names ∷ [] → sent ≡ client_init x ∷ [] → ClientView stage x given sent
  owes_response : (names : List (List ℕ)) (first : List ℕ) → turn_in stage ≡ Send → given ≡ mechanisms_body names ∷ challenge_body first ∷ [] → sent ≡ client_init x ∷ []
      → ClientView stage x given sent
  awaits_outcome : (names : List (List ℕ)) (first final : List ℕ) → turn_in stage ≡ Receive → given ≡ mechanisms_body names ∷ challenge_body first ∷ []
      → sent ≡ client_init x ∷ response_body final ∷ [] → IsAnswered x first final → ClientView stage x given sent
  passed : (names : List (List ℕ)) (first final told : List ℕ) → turn_in stage ≡ Pass
      → given ≡ mechanisms_body names ∷ challenge_body first ∷ outcome_body sasl.Ok (Some told) ∷ []
      → sent ≡ client_init x ∷ response_body final ∷ [] → (a : IsAnswered x first final) → IsServerFinal told (encode_of standard a.signature) → ClientView stage x given sent

answered_in : (phase : ClientPhase) (stage : ClientStage) (x : ClientEnd) (given sent : List SaslBody) → turn_in stage ≡ Receive
    → ForAnswered phase (λ a. HasAnswer x a given sent (client_init x ∷ response_body a.client_final ∷ [])) → ClientView stage x given sent
answered_in Unanswered stage x given sent t h = absurd h
answered_in (Answered a) stage x given sent t h =
    awaits_outcome h.names a.server_first a.client_final t h.given_is h.sent_is (record { signature = a.signature; answers = h.answers })
answered_in Verified stage x given sent t h = absurd h

owed_in : (phase : ClientPhase) (text : List ℕ) (x : ClientEnd) (given sent : List SaslBody)
    → ForAnswered phase (λ a. (a.client_final ≡ text) × HasAnswer x a given sent (client_init x ∷ [])) → ClientView (OwesResponse text) x given sent
owed_in Unanswered text x given sent h = absurd h
owed_in (Answered a) text x given sent h = owes_response h.1.names a.server_first refl h.1.given_is h.1.sent_is
owed_in Verified text x given sent h = absurd h

passed_in : (x : ClientEnd) (given sent : List SaslBody) → OneChallenge given → (h : HasPassed x given sent) → IsFinal h.server_final h.told h.replied → ClientView Passed x given sent
passed_in x given sent one h (in_outcome told replied) =
    passed h.names h.server_first h.client_final h.server_final refl
    (h.given_is ∙ ap (λ (u : List SaslBody). mechanisms_body h.names ∷ challenge_body h.server_first ∷ u) told)
    (h.sent_is ∙ ap (λ (u : List SaslBody). client_init x ∷ response_body h.client_final ∷ u) replied)
    (record { signature = h.check.signature; answers = h.check.answers }) h.check.server_final_is
passed_in x given sent one h (in_challenge payload told replied) =
    absurd (one (mechanisms_body h.names) (challenge_body h.server_first) h.server_final (outcome_body sasl.Ok payload ∷ [])
    (h.given_is ∙ ap (λ (u : List SaslBody). mechanisms_body h.names ∷ challenge_body h.server_first ∷ u) told))

pub client_view : (stage : ClientStage) (x : ClientEnd) (given sent : List SaslBody) → OneChallenge given → holds_in stage x given sent → ClientView stage x given sent
client_view AwaitsMechanisms x given sent one h = awaits_mechanisms refl h.0 h.1
client_view OwesInit x given sent one h = owes_init h.names refl h.given_is h.sent_is
client_view AwaitsChallenge x given sent one h = awaits_challenge h.names refl h.given_is h.sent_is
client_view (OwesResponse text) x given sent one h = owed_in x.client.phase text x given sent h
client_view AwaitsOutcome x given sent one h = answered_in x.client.phase AwaitsOutcome x given sent refl h
client_view OwesEmptyResponse x given sent one h = absurd (one (mechanisms_body h.names) (challenge_body h.server_first) h.server_final [] h.given_is)
client_view AwaitsEnd x given sent one h = absurd (one (mechanisms_body h.names) (challenge_body h.server_first) h.server_final [] h.given_is)
client_view Passed x given sent one h = passed_in x given sent one h h.final

-- ---- what it sent, and what it was given before that

pub data ClientSent (x : ClientEnd) (given sent : List SaslBody) : Type 0 where
  nothing : sent ≡ [] → ClientSent x given sent
  init : sent ≡ client_init x ∷ [] → ClientSent x given sent
  response : (list : SaslBody) (first final : List ℕ) (more : List SaslBody) → sent ≡ client_init x ∷ response_body final ∷ [] → given ≡ list ∷ challenge_body first ∷ more
      → IsAnswered x first final → ClientSent x given sent

pub client_sent : (stage : ClientStage) (x : ClientEnd) (given sent : List SaslBody) → ClientView stage x given sent → ClientSent x given sent
client_sent stage x given sent (awaits_mechanisms t g s) = nothing s
client_sent stage x given sent (owes_init names t g s) = nothing s
client_sent stage x given sent (awaits_challenge names t g s) = init s
client_sent stage x given sent (owes_response names first t g s) = init s
client_sent stage x given sent (awaits_outcome names first final t g s a) = response (mechanisms_body names) first final [] s g a
client_sent stage x given sent (passed names first final told t g s a f) = response (mechanisms_body names) first final (outcome_body sasl.Ok (Some told) ∷ []) s g a

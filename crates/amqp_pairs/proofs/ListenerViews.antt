-- How far a listener is, by what it was given and what it sent.
use Rattle.std.proofs.Common.{◌≡◌, ℕ, List, [], ◌∷◌, ◌++◌, Option, Some, None, refl, ap, ◌∙◌}
use Rattle.amqp_sasl_bodies.specs.declared.sasl_body.SaslBody.{SaslBody}
use Rattle.amqp_sasl_bodies.specs.declared.sasl_code.SaslCode.{SaslCode}
use Rattle.amqp_sasl_bodies.specs.declared.sasl_code.SaslCode.TheVariants as sasl
use Rattle.amqp_opening.specs.Authentication.{stored_for}
use Rattle.sasl_exchange.specs.declared.exchange.Turn.TheVariants.{Send, Receive, Refuse, Pass}
use Rattle.sasl_exchange.specs.declared.scram_server.ServerStage.{ServerStage}
use Rattle.sasl_exchange.specs.declared.scram_server.ServerStage.TheVariants.{OwesMechanisms, AwaitsInit, OwesChallenge, AwaitsResponse, OwesOutcome, Passed, OwesRefusal, Refused}
use Rattle.sasl_scram.specs.declared.server.ServerPhase.{ServerPhase}
use Rattle.sasl_scram.specs.declared.server.ServerPhase.TheVariants.{Unasked, Challenged, Proved}
use Rattle.sasl_scram.specs.declared.stored.StoredPassword.{StoredPassword}
use Rattle.sasl_scram.specs.Check.{ServerAnswers, ServerCheck}
use Rattle.sasl_scram.specs.declared.hash.ScramHash.{ScramHash}
use Rattle.sasl_scram.specs.Hashes.{digest_of, block_of, output_of, mechanism_of}
use Rattle.sasl_exchange.specs.ScramBodies.{challenge_body, init_body, outcome_body, response_body}
use Rattle.sasl_exchange.specs.ScramServer.{ServerEnd, HasChallenge, IsRefusalCause, Waited, for_init, for_response, holds_in, own_mechanisms, turn_in}
use Rattle.sasl_scram.specs.States.{Account, ForChallenged, ServerState}

-- a challenge to a client first
pub record IsChallenge (stored : List ℕ → Option StoredPassword) (own client_first first : List ℕ) : Type 0 where
  pub user : List ℕ
  pub whole : List ℕ
  pub keys : StoredPassword
  pub answers : ServerAnswers stored own client_first user whole first keys

-- what a listener had sent when it was given the last of these bodies
pub data Asking (hash : ScramHash) (stored : List ℕ → Option StoredPassword) (own : List ℕ) (given sent : List SaslBody) : Type 0 where
  at_init : (body : SaslBody) → given ≡ body ∷ [] → sent ≡ own_mechanisms hash ∷ [] → Asking hash stored own given sent
  at_response : (client_first first : List ℕ) (hostname : Option (List ℕ)) (body : SaslBody) → given ≡ init_body (mechanism_of hash) (Some client_first) hostname ∷ body ∷ []
      → sent ≡ own_mechanisms hash ∷ challenge_body first ∷ [] → IsChallenge stored own client_first first → Asking hash stored own given sent

pub data ListenerView (hash : ScramHash) (stage : ServerStage) (stored : List ℕ → Option StoredPassword) (own : List ℕ) (given sent : List SaslBody) : Type 0 where
  owes_mechanisms : turn_in stage ≡ Send → given ≡ [] → sent ≡ [] → ListenerView hash stage stored own given sent
  awaits_init : turn_in stage ≡ Receive → given ≡ [] → sent ≡ own_mechanisms hash ∷ [] → ListenerView hash stage stored own given sent
  owes_challenge : (client_first first : List ℕ) (hostname : Option (List ℕ)) → turn_in stage ≡ Send → given ≡ init_body (mechanism_of hash) (Some client_first) hostname ∷ []
      → sent ≡ own_mechanisms hash ∷ [] → IsChallenge stored own client_first first → ListenerView hash stage stored own given sent
  awaits_response : (client_first first : List ℕ) (hostname : Option (List ℕ)) → turn_in stage ≡ Receive → given ≡ init_body (mechanism_of hash) (Some client_first) hostname ∷ []
      → sent ≡ own_mechanisms hash ∷ challenge_body first ∷ [] → IsChallenge stored own client_first first → ListenerView hash stage stored own given sent
  owes_outcome : (user client_first first final told : List ℕ) (hostname : Option (List ℕ)) → turn_in stage ≡ Send
      → given ≡ init_body (mechanism_of hash) (Some client_first) hostname ∷ response_body final ∷ [] → sent ≡ own_mechanisms hash ∷ challenge_body first ∷ []
      → ServerCheck (digest_of hash) (block_of hash) (output_of hash) stored own user client_first first final told → ListenerView hash stage stored own given sent
  passed : (user client_first first final told : List ℕ) (hostname : Option (List ℕ)) → turn_in stage ≡ Pass
      → given ≡ init_body (mechanism_of hash) (Some client_first) hostname ∷ response_body final ∷ []
      → sent ≡ own_mechanisms hash ∷ challenge_body first ∷ outcome_body sasl.Ok (Some told) ∷ []
      → ServerCheck (digest_of hash) (block_of hash) (output_of hash) stored own user client_first first final told → ListenerView hash stage stored own given sent
  owes_refusal : (code : SaslCode) → turn_in stage ≡ Send → IsRefusalCause hash stored own code given → Asking hash stored own given sent → ListenerView hash stage stored own given sent
  refused : (code : SaslCode) (before : List SaslBody) → turn_in stage ≡ Refuse code → IsRefusalCause hash stored own code given → sent ≡ before ++ outcome_body code None ∷ []
      → Asking hash stored own given before → ListenerView hash stage stored own given sent

-- ---- what a listener waits for

pub asking : (hash : ScramHash) (stored : List ℕ → Option StoredPassword) (own : List ℕ) (given sent : List SaslBody) → Waited hash stored own given sent → Asking hash stored own given sent
asking hash stored own given sent (for_init body g s) = at_init body g s
asking hash stored own given sent (for_response c before body g h) =
    at_response c.client_first c.server_first h.hostname body (g ∙ ap (λ (u : List SaslBody). u ++ body ∷ []) h.given_is) h.sent_is
    (record { user = c.user; whole = c.nonce; keys = h.keys; answers = h.answers })

-- ---- the view

challenge_in : (hash : ScramHash) (phase : ServerPhase) (text : List ℕ) (s : ServerState Account) (given sent : List SaslBody)
    → ForChallenged phase (λ c. (c.server_first ≡ text) × HasChallenge hash (stored_for s.provider) s.nonce c given sent (own_mechanisms hash ∷ []))
    → ListenerView hash (OwesChallenge text) (stored_for s.provider) s.nonce given sent
challenge_in hash Unasked text s given sent h = absurd h
challenge_in hash (Challenged c) text s given sent h =
    owes_challenge c.client_first c.server_first h.1.hostname refl h.1.given_is h.1.sent_is (record { user = c.user; whole = c.nonce; keys = h.1.keys; answers = h.1.answers })
challenge_in hash Proved text s given sent h = absurd h

response_in : (hash : ScramHash) (phase : ServerPhase) (s : ServerState Account) (given sent : List SaslBody)
    → ForChallenged phase (λ c. HasChallenge hash (stored_for s.provider) s.nonce c given sent (own_mechanisms hash ∷ challenge_body c.server_first ∷ []))
    → ListenerView hash AwaitsResponse (stored_for s.provider) s.nonce given sent
response_in hash Unasked s given sent h = absurd h
response_in hash (Challenged c) s given sent h =
    awaits_response c.client_first c.server_first h.hostname refl h.given_is h.sent_is (record { user = c.user; whole = c.nonce; keys = h.keys; answers = h.answers })
response_in hash Proved s given sent h = absurd h

view_in : (hash : ScramHash) (stage : ServerStage) (y : ServerEnd Account) (given sent : List SaslBody) → holds_in hash stored_for stage y.server given sent
    → ListenerView hash stage (stored_for y.server.provider) y.server.nonce given sent
view_in hash OwesMechanisms y given sent h = owes_mechanisms refl h.0 h.1
view_in hash AwaitsInit y given sent h = awaits_init refl h.0 h.1
view_in hash (OwesChallenge text) y given sent h = challenge_in hash y.server.phase text y.server given sent h
view_in hash AwaitsResponse y given sent h = response_in hash y.server.phase y.server given sent h
view_in hash (OwesOutcome text) y given sent h = owes_outcome h.user h.client_first h.server_first h.client_final text h.hostname refl h.given_is h.sent_is h.check
view_in hash Passed y given sent h = passed h.1.user h.1.client_first h.1.server_first h.1.client_final h.0 h.1.hostname refl h.1.given_is h.1.sent_is h.1.check
view_in hash (OwesRefusal code) y given sent h = owes_refusal code refl h.cause (asking hash (stored_for y.server.provider) y.server.nonce given sent h.waited)
view_in hash (Refused code) y given sent h = refused code h.before refl h.cause h.told (asking hash (stored_for y.server.provider) y.server.nonce given h.before h.waited)

pub listener_view : (y : ServerEnd Account) (given sent : List SaslBody) → holds_in y.hash stored_for y.stage y.server given sent
    → ListenerView y.hash y.stage (stored_for y.server.provider) y.server.nonce given sent
listener_view y given sent h = view_in y.hash y.stage y given sent h

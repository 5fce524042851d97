-- The listener's end with SCRAM: what it reads, and what it passes on.
use Rattle.std.proofs.Common.{◌≡◌, ◌≢◌, ◌<◌, ◌≤◌, ◌⊎◌, inl, inr, arith, ℕ, false, List, [], ◌∷◌, ◌++◌, length, Option, Some, None, Result, Ok, Err, refl, sym, ap, ◌∙◌, subst}
use Rattle.std.proofs.lemmas.List.{length-append}
use Rattle.std.specs.Prelude.{⊤}
use Rattle.std.specs.declared.alloc.AllocError.{AllocError}
use Rattle.amqp_sasl_bodies.specs.declared.sasl_body.SaslBody.{SaslBody}
use Rattle.amqp_sasl_bodies.specs.declared.sasl_body.SaslBody.TheVariants.{Init, Response}
use Rattle.amqp_sasl_bodies.specs.declared.sasl.SaslInit.{SaslInit}
use Rattle.amqp_sasl_bodies.specs.declared.sasl.SaslResponse.{SaslResponse}
use Rattle.amqp_sasl_bodies.specs.declared.sasl_code.SaslCode.{SaslCode}
use Rattle.amqp_sasl_bodies.specs.declared.sasl_code.SaslCode.TheVariants as sasl
use Rattle.sasl_exchange.specs.declared.exchange.Turn.{Turn}
use Rattle.sasl_exchange.specs.declared.exchange.Turn.TheVariants.{Send, Receive, Refuse, Pass}
use Rattle.sasl_exchange.specs.declared.exchange.Verdict.{Verdict}
use Rattle.sasl_exchange.specs.declared.exchange.Verdict.TheVariants.{Taken, Refused as VerdictRefused}
use Rattle.sasl_exchange.specs.declared.scram_server.ServerStage.{ServerStage}
use Rattle.sasl_exchange.specs.declared.scram_server.ServerStage.TheVariants.{OwesMechanisms, AwaitsInit, OwesChallenge, AwaitsResponse, OwesOutcome, Passed, OwesRefusal, Refused}
use Rattle.sasl_scram.specs.declared.error.ScramErrorKind.{ScramErrorKind}
use Rattle.sasl_scram.specs.declared.hash.ScramHash.{ScramHash}
use Rattle.sasl_scram.specs.declared.server.ServerPhase.{ServerPhase}
use Rattle.sasl_scram.specs.declared.server.ServerPhase.TheVariants.{Unasked, Challenged, Proved}
use Rattle.sasl_scram.specs.declared.stored.StoredPassword.{StoredPassword}
use Rattle.sasl_scram.specs.Check.{ServerAnswers}
use Rattle.sasl_scram.specs.Hashes.{digest_of, block_of, output_of, mechanism_of}
use Rattle.sasl_scram.specs.Refusals.{IsMemory, IsClientFirstRefusal, IsClientFinalRefusal}
use Rattle.sasl_exchange.specs.ScramBodies.{init_body, challenge_body, outcome_body, Received}
use Rattle.sasl_exchange.specs.ScramServer.{ServerEnd, turn_in, server_turn, left_in, own_mechanisms, holds_in, server_holds, owes_in, server_owes, is_of_client, HasChallenge, HasProof, HasToRefuse, HasRefused, Waited, for_init, for_response, is_next, IsRefusalCause, by_client_first, by_client_final, by_mechanism, by_no_response, by_order, by_other_body, IsTextAnswer, server_mechanism}
use Rattle.sasl_scram.specs.States.{ServerState, ForChallenged}

-- ---- bodies that a listener reads

-- it waits for a body
abbrev Receives : Turn → Type 0
Receives Send = ⊥
Receives Receive = ⊤
Receives (Refuse code) = ⊥
Receives Pass = ⊥

receives : (stage : ServerStage) → turn_in stage ≡ Receive → Receives (turn_in stage)
receives stage e = subst Receives (sym e) tt

less_in : (stage : ServerStage) → Receives (turn_in stage) → 1 < left_in stage
less_in OwesMechanisms h = absurd h
less_in AwaitsInit h = omega arith
less_in (OwesChallenge text) h = absurd h
less_in AwaitsResponse h = omega arith
less_in (OwesOutcome text) h = absurd h
less_in Passed h = absurd h
less_in (OwesRefusal code) h = absurd h
less_in (Refused code) h = absurd h

-- ---- how many bodies a listener sends

few_waits : (hash : ScramHash) (stored : List ℕ → Option StoredPassword) (own : List ℕ) (p : ServerPhase) (given sent : List SaslBody)
    → ForChallenged p (λ c. HasChallenge hash stored own c given sent (own_mechanisms hash ∷ challenge_body c.server_first ∷ [])) → length sent ≤ 2
few_waits hash stored own Unasked given sent h = absurd h
few_waits hash stored own (Challenged c) given sent h = let e = ap (λ (u : List SaslBody). length u) h.sent_is in omega (arith, e)
few_waits hash stored own Proved given sent h = absurd h

few_owes : (hash : ScramHash) (stored : List ℕ → Option StoredPassword) (own text : List ℕ) (p : ServerPhase) (given sent : List SaslBody)
    → ForChallenged p (λ c. (c.server_first ≡ text) × HasChallenge hash stored own c given sent (own_mechanisms hash ∷ [])) → length sent ≤ 3
few_owes hash stored own text Unasked given sent h = absurd h
few_owes hash stored own text (Challenged c) given sent h = let e = ap (λ (u : List SaslBody). length u) h.1.sent_is in omega (arith, e)
few_owes hash stored own text Proved given sent h = absurd h

module _ {P : Type 0} (stored : P → List ℕ → Option StoredPassword) where
  -- two at most, while it waits for a body
  few_in : (hash : ScramHash) (stage : ServerStage) (s : ServerState P) (given sent : List SaslBody) → Receives (turn_in stage) → holds_in hash stored stage s given sent → length sent ≤ 2
  few_in hash OwesMechanisms s given sent t h = absurd t
  few_in hash AwaitsInit s given sent t h = let e = ap (λ (u : List SaslBody). length u) h.1 in omega (arith, e)
  few_in hash (OwesChallenge text) s given sent t h = absurd t
  few_in hash AwaitsResponse s given sent t h = few_waits hash (stored s.provider) s.nonce s.phase given sent h
  few_in hash (OwesOutcome text) s given sent t h = absurd t
  few_in hash Passed s given sent t h = absurd t
  few_in hash (OwesRefusal code) s given sent t h = absurd t
  few_in hash (Refused code) s given sent t h = absurd t

  server_few_in : (hash : ScramHash) (stage : ServerStage) (s : ServerState P) (given sent : List SaslBody) → holds_in hash stored stage s given sent → length sent ≤ 3
  server_few_in hash OwesMechanisms s given sent h = let e = ap (λ (u : List SaslBody). length u) h.1 in omega (arith, e)
  server_few_in hash AwaitsInit s given sent h = let e = ap (λ (u : List SaslBody). length u) h.1 in omega (arith, e)
  server_few_in hash (OwesChallenge text) s given sent h = few_owes hash (stored s.provider) s.nonce text s.phase given sent h
  server_few_in hash AwaitsResponse s given sent h = let few = few_waits hash (stored s.provider) s.nonce s.phase given sent h in omega (arith, few)
  server_few_in hash (OwesOutcome text) s given sent h = let e = ap (λ (u : List SaslBody). length u) h.sent_is in omega (arith, e)
  server_few_in hash Passed s given sent h = let e = ap (λ (u : List SaslBody). length u) h.1.sent_is in omega (arith, e)
  server_few_in hash (OwesRefusal code) s given sent h = omega (arith, h.few)
  server_few_in hash (Refused code) s given sent h =
      let e = ap (λ (u : List SaslBody). length u) h.told ∙ length-append h.before (outcome_body code None ∷ []) in omega (arith, e, h.few)

  -- a listener sends three bodies at most
  pub server_few : (x : ServerEnd P) (given sent : List SaslBody) → server_holds stored x given sent → length sent ≤ 3
  server_few x given sent h = server_few_in x.hash x.stage x.server given sent h

-- ---- bodies for which a listener waits

response_awaited : (hash : ScramHash) (p : ServerPhase) (stored : List ℕ → Option StoredPassword) (own : List ℕ) (given sent : List SaslBody) (body : SaslBody)
    → ForChallenged p (λ c. HasChallenge hash stored own c given sent (own_mechanisms hash ∷ challenge_body c.server_first ∷ [])) → Waited hash stored own (given ++ body ∷ []) sent
response_awaited hash Unasked stored own given sent body h = absurd h
response_awaited hash (Challenged c) stored own given sent body h = for_response c given body refl h
response_awaited hash Proved stored own given sent body h = absurd h

awaited_in : {P : Type 0} (hash : ScramHash) (stored : P → List ℕ → Option StoredPassword) (stage : ServerStage) (s : ServerState P) (given sent : List SaslBody) (body : SaslBody)
    → Receives (turn_in stage) → holds_in hash stored stage s given sent → Waited hash (stored s.provider) s.nonce (given ++ body ∷ []) sent
awaited_in hash stored OwesMechanisms s given sent body t h = absurd t
awaited_in hash stored AwaitsInit s given sent body t h = for_init body (ap (λ (u : List SaslBody). u ++ body ∷ []) h.0) h.1
awaited_in hash stored (OwesChallenge text) s given sent body t h = absurd t
awaited_in hash stored AwaitsResponse s given sent body t h = response_awaited hash s.phase (stored s.provider) s.nonce given sent body h
awaited_in hash stored (OwesOutcome text) s given sent body t h = absurd t
awaited_in hash stored Passed s given sent body t h = absurd t
awaited_in hash stored (OwesRefusal code) s given sent body t h = absurd t
awaited_in hash stored (Refused code) s given sent body t h = absurd t

-- a listener that waits, and a body more
pub awaited : {P : Type 0} (stored : P → List ℕ → Option StoredPassword) (x : ServerEnd P) (given sent : List SaslBody) (body : SaslBody) → server_turn x ≡ Receive
    → server_holds stored x given sent → Waited x.hash (stored x.server.provider) x.server.nonce (given ++ body ∷ []) sent
awaited stored x given sent body turn h = awaited_in x.hash stored x.stage x.server given sent body (receives x.stage turn) h

module _ {P : Type 0} (stored : P → List ℕ → Option StoredPassword) (x : ServerEnd P) where
  -- a body is not taken
  pub received_refused : (body : SaslBody) (code : SaslCode) → server_turn x ≡ Receive
      → ((given sent : List SaslBody) → server_holds stored x given sent → IsRefusalCause x.hash (stored x.server.provider) x.server.nonce code (given ++ body ∷ []))
      → Received (server_mechanism stored) x body (Ok Taken) (record x { stage = OwesRefusal code })
  received_refused body code turn cause = record {
    taken = λ given sent h. record { few = few_in stored x.hash x.stage x.server given sent (receives x.stage turn) h; waited = awaited stored x given sent body turn h; cause = cause given sent h };
    less = less_in x.stage (receives x.stage turn);
    same = record { hash = refl; provider = refl; nonce = refl };
    refused = tt;
    kept = tt;
    err = tt;
  }

  -- a text is not taken, or memory was wanting
  pub received_text : (body : SaslBody) (kind : ScramErrorKind) (result : Result Verdict AllocError) (new : ServerEnd P) → server_turn x ≡ Receive
      → IsTextAnswer kind x result new
      → (¬ IsMemory kind → (given sent : List SaslBody) → server_holds stored x given sent → IsRefusalCause x.hash (stored x.server.provider) x.server.nonce sasl.Auth (given ++ body ∷ []))
      → Received (server_mechanism stored) x body result new
  received_text body kind (Ok Taken) new turn answer cause =
      subst (λ (y : ServerEnd P). Received (server_mechanism stored) x body (Ok Taken) y) (sym answer.0) (received_refused body sasl.Auth turn (cause answer.1))
  received_text body kind (Ok (VerdictRefused e)) new turn answer cause = absurd answer
  received_text body kind (Err e) new turn answer cause = record { taken = tt; less = tt; same = tt; refused = tt; kept = tt; err = answer }

  -- a body that no client sends
  pub received_other : (body : SaslBody) → is_of_client body ≡ false → server_turn x ≡ Receive
      → Received (server_mechanism stored) x body (Ok Taken) (record x { stage = OwesRefusal sasl.Sys })
  received_other body other turn = received_refused body sasl.Sys turn (λ given sent h. by_other_body given body refl other refl)

  init_order_in : (stage : ServerStage) (i : SaslInit) (given sent : List SaslBody) → Receives (turn_in stage) → (stage ≡ AwaitsInit → ⊥) → holds_in x.hash stored stage x.server given sent → is_next given (Init i) ≡ false
  init_order_in OwesMechanisms i given sent t ne h = absurd t
  init_order_in AwaitsInit i given sent t ne h = absurd (ne refl)
  init_order_in (OwesChallenge text) i given sent t ne h = absurd t
  init_order_in AwaitsResponse i given sent t ne h = init_late x.server.phase i given sent h
    where
      init_late : (p : ServerPhase) (i : SaslInit) (given sent : List SaslBody)
          → ForChallenged p (λ c. HasChallenge x.hash (stored x.server.provider) x.server.nonce c given sent (own_mechanisms x.hash ∷ challenge_body c.server_first ∷ []))
          → is_next given (Init i) ≡ false
      init_late Unasked i given sent h = absurd h
      init_late (Challenged c) i given sent h = subst (λ (u : List SaslBody). is_next u (Init i) ≡ false) (sym h.given_is) refl
      init_late Proved i given sent h = absurd h
  init_order_in (OwesOutcome text) i given sent t ne h = absurd t
  init_order_in Passed i given sent t ne h = absurd t
  init_order_in (OwesRefusal code) i given sent t ne h = absurd t
  init_order_in (Refused code) i given sent t ne h = absurd t

  -- an init out of order
  pub received_late_init : (i : SaslInit) → server_turn x ≡ Receive → (x.stage ≡ AwaitsInit → ⊥)
      → Received (server_mechanism stored) x (Init i) (Ok Taken) (record x { stage = OwesRefusal sasl.Auth })
  received_late_init i turn ne = received_refused (Init i) sasl.Auth turn
      (λ given sent h. by_order given (Init i) refl refl (init_order_in x.stage i given sent (receives x.stage turn) ne h) refl)

  response_order_in : (stage : ServerStage) (r : SaslResponse) (given sent : List SaslBody) → Receives (turn_in stage) → (stage ≡ AwaitsResponse → ⊥) → holds_in x.hash stored stage x.server given sent → is_next given (Response r) ≡ false
  response_order_in OwesMechanisms r given sent t ne h = absurd t
  response_order_in AwaitsInit r given sent t ne h = subst (λ (u : List SaslBody). is_next u (Response r) ≡ false) (sym h.0) refl
  response_order_in (OwesChallenge text) r given sent t ne h = absurd t
  response_order_in AwaitsResponse r given sent t ne h = absurd (ne refl)
  response_order_in (OwesOutcome text) r given sent t ne h = absurd t
  response_order_in Passed r given sent t ne h = absurd t
  response_order_in (OwesRefusal code) r given sent t ne h = absurd t
  response_order_in (Refused code) r given sent t ne h = absurd t

  -- a response out of order
  pub received_early_response : (r : SaslResponse) → server_turn x ≡ Receive → (x.stage ≡ AwaitsResponse → ⊥)
      → Received (server_mechanism stored) x (Response r) (Ok Taken) (record x { stage = OwesRefusal sasl.Auth })
  received_early_response r turn ne = received_refused (Response r) sasl.Auth turn
      (λ given sent h. by_order given (Response r) refl refl (response_order_in x.stage r given sent (receives x.stage turn) ne h) refl)

  -- an init of another mechanism, or without a response
  pub received_other_init : (i : SaslInit) → x.stage ≡ AwaitsInit → (i.mechanism ≢ mechanism_of x.hash) ⊎ (i.initial_response ≡ None)
      → Received (server_mechanism stored) x (Init i) (Ok Taken) (record x { stage = OwesRefusal sasl.Auth })
  received_other_init i stage why = received_refused (Init i) sasl.Auth (ap turn_in stage) (λ given sent h. cause why given (subst (λ (s : ServerStage). holds_in x.hash stored s x.server given sent) stage h).0)
    where
      cause : (i.mechanism ≢ mechanism_of x.hash) ⊎ (i.initial_response ≡ None) → (given : List SaslBody) → given ≡ [] → IsRefusalCause x.hash (stored x.server.provider) x.server.nonce sasl.Auth (given ++ Init i ∷ [])
      cause (inl ne) given e = by_mechanism i.mechanism i.initial_response i.hostname (ap (λ (u : List SaslBody). u ++ Init i ∷ []) e) ne refl
      cause (inr none) given e = by_no_response i.mechanism i.hostname (ap (λ (u : List SaslBody). u ++ Init i ∷ []) e ∙ ap (λ (r : Option (List ℕ)). init_body i.mechanism r i.hostname ∷ []) none) refl

  -- a client first that is refused
  pub received_first : (text : List ℕ) (hostname : Option (List ℕ)) (kind : ScramErrorKind) (result : Result Verdict AllocError) (new : ServerEnd P) → x.stage ≡ AwaitsInit
      → IsClientFirstRefusal (stored x.server.provider) text kind → IsTextAnswer kind x result new
      → Received (server_mechanism stored) x (init_body (mechanism_of x.hash) (Some text) hostname) result new
  received_first text hostname kind result new stage r answer = received_text (init_body (mechanism_of x.hash) (Some text) hostname) kind result new (ap turn_in stage) answer
      (λ other given sent h. let k : (given ≡ []) × (sent ≡ own_mechanisms x.hash ∷ []) = subst (λ (s : ServerStage). holds_in x.hash stored s x.server given sent) stage h in
      by_client_first text hostname kind (ap (λ (u : List SaslBody). u ++ init_body (mechanism_of x.hash) (Some text) hostname ∷ []) k.0) other r refl)

  final_in : (p : ServerPhase) (r : SaslResponse) (kind : ScramErrorKind) (given sent : List SaslBody) → ¬ IsMemory kind
      → ForChallenged p (λ c. (keys : StoredPassword) × (answers : ServerAnswers (stored x.server.provider) x.server.nonce c.client_first c.user c.nonce c.server_first keys)
      × IsClientFinalRefusal (digest_of x.hash) (block_of x.hash) (output_of x.hash) keys.stored_key answers.header answers.bare c.server_first c.nonce r.response kind)
      → ForChallenged p (λ c. HasChallenge x.hash (stored x.server.provider) x.server.nonce c given sent (own_mechanisms x.hash ∷ challenge_body c.server_first ∷ []))
      → IsRefusalCause x.hash (stored x.server.provider) x.server.nonce sasl.Auth (given ++ Response r ∷ [])
  final_in Unasked r kind given sent other why h = absurd h
  final_in (Challenged c) r kind given sent other why h =
      by_client_final c.client_first c.user c.nonce c.server_first r.response h.hostname why.0 why.1 kind (ap (λ (u : List SaslBody). u ++ Response r ∷ []) h.given_is) other why.2 refl
  final_in Proved r kind given sent other why h = absurd h

  -- a client final that is refused
  pub received_final : (r : SaslResponse) (kind : ScramErrorKind) (result : Result Verdict AllocError) (new : ServerEnd P) → x.stage ≡ AwaitsResponse
      → ForChallenged x.server.phase (λ c. (keys : StoredPassword) × (answers : ServerAnswers (stored x.server.provider) x.server.nonce c.client_first c.user c.nonce c.server_first keys)
      × IsClientFinalRefusal (digest_of x.hash) (block_of x.hash) (output_of x.hash) keys.stored_key answers.header answers.bare c.server_first c.nonce r.response kind)
      → IsTextAnswer kind x result new → Received (server_mechanism stored) x (Response r) result new
  received_final r kind result new stage why answer = received_text (Response r) kind result new (ap turn_in stage) answer
      (λ other given sent h. final_in x.server.phase r kind given sent other why (subst (λ (s : ServerStage). holds_in x.hash stored s x.server given sent) stage h))

  -- an outcome that refuses was sent
  pub sent_refusal : (code : SaslCode) → x.stage ≡ OwesRefusal code → (body : SaslBody) (given sent : List SaslBody) → server_owes x body → server_holds stored x given sent
      → HasRefused x.hash (stored x.server.provider) x.server.nonce code given (sent ++ body ∷ [])
  sent_refusal code stage body given sent owed held =
      let h : HasToRefuse x.hash (stored x.server.provider) x.server.nonce code given sent = subst (λ (s : ServerStage). holds_in x.hash stored s x.server given sent) stage held in
      record {
        before = sent;
        few = h.few;
        waited = h.waited;
        told = ap (λ (b : SaslBody). sent ++ b ∷ []) (subst (λ (s : ServerStage). owes_in x.hash s body) stage owed);
        cause = h.cause;
      }

-- ---- an end that has passed

abbrev Passes : Turn → Type 0
Passes Send = ⊥
Passes Receive = ⊥
Passes (Refuse code) = ⊥
Passes Pass = ⊤

module _ {P : Type 0} (stored : P → List ℕ → Option StoredPassword) where
  passed_stage : (hash : ScramHash) (stage : ServerStage) (s : ServerState P) (given sent : List SaslBody) → Passes (turn_in stage) → holds_in hash stored stage s given sent
      → (text : List ℕ) × HasProof hash (stored s.provider) s.nonce text given sent (outcome_body sasl.Ok (Some text) ∷ [])
  passed_stage hash OwesMechanisms s given sent t h = absurd t
  passed_stage hash AwaitsInit s given sent t h = absurd t
  passed_stage hash (OwesChallenge text) s given sent t h = absurd t
  passed_stage hash AwaitsResponse s given sent t h = absurd t
  passed_stage hash (OwesOutcome text) s given sent t h = absurd t
  passed_stage hash Passed s given sent t h = h
  passed_stage hash (OwesRefusal code) s given sent t h = absurd t
  passed_stage hash (Refused code) s given sent t h = absurd t

  -- a listener that passes has a proof
  pub server_passes : (x : ServerEnd P) (given sent : List SaslBody) → server_turn x ≡ Pass → server_holds stored x given sent
      → (text : List ℕ) × HasProof x.hash (stored x.server.provider) x.server.nonce text given sent (outcome_body sasl.Ok (Some text) ∷ [])
  server_passes x given sent turn held = passed_stage x.hash x.stage x.server given sent (subst Passes (sym turn) tt) held

-- The client's end with SCRAM: what it reads, and what it passes on.
use Rattle.std.proofs.Common.{◌≡◌, ◌≢◌, ◌<◌, ◌≤◌, arith, ℕ, List, [], ◌∷◌, ◌++◌, length, Option, Some, None, Result, Ok, Err, refl, sym, ap, ◌∙◌, subst}
use Rattle.std.specs.Prelude.{⊤}
use Rattle.std.specs.declared.alloc.AllocError.{AllocError}
use Rattle.amqp_sasl_bodies.specs.declared.sasl_body.SaslBody.{SaslBody}
use Rattle.amqp_sasl_bodies.specs.declared.sasl_body.SaslBody.TheVariants.{Outcome}
use Rattle.amqp_sasl_bodies.specs.declared.sasl.SaslOutcome.{SaslOutcome}
use Rattle.amqp_sasl_bodies.specs.declared.sasl_code.SaslCode.{SaslCode}
use Rattle.amqp_sasl_bodies.specs.declared.sasl_code.SaslCode.TheVariants as sasl
use Rattle.sasl_exchange.specs.declared.scram_client.ClientStage.{ClientStage}
use Rattle.sasl_exchange.specs.declared.scram_client.ClientStage.TheVariants.{AwaitsMechanisms, OwesInit, AwaitsChallenge, OwesResponse, AwaitsOutcome, OwesEmptyResponse, AwaitsEnd, Passed}
use Rattle.sasl_exchange.specs.declared.error.NegotiationError.{NegotiationError}
use Rattle.sasl_exchange.specs.declared.error.NegotiationError.TheVariants.{SaslError, ScramError}
use Rattle.sasl_exchange.specs.declared.exchange.Turn.{Turn}
use Rattle.sasl_exchange.specs.declared.exchange.Turn.TheVariants.{Send, Receive, Refuse, Pass}
use Rattle.sasl_exchange.specs.declared.exchange.Verdict.{Verdict}
use Rattle.sasl_exchange.specs.declared.exchange.Verdict.TheVariants.{Taken, Refused}
use Rattle.sasl_scram.specs.declared.client.ClientPhase.{ClientPhase}
use Rattle.sasl_scram.specs.declared.client.ClientPhase.TheVariants.{Unanswered, Answered, Verified}
use Rattle.sasl_scram.specs.declared.error.ScramErrorKind.{ScramErrorKind}
use Rattle.sasl_scram.specs.declared.error.ScramErrorKind.TheVariants.{Signature}
use Rattle.sasl_scram.specs.Check.{ClientAnswers, ClientCheck}
use Rattle.sasl_exchange.specs.ClientEnds.{HasMechanisms}
use Rattle.sasl_exchange.specs.ScramClient.{ClientEnd, turn_in, client_turn, left_in, client_init, client_causes, owes_in, client_owes, holds_in, client_holds, IsTextAnswer, HasAnswer, HasChecked, HasPassed, IsFinal, in_outcome, in_challenge, HasFinal, IsScramCause, by_challenge, by_final, by_no_signature, client_mechanism}
use Rattle.sasl_scram.specs.Hashes.{digest_of, block_of, output_of, mechanism_of}
use Rattle.sasl_scram.specs.Refusals.{IsServerFirstRefusal, IsServerFinalRefusal}
use Rattle.sasl_exchange.specs.ScramBodies.{challenge_body, outcome_body, response_body, Received}
use Rattle.sasl_scram.specs.States.{ForAnswered, client_verified}
use Rattle.sasl_scram.specs.Texts.{client_first_of}

-- ---- how many bodies a client sends

few_answered : (p : ClientPhase) (x : ClientEnd) (text : List ℕ) (given sent : List SaslBody)
    → ForAnswered p (λ a. (a.client_final ≡ text) × HasAnswer x a given sent (client_init x ∷ [])) → length sent ≤ 3
few_answered Unanswered x text given sent h = absurd h
few_answered (Answered a) x text given sent h = let e = ap (λ (u : List SaslBody). length u) h.1.sent_is in omega (arith, e)
few_answered Verified x text given sent h = absurd h

few_sent : (p : ClientPhase) (x : ClientEnd) (given sent : List SaslBody)
    → ForAnswered p (λ a. HasAnswer x a given sent (client_init x ∷ response_body a.client_final ∷ [])) → length sent ≤ 3
few_sent Unanswered x given sent h = absurd h
few_sent (Answered a) x given sent h = let e = ap (λ (u : List SaslBody). length u) h.sent_is in omega (arith, e)
few_sent Verified x given sent h = absurd h

few_replied : (server_final : List ℕ) (told replied : List SaslBody) → IsFinal server_final told replied → length replied ≤ 1
few_replied server_final told replied (in_outcome t r) = let e = ap (λ (u : List SaslBody). length u) r in omega (arith, e)
few_replied server_final told replied (in_challenge payload t r) = let e = ap (λ (u : List SaslBody). length u) r in omega (arith, e)

few_in : (stage : ClientStage) (x : ClientEnd) (given sent : List SaslBody) → holds_in stage x given sent → length sent ≤ 3
few_in AwaitsMechanisms x given sent h = let e = ap (λ (u : List SaslBody). length u) h.1 in omega (arith, e)
few_in OwesInit x given sent h = let e = ap (λ (u : List SaslBody). length u) h.sent_is in omega (arith, e)
few_in AwaitsChallenge x given sent h = let e = ap (λ (u : List SaslBody). length u) h.sent_is in omega (arith, e)
few_in (OwesResponse text) x given sent h = few_answered x.client.phase x text given sent h
few_in AwaitsOutcome x given sent h = few_sent x.client.phase x given sent h
few_in OwesEmptyResponse x given sent h = let e = ap (λ (u : List SaslBody). length u) h.sent_is in omega (arith, e)
few_in AwaitsEnd x given sent h = let e = ap (λ (u : List SaslBody). length u) h.sent_is in omega (arith, e)
few_in Passed x given sent h =
    let few : length h.replied ≤ 1 = few_replied h.server_final h.told h.replied h.final in
    let e = ap (λ (u : List SaslBody). length u) h.sent_is in omega (arith, e, few)

-- a client sends three bodies at most
pub client_few : (x : ClientEnd) (given sent : List SaslBody) → client_holds x given sent → length sent ≤ 3
client_few x given sent h = few_in x.stage x given sent h

-- ---- bodies that a client reads

-- an outcome other than `Ok`
pub received_refusal : (x : ClientEnd) (o : SaslOutcome) → o.code ≢ sasl.Ok → Received client_mechanism x (Outcome o) (Ok (Refused (SaslError o.code o.additional_data))) x
received_refusal x o ne = record { taken = tt; less = tt; same = tt; refused = λ given sent h. (given, refl, ne); kept = refl; err = tt }

-- an outcome by its parts
pub received_outcome : (x new : ClientEnd) (o : SaslOutcome) (payload : Option (List ℕ)) (result : Result Verdict AllocError) → o.code ≡ sasl.Ok → o.additional_data ≡ payload
    → Received client_mechanism x (outcome_body sasl.Ok payload) result new → Received client_mechanism x (Outcome o) result new
received_outcome x new o payload result e f r =
    subst (λ (d : Option (List ℕ)). Received client_mechanism x (outcome_body o.code d) result new) (sym f)
    (subst (λ (k : SaslCode). Received client_mechanism x (outcome_body k payload) result new) (sym e) r)

-- a server first that is refused, or for which memory was wanting
pub received_challenge : (x : ClientEnd) (text : List ℕ) (kind : ScramErrorKind) (result : Result Verdict AllocError) → x.stage ≡ AwaitsChallenge
    → IsServerFirstRefusal x.client.nonce text kind → IsTextAnswer kind result → Received client_mechanism x (challenge_body text) result x
received_challenge x text kind (Ok Taken) stage r answer = absurd answer
received_challenge x text kind (Ok (Refused e)) stage r answer = record {
  taken = tt;
  less = tt;
  same = tt;
  kept = refl;
  err = tt;
  refused = λ given sent h.
      let k : HasMechanisms (mechanism_of x.hash) given sent (client_init x ∷ []) = subst (λ (s : ClientStage). holds_in s x given sent) stage h in
      subst (λ (e : NegotiationError). client_causes x e (given ++ challenge_body text ∷ []) sent) (sym answer.0)
      (by_challenge k.names text (ap (λ (u : List SaslBody). u ++ challenge_body text ∷ []) k.given_is) answer.1 r);
}
received_challenge x text kind (Err e) stage r answer = record { taken = tt; less = tt; same = tt; refused = tt; kept = tt; err = refl }

no_signature_in : (p : ClientPhase) (x : ClientEnd) (given sent : List SaslBody) → ForAnswered p (λ a. HasAnswer x a given sent (client_init x ∷ response_body a.client_final ∷ []))
    → IsScramCause x Signature (given ++ outcome_body sasl.Ok None ∷ []) sent
no_signature_in Unanswered x given sent h = absurd h
no_signature_in (Answered a) x given sent h = by_no_signature h.names a.server_first (ap (λ (u : List SaslBody). u ++ outcome_body sasl.Ok None ∷ []) h.given_is) refl
no_signature_in Verified x given sent h = absurd h

-- outcome `Ok` without a signature
pub received_no_signature : (x : ClientEnd) → x.stage ≡ AwaitsOutcome → Received client_mechanism x (outcome_body sasl.Ok None) (Ok (Refused (ScramError Signature))) x
received_no_signature x stage = record {
  taken = tt;
  less = tt;
  same = tt;
  kept = refl;
  err = tt;
  refused = λ given sent h. no_signature_in x.client.phase x given sent (subst (λ (s : ClientStage). holds_in s x given sent) stage h);
}

refused_final_in : (p : ClientPhase) (x : ClientEnd) (text : List ℕ) (body : SaslBody) (kind : ScramErrorKind) (given sent : List SaslBody) → HasFinal text body
    → ForAnswered p (λ a. ClientAnswers (digest_of x.hash) (block_of x.hash) (output_of x.hash) x.client.user x.client.password x.client.nonce a.server_first a.client_final a.signature × IsServerFinalRefusal (output_of x.hash) a.signature text kind)
    → ForAnswered p (λ a. HasAnswer x a given sent (client_init x ∷ response_body a.client_final ∷ []))
    → IsScramCause x kind (given ++ body ∷ []) sent
refused_final_in Unanswered x text body kind given sent f r h = absurd h
refused_final_in (Answered a) x text body kind given sent f r h =
    by_final h.names a.server_first a.client_final a.signature text body f (ap (λ (u : List SaslBody). u ++ body ∷ []) h.given_is) h.sent_is r.0 r.1
refused_final_in Verified x text body kind given sent f r h = absurd h

-- a server final that is refused, in either body
pub received_final_refused : (x : ClientEnd) (text : List ℕ) (body : SaslBody) (kind : ScramErrorKind) → HasFinal text body → x.stage ≡ AwaitsOutcome
    → ForAnswered x.client.phase (λ a. ClientAnswers (digest_of x.hash) (block_of x.hash) (output_of x.hash) x.client.user x.client.password x.client.nonce a.server_first a.client_final a.signature × IsServerFinalRefusal (output_of x.hash) a.signature text kind)
    → Received client_mechanism x body (Ok (Refused (ScramError kind))) x
received_final_refused x text body kind f stage r = record {
  taken = tt;
  less = tt;
  same = tt;
  kept = refl;
  err = tt;
  refused = λ given sent h. refused_final_in x.client.phase x text body kind given sent f r (subst (λ (s : ClientStage). holds_in s x given sent) stage h);
}

-- the fact that the server final was the one that was waited for
abbrev HasCheck : ClientEnd → List ℕ → Type 0
HasCheck x text = ForAnswered x.client.phase (λ a.
    ClientCheck (digest_of x.hash) (block_of x.hash) (output_of x.hash) x.client.user x.client.password x.client.nonce (client_first_of x.client.user x.client.nonce) a.server_first a.client_final text)

-- the end after the server final
abbrev verified : ClientEnd → ClientStage → ClientEnd
verified x stage = record { hash = x.hash; client = client_verified x.client; stage = stage; hostname = x.hostname }

checked_in : (p : ClientPhase) (x : ClientEnd) (text : List ℕ) (stage : ClientStage) (given sent : List SaslBody)
    → ForAnswered p (λ a. ClientCheck (digest_of x.hash) (block_of x.hash) (output_of x.hash) x.client.user x.client.password x.client.nonce (client_first_of x.client.user x.client.nonce) a.server_first a.client_final text)
    → ForAnswered p (λ a. HasAnswer x a given sent (client_init x ∷ response_body a.client_final ∷ []))
    → HasChecked (verified x stage) [] (given ++ challenge_body text ∷ []) sent
checked_in Unanswered x text stage given sent check h = absurd h
checked_in (Answered a) x text stage given sent check h = record {
  names = h.names;
  server_first = a.server_first;
  client_final = a.client_final;
  server_final = text;
  given_is = ap (λ (u : List SaslBody). u ++ challenge_body text ∷ []) h.given_is;
  listed = h.listed;
  sent_is = h.sent_is;
  check = check;
}
checked_in Verified x text stage given sent check h = absurd h

passed_in : (p : ClientPhase) (x : ClientEnd) (text : List ℕ) (stage : ClientStage) (given sent : List SaslBody)
    → ForAnswered p (λ a. ClientCheck (digest_of x.hash) (block_of x.hash) (output_of x.hash) x.client.user x.client.password x.client.nonce (client_first_of x.client.user x.client.nonce) a.server_first a.client_final text)
    → ForAnswered p (λ a. HasAnswer x a given sent (client_init x ∷ response_body a.client_final ∷ []))
    → HasPassed (verified x stage) (given ++ outcome_body sasl.Ok (Some text) ∷ []) sent
passed_in Unanswered x text stage given sent check h = absurd h
passed_in (Answered a) x text stage given sent check h = record {
  names = h.names;
  server_first = a.server_first;
  client_final = a.client_final;
  server_final = text;
  told = outcome_body sasl.Ok (Some text) ∷ [];
  replied = [];
  given_is = ap (λ (u : List SaslBody). u ++ outcome_body sasl.Ok (Some text) ∷ []) h.given_is;
  sent_is = h.sent_is;
  final = in_outcome refl refl;
  listed = h.listed;
  check = check;
}
passed_in Verified x text stage given sent check h = absurd h

less_final : (stage : ClientStage) → stage ≡ AwaitsOutcome → 0 < left_in stage
less_final stage e = subst (λ (s : ClientStage). 0 < left_in s) (sym e) (omega arith)

-- outcome `Ok` with the server final that was waited for
pub received_final : (x : ClientEnd) (text : List ℕ) → x.stage ≡ AwaitsOutcome → HasCheck x text
    → Received client_mechanism x (outcome_body sasl.Ok (Some text)) (Ok Taken) (verified x Passed)
received_final x text stage check = record {
  taken = λ given sent h. passed_in x.client.phase x text Passed given sent check (subst (λ (s : ClientStage). holds_in s x given sent) stage h);
  less = less_final x.stage stage;
  same = record { hash = refl; user = refl; password = refl; nonce = refl; hostname = refl };
  refused = tt;
  kept = tt;
  err = tt;
}

less_checked : (stage : ClientStage) → stage ≡ AwaitsOutcome → 2 < left_in stage
less_checked stage e = subst (λ (s : ClientStage). 2 < left_in s) (sym e) (omega arith)

-- a challenge with the server final that was waited for
pub received_checked : (x : ClientEnd) (text : List ℕ) → x.stage ≡ AwaitsOutcome → HasCheck x text
    → Received client_mechanism x (challenge_body text) (Ok Taken) (verified x OwesEmptyResponse)
received_checked x text stage check = record {
  taken = λ given sent h. checked_in x.client.phase x text OwesEmptyResponse given sent check (subst (λ (s : ClientStage). holds_in s x given sent) stage h);
  less = less_checked x.stage stage;
  same = record { hash = refl; user = refl; password = refl; nonce = refl; hostname = refl };
  refused = tt;
  kept = tt;
  err = tt;
}

less_end : (stage : ClientStage) → stage ≡ AwaitsEnd → 0 < left_in stage
less_end stage e = subst (λ (s : ClientStage). 0 < left_in s) (sym e) (omega arith)

ended : (x : ClientEnd) (o : SaslOutcome) (given sent : List SaslBody) → o.code ≡ sasl.Ok → HasChecked x (response_body [] ∷ []) given sent
    → HasPassed (record x { stage = Passed }) (given ++ Outcome o ∷ []) sent
ended x o given sent ok h = record {
  names = h.names;
  server_first = h.server_first;
  client_final = h.client_final;
  server_final = h.server_final;
  told = challenge_body h.server_final ∷ Outcome o ∷ [];
  replied = response_body [] ∷ [];
  given_is = ap (λ (u : List SaslBody). u ++ Outcome o ∷ []) h.given_is;
  sent_is = h.sent_is;
  final = in_challenge o.additional_data (ap (λ (code : SaslCode). challenge_body h.server_final ∷ outcome_body code o.additional_data ∷ []) ok) refl;
  listed = h.listed;
  check = h.check;
}

-- outcome `Ok` after the empty response
pub received_end : (x : ClientEnd) (o : SaslOutcome) → x.stage ≡ AwaitsEnd → o.code ≡ sasl.Ok
    → Received client_mechanism x (Outcome o) (Ok Taken) (record x { stage = Passed })
received_end x o stage ok = record {
  taken = λ given sent h. ended x o given sent ok (subst (λ (s : ClientStage). holds_in s x given sent) stage h);
  less = less_end x.stage stage;
  same = record { hash = refl; user = refl; password = refl; nonce = refl; hostname = refl };
  refused = tt;
  kept = tt;
  err = tt;
}

-- the empty response was sent
pub sent_empty : (x : ClientEnd) → x.stage ≡ OwesEmptyResponse → (body : SaslBody) (given sent : List SaslBody) → client_owes x body → client_holds x given sent
    → HasChecked (record x { stage = AwaitsEnd }) (response_body [] ∷ []) given (sent ++ body ∷ [])
sent_empty x stage body given sent owed held =
    let h : HasChecked x [] given sent = subst (λ (s : ClientStage). holds_in s x given sent) stage held in
    let told : body ≡ response_body [] = subst (λ (s : ClientStage). owes_in s x body) stage owed in
    record {
      names = h.names;
      server_first = h.server_first;
      client_final = h.client_final;
      server_final = h.server_final;
      given_is = h.given_is;
      listed = h.listed;
      sent_is = ap (λ (u : List SaslBody). u ++ body ∷ []) h.sent_is ∙ ap (λ (b : SaslBody). client_init x ∷ response_body h.client_final ∷ b ∷ []) told;
      check = h.check;
    }

-- ---- an end that has passed

abbrev Passes : Turn → Type 0
Passes Send = ⊥
Passes Receive = ⊥
Passes (Refuse code) = ⊥
Passes Pass = ⊤

passed_stage : (stage : ClientStage) (x : ClientEnd) (given sent : List SaslBody) → Passes (turn_in stage) → holds_in stage x given sent → HasPassed x given sent
passed_stage AwaitsMechanisms x given sent t h = absurd t
passed_stage OwesInit x given sent t h = absurd t
passed_stage AwaitsChallenge x given sent t h = absurd t
passed_stage (OwesResponse text) x given sent t h = absurd t
passed_stage AwaitsOutcome x given sent t h = absurd t
passed_stage OwesEmptyResponse x given sent t h = absurd t
passed_stage AwaitsEnd x given sent t h = absurd t
passed_stage Passed x given sent t h = h

-- a client that passes has passed
pub client_passes : (x : ClientEnd) (given sent : List SaslBody) → client_turn x ≡ Pass → client_holds x given sent → HasPassed x given sent
client_passes x given sent turn held = passed_stage x.stage x given sent (subst Passes (sym turn) tt) held

-- The listener's end of a SASL negotiation with SCRAM.
use Rattle.std.specs.Prelude.{◌≡◌, ◌≢◌, ◌≤◌, ◌++◌, ℕ, Bool, true, false, List, [], ◌∷◌, length, Option, Some, None, Result, Ok, Err}
use Rattle.std.specs.declared.alloc.AllocError.{AllocError}
use Rattle.std.proofs.Common.{refl, sym, subst, ◌∙◌}
use Rattle.amqp_sasl_bodies.specs.declared.sasl_body.SaslBody.{SaslBody}
use Rattle.amqp_sasl_bodies.specs.declared.sasl_body.SaslBody.TheVariants.{Mechanisms, Init, Challenge, Response, Outcome}
use Rattle.amqp_sasl_bodies.specs.declared.sasl_code.SaslCode.{SaslCode}
use Rattle.amqp_sasl_bodies.specs.declared.sasl_code.SaslCode.TheVariants as sasl
use Rattle.sasl_exchange.specs.declared.error.NegotiationError.{NegotiationError}
use Rattle.sasl_exchange.specs.declared.error.NegotiationError.TheVariants.{Memory, ProtocolHeaderMismatch, NotImplemented, SaslError, ScramError, Io, DecodeError, IllegalState, FramingError}
use Rattle.sasl_exchange.specs.declared.exchange.Exchange.{Ghosts as Mechanism}
use Rattle.sasl_exchange.specs.declared.exchange.Turn.{Turn}
use Rattle.sasl_exchange.specs.declared.exchange.Turn.TheVariants.{Send, Receive, Refuse, Pass}
use Rattle.sasl_exchange.specs.declared.exchange.Verdict.{Verdict}
use Rattle.sasl_exchange.specs.declared.exchange.Verdict.TheVariants.{Taken as VerdictTaken, Refused as VerdictRefused}
use Rattle.sasl_exchange.specs.declared.scram_server.ServerStage.{ServerStage}
use Rattle.sasl_exchange.specs.declared.scram_server.ServerStage.TheVariants.{OwesMechanisms, AwaitsInit, OwesChallenge, AwaitsResponse, OwesOutcome, Passed, OwesRefusal, Refused}
use Rattle.sasl_scram.specs.declared.error.ScramErrorKind.{ScramErrorKind}
use Rattle.sasl_scram.specs.declared.hash.ScramHash.{ScramHash}
use Rattle.sasl_scram.specs.declared.server.Challenge.{Challenge as ServerChallenge}
use Rattle.sasl_scram.specs.declared.server.ServerPhase.{ServerPhase}
use Rattle.sasl_scram.specs.declared.server.ServerPhase.TheVariants.{Unasked}
use Rattle.sasl_scram.specs.declared.stored.StoredPassword.{StoredPassword}
use Rattle.sasl_scram.specs.Check.{ServerAnswers, ServerCheck}
use Rattle.sasl_exchange.specs.Exchange.{refused_with}
use Rattle.sasl_scram.specs.Hashes.{digest_of, block_of, output_of, mechanism_of}
use Rattle.sasl_scram.specs.Refusals.{IsMemory, IsClientFirstRefusal, IsClientFinalRefusal}
use Rattle.sasl_exchange.specs.ScramBodies.{mechanisms_body, init_body, challenge_body, response_body, outcome_body}
use Rattle.sasl_scram.specs.States.{ServerState, ForChallenged}

-- a listener's end of an exchange: its hash function and SCRAM server, and how far it is
pub record ServerEnd (P : Type 0) : Type 0 where
  pub hash : ScramHash
  pub server : ServerState P
  pub stage : ServerStage

-- the SCRAM server of an end that is so far
abbrev pub IsServerStage : ServerStage → ServerPhase → Type 0
IsServerStage OwesMechanisms phase = phase ≡ Unasked
IsServerStage AwaitsInit phase = phase ≡ Unasked
IsServerStage (OwesChallenge text) phase = ForChallenged phase (λ _. Unit {0})
IsServerStage AwaitsResponse phase = ForChallenged phase (λ _. Unit {0})
IsServerStage (OwesOutcome text) phase = Unit {0}
IsServerStage Passed phase = Unit {0}
IsServerStage (OwesRefusal code) phase = Unit {0}
IsServerStage (Refused code) phase = Unit {0}

abbrev pub turn_in : ServerStage → Turn
turn_in OwesMechanisms = Send
turn_in AwaitsInit = Receive
turn_in (OwesChallenge text) = Send
turn_in AwaitsResponse = Receive
turn_in (OwesOutcome text) = Send
turn_in Passed = Pass
turn_in (OwesRefusal code) = Send
turn_in (Refused code) = Refuse code

abbrev pub server_turn : {P : Type 0} → ServerEnd P → Turn
server_turn x = turn_in x.stage

abbrev pub left_in : ServerStage → ℕ
left_in OwesMechanisms = 6
left_in AwaitsInit = 5
left_in (OwesChallenge text) = 4
left_in AwaitsResponse = 3
left_in (OwesOutcome text) = 2
left_in Passed = 0
left_in (OwesRefusal code) = 1
left_in (Refused code) = 0

abbrev pub server_left : {P : Type 0} → ServerEnd P → ℕ
server_left x = left_in x.stage

-- the list of mechanisms of a listener with a hash function
abbrev pub own_mechanisms : ScramHash → SaslBody
own_mechanisms hash = mechanisms_body (mechanism_of hash ∷ [])

abbrev pub owes_in : ScramHash → ServerStage → SaslBody → Type 0
owes_in hash OwesMechanisms body = body ≡ own_mechanisms hash
owes_in hash AwaitsInit body = ⊥
owes_in hash (OwesChallenge text) body = body ≡ challenge_body text
owes_in hash AwaitsResponse body = ⊥
owes_in hash (OwesOutcome text) body = body ≡ outcome_body sasl.Ok (Some text)
owes_in hash Passed body = ⊥
owes_in hash (OwesRefusal code) body = body ≡ outcome_body code None
owes_in hash (Refused code) body = ⊥

-- the body that an end owes
abbrev pub server_owes : {P : Type 0} → ServerEnd P → SaslBody → Type 0
server_owes x body = owes_in x.hash x.stage body

-- an end that read an init which it can answer, has this answer, and sent this
pub record HasChallenge (hash : ScramHash) (stored : List ℕ → Option StoredPassword) (own : List ℕ) (c : ServerChallenge) (given sent now : List SaslBody) : Type 0 where
  pub hostname : Option (List ℕ)
  pub keys : StoredPassword
  pub given_is : given ≡ init_body (mechanism_of hash) (Some c.client_first) hostname ∷ []
  pub answers : ServerAnswers stored own c.client_first c.user c.nonce c.server_first keys
  pub sent_is : sent ≡ now

-- an end whose check holds, with this server final
pub record HasProof (hash : ScramHash) (stored : List ℕ → Option StoredPassword) (own server_final : List ℕ) (given sent : List SaslBody) (last : List SaslBody) : Type 0 where
  pub hostname : Option (List ℕ)
  pub user : List ℕ
  pub client_first : List ℕ
  pub server_first : List ℕ
  pub client_final : List ℕ
  pub given_is : given ≡ init_body (mechanism_of hash) (Some client_first) hostname ∷ response_body client_final ∷ []
  pub sent_is : sent ≡ own_mechanisms hash ∷ challenge_body server_first ∷ last
  pub check : ServerCheck (digest_of hash) (block_of hash) (output_of hash) stored own user client_first server_first client_final server_final

-- whether a body is one of those that a client sends
abbrev pub is_of_client : SaslBody → Bool
is_of_client (Mechanisms m) = false
is_of_client (Init i) = true
is_of_client (Challenge c) = false
is_of_client (Response r) = true
is_of_client (Outcome o) = false

-- whether a body of a client is the next one for a listener that was given those before: init, response
abbrev pub is_next : List SaslBody → SaslBody → Bool
is_next [] (Init i) = true
is_next (a ∷ []) (Response r) = true
is_next before body = false

-- why a listener refuses with a code, by what it was given
pub data IsRefusalCause (hash : ScramHash) (stored : List ℕ → Option StoredPassword) (own : List ℕ) (code : SaslCode) (given : List SaslBody) : Type 0 where
  by_client_first : (text : List ℕ) (hostname : Option (List ℕ)) (kind : ScramErrorKind)
      → given ≡ init_body (mechanism_of hash) (Some text) hostname ∷ [] → ¬ IsMemory kind → IsClientFirstRefusal stored text kind
      → code ≡ sasl.Auth → IsRefusalCause hash stored own code given
  by_client_final : (client_first user whole_nonce server_first text : List ℕ) (hostname : Option (List ℕ)) (keys : StoredPassword)
      (answers : ServerAnswers stored own client_first user whole_nonce server_first keys) (kind : ScramErrorKind)
      → given ≡ init_body (mechanism_of hash) (Some client_first) hostname ∷ response_body text ∷ [] → ¬ IsMemory kind
      → IsClientFinalRefusal (digest_of hash) (block_of hash) (output_of hash) keys.stored_key answers.header answers.bare server_first whole_nonce text kind
      → code ≡ sasl.Auth → IsRefusalCause hash stored own code given
  by_mechanism : (name : List ℕ) (response hostname : Option (List ℕ))
      → given ≡ init_body name response hostname ∷ [] → name ≢ mechanism_of hash → code ≡ sasl.Auth → IsRefusalCause hash stored own code given
  by_no_response : (name : List ℕ) (hostname : Option (List ℕ))
      → given ≡ init_body name None hostname ∷ [] → code ≡ sasl.Auth → IsRefusalCause hash stored own code given
  by_order : (before : List SaslBody) (body : SaslBody) → given ≡ before ++ body ∷ [] → is_of_client body ≡ true → is_next before body ≡ false
      → code ≡ sasl.Auth → IsRefusalCause hash stored own code given
  by_other_body : (before : List SaslBody) (body : SaslBody) → given ≡ before ++ body ∷ [] → is_of_client body ≡ false
      → code ≡ sasl.Sys → IsRefusalCause hash stored own code given

-- a listener waited for the last of these bodies, after it had sent those: for the init after its list of mechanisms, or for the
-- response after its challenge (OASIS AMQP 1.0, part 5, section 5.3.2)
pub data Waited (hash : ScramHash) (stored : List ℕ → Option StoredPassword) (own : List ℕ) (given sent : List SaslBody) : Type 0 where
  for_init : (body : SaslBody) → given ≡ body ∷ [] → sent ≡ own_mechanisms hash ∷ [] → Waited hash stored own given sent
  for_response : (c : ServerChallenge) (before : List SaslBody) (body : SaslBody) → given ≡ before ++ body ∷ []
      → HasChallenge hash stored own c before sent (own_mechanisms hash ∷ challenge_body c.server_first ∷ []) → Waited hash stored own given sent

-- an end that owes the other an outcome with a code, for a body for which it waited, and sent two bodies at most
pub record HasToRefuse (hash : ScramHash) (stored : List ℕ → Option StoredPassword) (own : List ℕ) (code : SaslCode) (given sent : List SaslBody) : Type 0 where
  pub few : length sent ≤ 2
  pub waited : Waited hash stored own given sent
  pub cause : IsRefusalCause hash stored own code given

-- an end that told the other this outcome, for a body for which it waited, after two bodies at most
pub record HasRefused (hash : ScramHash) (stored : List ℕ → Option StoredPassword) (own : List ℕ) (code : SaslCode) (given sent : List SaslBody) : Type 0 where
  pub before : List SaslBody
  pub few : length before ≤ 2
  pub waited : Waited hash stored own given before
  pub told : sent ≡ before ++ outcome_body code None ∷ []
  pub cause : IsRefusalCause hash stored own code given

abbrev pub holds_in : {P : Type 0} → ScramHash → (P → List ℕ → Option StoredPassword) → ServerStage → ServerState P → List SaslBody → List SaslBody → Type 0
holds_in hash stored OwesMechanisms s given sent = (given ≡ []) × (sent ≡ [])
holds_in hash stored AwaitsInit s given sent = (given ≡ []) × (sent ≡ own_mechanisms hash ∷ [])
holds_in hash stored (OwesChallenge text) s given sent =
    ForChallenged s.phase (λ c. (c.server_first ≡ text) × HasChallenge hash (stored s.provider) s.nonce c given sent (own_mechanisms hash ∷ []))
holds_in hash stored AwaitsResponse s given sent =
    ForChallenged s.phase (λ c. HasChallenge hash (stored s.provider) s.nonce c given sent (own_mechanisms hash ∷ challenge_body c.server_first ∷ []))
holds_in hash stored (OwesOutcome text) s given sent = HasProof hash (stored s.provider) s.nonce text given sent []
holds_in hash stored Passed s given sent = (text : List ℕ) × HasProof hash (stored s.provider) s.nonce text given sent (outcome_body sasl.Ok (Some text) ∷ [])
holds_in hash stored (OwesRefusal code) s given sent = HasToRefuse hash (stored s.provider) s.nonce code given sent
holds_in hash stored (Refused code) s given sent = HasRefused hash (stored s.provider) s.nonce code given sent

-- the bodies that an end was given and those that it sent
abbrev pub server_holds : {P : Type 0} → (P → List ℕ → Option StoredPassword) → ServerEnd P → List SaslBody → List SaslBody → Type 0
server_holds stored x given sent = holds_in x.hash stored x.stage x.server given sent

-- why a listener fails, by what it was given and what it sent
abbrev pub server_causes : {P : Type 0} → (P → List ℕ → Option StoredPassword) → ServerEnd P → NegotiationError → List SaslBody → List SaslBody → Type 0
server_causes stored x (Memory a) given sent = ⊥
server_causes stored x (ProtocolHeaderMismatch h) given sent = ⊥
server_causes stored x NotImplemented given sent = ⊥
server_causes stored x (SaslError code None) given sent = HasRefused x.hash (stored x.server.provider) x.server.nonce code given sent
server_causes stored x (SaslError code (Some payload)) given sent = ⊥
server_causes stored x (ScramError kind) given sent = ⊥
server_causes stored x (Io kind) given sent = ⊥
server_causes stored x DecodeError given sent = ⊥
server_causes stored x IllegalState given sent = ⊥
server_causes stored x FramingError given sent = ⊥

-- two ends have the same hash function, the same users and the same nonce
pub record ServerSame {P : Type 0} (x y : ServerEnd P) : Type 0 where
  pub hash : x.hash ≡ y.hash
  pub provider : x.server.provider ≡ y.server.provider
  pub nonce : x.server.nonce ≡ y.server.nonce

-- the listener's end as a mechanism, where `stored` is what a provider has
abbrev pub server_mechanism : {P : Type 0} → (P → List ℕ → Option StoredPassword) → Mechanism (ServerEnd P)
server_mechanism stored = record {
  holds = server_holds stored;
  causes = server_causes stored;
  owes = server_owes;
  turn_of = server_turn;
  left = server_left;
  same = ServerSame;
}

-- what comes of a text that is refused: want of memory is no refusal
abbrev pub IsTextAnswer : {P : Type 0} → ScramErrorKind → ServerEnd P → Result Verdict AllocError → ServerEnd P → Type 0
IsTextAnswer kind old (Ok VerdictTaken) new = (new ≡ record old { stage = OwesRefusal sasl.Auth }) × (¬ IsMemory kind)
IsTextAnswer kind old (Ok (VerdictRefused e)) new = ⊥
IsTextAnswer kind old (Err e) new = new ≡ old

-- ---- the laws of the mechanism

-- it refuses with this code
abbrev RefusesWith : SaslCode → Turn → Type 0
RefusesWith code Send = ⊥
RefusesWith code Receive = ⊥
RefusesWith code (Refuse other) = other ≡ code
RefusesWith code Pass = ⊥

refusal_in : {P : Type 0} (hash : ScramHash) (stored : P → List ℕ → Option StoredPassword) (stage : ServerStage) (s : ServerState P) (code : SaslCode) (given sent : List SaslBody)
    → RefusesWith code (turn_in stage) → holds_in hash stored stage s given sent → HasRefused hash (stored s.provider) s.nonce code given sent
refusal_in hash stored OwesMechanisms s code given sent h held = absurd h
refusal_in hash stored AwaitsInit s code given sent h held = absurd h
refusal_in hash stored (OwesChallenge text) s code given sent h held = absurd h
refusal_in hash stored AwaitsResponse s code given sent h held = absurd h
refusal_in hash stored (OwesOutcome text) s code given sent h held = absurd h
refusal_in hash stored Passed s code given sent h held = absurd h
refusal_in hash stored (OwesRefusal other) s code given sent h held = absurd h
refusal_in hash stored (Refused other) s code given sent h held = subst (λ (c : SaslCode). HasRefused hash (stored s.provider) s.nonce c given sent) h held

pub server_refusal : {P : Type 0} (stored : P → List ℕ → Option StoredPassword) (x : ServerEnd P) (code : SaslCode) (given sent : List SaslBody)
    → server_turn x ≡ Refuse code → server_holds stored x given sent → server_causes stored x (refused_with code) given sent
server_refusal stored x code given sent h held =
    refusal_in x.hash stored x.stage x.server code given sent (subst (RefusesWith code) (sym h) refl) held

pub server_same_self : {P : Type 0} (x : ServerEnd P) → ServerSame x x
server_same_self x = record { hash = refl; provider = refl; nonce = refl }

pub server_same_then : {P : Type 0} (x y z : ServerEnd P) → ServerSame x y → ServerSame y z → ServerSame x z
server_same_then x y z a b = record { hash = a.hash ∙ b.hash; provider = a.provider ∙ b.provider; nonce = a.nonce ∙ b.nonce }

-- ---- the ends of an exchange

-- an end that has read and written nothing
abbrev pub server_begun : {P : Type 0} → ScramHash → P → List ℕ → ServerEnd P
server_begun hash provider nonce = record { hash = hash; server = record { provider = provider; nonce = nonce; phase = Unasked }; stage = OwesMechanisms }

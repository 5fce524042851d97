-- The client's end of a SASL negotiation with SCRAM.
use Rattle.std.specs.Prelude.{◌≡◌, ◌⊎◌, ℕ, Bool, true, false, List, [], ◌∷◌, Option, Some, None, Result, Ok, Err, Contains, ⊤}
use Rattle.std.specs.declared.alloc.AllocError.{AllocError}
use Rattle.std.proofs.Common.{refl, sym, subst, ◌∙◌}
use Rattle.amqp_sasl_bodies.specs.declared.sasl_body.SaslBody.{SaslBody}
use Rattle.amqp_sasl_bodies.specs.declared.sasl_body.SaslBody.TheVariants.{Mechanisms, Challenge, Outcome}
use Rattle.amqp_sasl_bodies.specs.declared.sasl_code.SaslCode.{SaslCode}
use Rattle.amqp_sasl_bodies.specs.declared.sasl_code.SaslCode.TheVariants as sasl
use Rattle.sasl_exchange.specs.declared.scram_client.ClientStage.{ClientStage}
use Rattle.sasl_exchange.specs.declared.scram_client.ClientStage.TheVariants.{AwaitsMechanisms, OwesInit, AwaitsChallenge, OwesResponse, AwaitsOutcome, OwesEmptyResponse, AwaitsEnd, Passed}
use Rattle.sasl_exchange.specs.declared.error.NegotiationError.{NegotiationError}
use Rattle.sasl_exchange.specs.declared.error.NegotiationError.TheVariants.{Memory, ProtocolHeaderMismatch, NotImplemented, SaslError, ScramError, Io, DecodeError, IllegalState, FramingError}
use Rattle.sasl_exchange.specs.declared.exchange.Exchange.{Ghosts as Mechanism}
use Rattle.sasl_exchange.specs.declared.exchange.Turn.{Turn}
use Rattle.sasl_exchange.specs.declared.exchange.Turn.TheVariants.{Send, Receive, Refuse, Pass}
use Rattle.sasl_exchange.specs.declared.exchange.Verdict.{Verdict}
use Rattle.sasl_exchange.specs.declared.exchange.Verdict.TheVariants.{Taken, Refused}
use Rattle.sasl_scram.specs.declared.client.ClientAnswer.{ClientAnswer}
use Rattle.sasl_scram.specs.declared.client.ClientPhase.{ClientPhase}
use Rattle.sasl_scram.specs.declared.client.ClientPhase.TheVariants.{Unanswered}
use Rattle.sasl_scram.specs.declared.error.ScramErrorKind.{ScramErrorKind}
use Rattle.sasl_scram.specs.declared.error.ScramErrorKind.TheVariants.{Signature}
use Rattle.sasl_scram.specs.declared.hash.ScramHash.{ScramHash}
use Rattle.sasl_scram.specs.Check.{ClientAnswers, ClientCheck}
use Rattle.sasl_exchange.specs.ClientEnds.{is_refusal, HasMechanisms, IsUnlisted, EndsInRefusal, IsOutOfOrder}
use Rattle.sasl_exchange.specs.Exchange.{refused_with}
use Rattle.sasl_scram.specs.Hashes.{digest_of, block_of, output_of, mechanism_of}
use Rattle.sasl_scram.specs.Refusals.{IsMemory, IsServerFirstRefusal, IsServerFinalRefusal}
use Rattle.sasl_exchange.specs.ScramBodies.{mechanisms_body, init_body, challenge_body, response_body, outcome_body}
use Rattle.sasl_scram.specs.States.{ClientState, ForAnswered}
use Rattle.sasl_scram.specs.Texts.{client_first_of}

-- a client's end of an exchange: its hash function and SCRAM client, how far it is, and the host that it means to reach
pub record ClientEnd : Type 0 where
  pub hash : ScramHash
  pub client : ClientState
  pub stage : ClientStage
  pub hostname : Option (List ℕ)

-- the SCRAM client of an end that is so far
abbrev pub IsClientStage : ClientStage → ClientPhase → Type 0
IsClientStage AwaitsMechanisms phase = phase ≡ Unanswered
IsClientStage OwesInit phase = phase ≡ Unanswered
IsClientStage AwaitsChallenge phase = phase ≡ Unanswered
IsClientStage (OwesResponse text) phase = ForAnswered phase (λ _. Unit {0})
IsClientStage AwaitsOutcome phase = ForAnswered phase (λ _. Unit {0})
IsClientStage OwesEmptyResponse phase = Unit {0}
IsClientStage AwaitsEnd phase = Unit {0}
IsClientStage Passed phase = Unit {0}

abbrev pub turn_in : ClientStage → Turn
turn_in AwaitsMechanisms = Receive
turn_in OwesInit = Send
turn_in AwaitsChallenge = Receive
turn_in (OwesResponse text) = Send
turn_in AwaitsOutcome = Receive
turn_in OwesEmptyResponse = Send
turn_in AwaitsEnd = Receive
turn_in Passed = Pass

abbrev pub client_turn : ClientEnd → Turn
client_turn x = turn_in x.stage

abbrev pub left_in : ClientStage → ℕ
left_in AwaitsMechanisms = 7
left_in OwesInit = 6
left_in AwaitsChallenge = 5
left_in (OwesResponse text) = 4
left_in AwaitsOutcome = 3
left_in OwesEmptyResponse = 2
left_in AwaitsEnd = 1
left_in Passed = 0

abbrev pub client_left : ClientEnd → ℕ
client_left x = left_in x.stage

-- the init of an end
abbrev pub client_init : ClientEnd → SaslBody
client_init x = init_body (mechanism_of x.hash) (Some (client_first_of x.client.user x.client.nonce)) x.hostname

abbrev pub owes_in : ClientStage → ClientEnd → SaslBody → Type 0
owes_in AwaitsMechanisms x body = ⊥
owes_in OwesInit x body = body ≡ client_init x
owes_in AwaitsChallenge x body = ⊥
owes_in (OwesResponse text) x body = body ≡ response_body text
owes_in AwaitsOutcome x body = ⊥
owes_in OwesEmptyResponse x body = body ≡ response_body []
owes_in AwaitsEnd x body = ⊥
owes_in Passed x body = ⊥

-- the body that an end owes
abbrev pub client_owes : ClientEnd → SaslBody → Type 0
client_owes x body = owes_in x.stage x body

-- an end that read a challenge too, has this answer to it, and sent this
pub record HasAnswer (x : ClientEnd) (a : ClientAnswer) (given sent now : List SaslBody) : Type 0 where
  pub names : List (List ℕ)
  pub given_is : given ≡ mechanisms_body names ∷ challenge_body a.server_first ∷ []
  pub listed : Contains names (mechanism_of x.hash)
  pub answers : ClientAnswers (digest_of x.hash) (block_of x.hash) (output_of x.hash) x.client.user x.client.password x.client.nonce a.server_first a.client_final a.signature
  pub sent_is : sent ≡ now

-- an end whose check holds, by a server final that was read as a challenge (OASIS AMQP 1.0, part 5, section 5.3.3.3), and that
-- answered this so far
pub record HasChecked (x : ClientEnd) (replied given sent : List SaslBody) : Type 0 where
  pub names : List (List ℕ)
  pub server_first : List ℕ
  pub client_final : List ℕ
  pub server_final : List ℕ
  pub given_is : given ≡ mechanisms_body names ∷ challenge_body server_first ∷ challenge_body server_final ∷ []
  pub listed : Contains names (mechanism_of x.hash)
  pub sent_is : sent ≡ client_init x ∷ response_body client_final ∷ replied
  pub check : ClientCheck (digest_of x.hash) (block_of x.hash) (output_of x.hash) x.client.user x.client.password x.client.nonce (client_first_of x.client.user x.client.nonce) server_first client_final server_final

-- the server final came with outcome `Ok`, or as a challenge that was answered by an empty response (RFC 5802, section 5; OASIS AMQP
-- 1.0, part 5, section 5.3.2)
pub data IsFinal (server_final : List ℕ) (told replied : List SaslBody) : Type 0 where
  in_outcome : told ≡ outcome_body sasl.Ok (Some server_final) ∷ [] → replied ≡ [] → IsFinal server_final told replied
  in_challenge : (payload : Option (List ℕ)) → told ≡ challenge_body server_final ∷ outcome_body sasl.Ok payload ∷ []
      → replied ≡ response_body [] ∷ [] → IsFinal server_final told replied

-- an end that has passed: its check holds, and the outcome is `Ok`
pub record HasPassed (x : ClientEnd) (given sent : List SaslBody) : Type 0 where
  pub names : List (List ℕ)
  pub server_first : List ℕ
  pub client_final : List ℕ
  pub server_final : List ℕ
  pub told : List SaslBody
  pub replied : List SaslBody
  pub given_is : given ≡ mechanisms_body names ∷ challenge_body server_first ∷ told
  pub sent_is : sent ≡ client_init x ∷ response_body client_final ∷ replied
  pub final : IsFinal server_final told replied
  pub listed : Contains names (mechanism_of x.hash)
  pub check : ClientCheck (digest_of x.hash) (block_of x.hash) (output_of x.hash) x.client.user x.client.password x.client.nonce (client_first_of x.client.user x.client.nonce) server_first client_final server_final

abbrev pub holds_in : ClientStage → ClientEnd → List SaslBody → List SaslBody → Type 0
holds_in AwaitsMechanisms x given sent = (given ≡ []) × (sent ≡ [])
holds_in OwesInit x given sent = HasMechanisms (mechanism_of x.hash) given sent []
holds_in AwaitsChallenge x given sent = HasMechanisms (mechanism_of x.hash) given sent (client_init x ∷ [])
holds_in (OwesResponse text) x given sent = ForAnswered x.client.phase (λ a. (a.client_final ≡ text) × HasAnswer x a given sent (client_init x ∷ []))
holds_in AwaitsOutcome x given sent = ForAnswered x.client.phase (λ a. HasAnswer x a given sent (client_init x ∷ response_body a.client_final ∷ []))
holds_in OwesEmptyResponse x given sent = HasChecked x [] given sent
holds_in AwaitsEnd x given sent = HasChecked x (response_body [] ∷ []) given sent
holds_in Passed x given sent = HasPassed x given sent

-- the bodies that an end was given and those that it sent
abbrev pub client_holds : ClientEnd → List SaslBody → List SaslBody → Type 0
client_holds x given sent = holds_in x.stage x given sent

-- two ends were made for the same hash function, user, password, nonce and host
pub record ClientSame (x y : ClientEnd) : Type 0 where
  pub hash : x.hash ≡ y.hash
  pub user : x.client.user ≡ y.client.user
  pub password : x.client.password ≡ y.client.password
  pub nonce : x.client.nonce ≡ y.client.nonce
  pub hostname : x.hostname ≡ y.hostname

-- whether a body may be the next one for a client that was given those before: mechanisms, challenge, outcome, or mechanisms, challenge,
-- challenge, outcome; and at any time an outcome other than `Ok` (OASIS AMQP 1.0, part 5, sections 5.3.2 and 5.3.3.6)
abbrev pub is_next : List SaslBody → SaslBody → Bool
is_next [] (Mechanisms m) = true
is_next (a ∷ []) (Challenge c) = true
is_next (a ∷ b ∷ []) (Challenge c) = true
is_next (a ∷ b ∷ []) (Outcome o) = true
is_next (a ∷ b ∷ c ∷ []) (Outcome o) = true
is_next before (Outcome o) = is_refusal o.code
is_next before body = false

-- the last body given is out of order
abbrev pub IsDisorder : List SaslBody → Type 0
IsDisorder given = IsOutOfOrder is_next given

-- a body that brings a server final (RFC 5802, section 5): outcome `Ok`, or a challenge
abbrev pub HasFinal : List ℕ → SaslBody → Type 0
HasFinal text body = (body ≡ outcome_body sasl.Ok (Some text)) ⊎ (body ≡ challenge_body text)

-- why a client fails with a kind of SCRAM
pub data IsScramCause (x : ClientEnd) (kind : ScramErrorKind) (given sent : List SaslBody) : Type 0 where
  by_challenge : (names : List (List ℕ)) (text : List ℕ) → given ≡ mechanisms_body names ∷ challenge_body text ∷ [] → ¬ IsMemory kind
      → IsServerFirstRefusal x.client.nonce text kind → IsScramCause x kind given sent
  by_final : (names : List (List ℕ)) (server_first client_final signature text : List ℕ) (body : SaslBody) → HasFinal text body
      → given ≡ mechanisms_body names ∷ challenge_body server_first ∷ body ∷ []
      → sent ≡ client_init x ∷ response_body client_final ∷ []
      → ClientAnswers (digest_of x.hash) (block_of x.hash) (output_of x.hash) x.client.user x.client.password x.client.nonce server_first client_final signature
      → IsServerFinalRefusal (output_of x.hash) signature text kind → IsScramCause x kind given sent
  by_no_signature : (names : List (List ℕ)) (server_first : List ℕ)
      → given ≡ mechanisms_body names ∷ challenge_body server_first ∷ outcome_body sasl.Ok None ∷ []
      → kind ≡ Signature → IsScramCause x kind given sent

-- why a client fails, by what it was given and what it sent
abbrev pub client_causes : ClientEnd → NegotiationError → List SaslBody → List SaslBody → Type 0
client_causes x (Memory a) given sent = ⊥
client_causes x (ProtocolHeaderMismatch h) given sent = ⊥
client_causes x NotImplemented given sent = IsUnlisted (mechanism_of x.hash) given
client_causes x (SaslError code payload) given sent = EndsInRefusal code payload given
client_causes x (ScramError kind) given sent = IsScramCause x kind given sent
client_causes x (Io kind) given sent = ⊥
client_causes x DecodeError given sent = ⊥
client_causes x IllegalState given sent = IsDisorder given
client_causes x FramingError given sent = ⊥

-- the client's end as a mechanism
abbrev pub client_mechanism : Mechanism ClientEnd
client_mechanism = record {
  holds = client_holds;
  causes = client_causes;
  owes = client_owes;
  turn_of = client_turn;
  left = client_left;
  same = ClientSame;
}

-- what comes of a text that is refused: want of memory is no refusal
abbrev pub IsTextAnswer : ScramErrorKind → Result Verdict AllocError → Type 0
IsTextAnswer kind (Ok Taken) = ⊥
IsTextAnswer kind (Ok (Refused e)) = (e ≡ ScramError kind) × (¬ IsMemory kind)
IsTextAnswer kind (Err e) = IsMemory kind

-- ---- the laws of the mechanism

-- it refuses
abbrev Refuses : Turn → Type 0
Refuses Send = ⊥
Refuses Receive = ⊥
Refuses (Refuse code) = ⊤
Refuses Pass = ⊥

never_refuses : (stage : ClientStage) → Refuses (turn_in stage) → ⊥
never_refuses AwaitsMechanisms h = h
never_refuses OwesInit h = h
never_refuses AwaitsChallenge h = h
never_refuses (OwesResponse text) h = h
never_refuses AwaitsOutcome h = h
never_refuses OwesEmptyResponse h = h
never_refuses AwaitsEnd h = h
never_refuses Passed h = h

pub client_refusal : (x : ClientEnd) (code : SaslCode) (given sent : List SaslBody) → client_turn x ≡ Refuse code → client_holds x given sent → client_causes x (refused_with code) given sent
client_refusal x code given sent h held = absurd (never_refuses x.stage (subst Refuses (sym h) tt))

pub client_same_self : (x : ClientEnd) → ClientSame x x
client_same_self x = record { hash = refl; user = refl; password = refl; nonce = refl; hostname = refl }

pub client_same_then : (x y z : ClientEnd) → ClientSame x y → ClientSame y z → ClientSame x z
client_same_then x y z a b = record {
  hash = a.hash ∙ b.hash;
  user = a.user ∙ b.user;
  password = a.password ∙ b.password;
  nonce = a.nonce ∙ b.nonce;
  hostname = a.hostname ∙ b.hostname;
}

-- ---- the ends of an exchange

-- an end that has read and written nothing
abbrev pub client_begun : ScramHash → List ℕ → List ℕ → List ℕ → Option (List ℕ) → ClientEnd
client_begun hash user password nonce hostname = record {
  hash = hash;
  client = record { user = user; password = password; nonce = nonce; phase = Unanswered };
  stage = AwaitsMechanisms;
  hostname = hostname;
}

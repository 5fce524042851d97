-- The listener's end of a SASL negotiation whose client says all in its init: ANONYMOUS (RFC 4505) or PLAIN (RFC 4616).
use Rattle.std.specs.Prelude.{◌≡◌, ◌≢◌, ℕ, true, false, List, [], ◌∷◌, Option, Some, None, IsUtf8}
use Rattle.std.proofs.Common.{refl, sym, subst, ◌∙◌}
use Rattle.amqp_sasl_bodies.specs.declared.sasl_body.SaslBody.{SaslBody}
use Rattle.amqp_sasl_bodies.specs.declared.sasl_code.SaslCode.{SaslCode}
use Rattle.amqp_sasl_bodies.specs.declared.sasl_code.SaslCode.TheVariants as sasl
use Rattle.sasl_exchange.specs.declared.error.NegotiationError.{NegotiationError}
use Rattle.sasl_exchange.specs.declared.error.NegotiationError.TheVariants.{Memory, ProtocolHeaderMismatch, NotImplemented, SaslError, ScramError, Io, DecodeError, IllegalState, FramingError}
use Rattle.sasl_exchange.specs.declared.exchange.Exchange.{Ghosts as Mechanism}
use Rattle.sasl_exchange.specs.declared.exchange.Turn.{Turn}
use Rattle.sasl_exchange.specs.declared.exchange.Turn.TheVariants.{Send, Receive, Refuse, Pass}
use Rattle.sasl_exchange.specs.declared.init_server.InitCheck.{InitCheck}
use Rattle.sasl_exchange.specs.declared.init_server.InitCheck.TheVariants.{Anonymous, Plain}
use Rattle.sasl_exchange.specs.declared.init_server.InitServerStage.{InitServerStage}
use Rattle.sasl_exchange.specs.declared.init_server.InitServerStage.TheVariants.{OwesMechanisms, AwaitsInit, OwesOutcome, Told}
use Rattle.sasl_exchange.specs.Exchange.{refused_with}
use Rattle.sasl_exchange.specs.InitTexts.{anonymous_name, plain_name, IsPlain}
use Rattle.sasl_exchange.specs.ScramBodies.{mechanisms_body, init_body, outcome_body}
use Rattle.sasl_exchange.specs.ScramServer.{is_of_client}

-- such an end: what it asks of an init, and how far it is
pub record InitServerEnd (Q : Type 0) : Type 0 where
  pub check : InitCheck Q
  pub stage : InitServerStage

-- what an end does that has told the other this outcome
abbrev pub told_turn : SaslCode → Turn
told_turn sasl.Ok = Pass
told_turn sasl.Auth = Refuse sasl.Auth
told_turn sasl.Sys = Refuse sasl.Sys
told_turn sasl.SysPerm = Refuse sasl.SysPerm
told_turn sasl.SysTemp = Refuse sasl.SysTemp

abbrev pub turn_in : InitServerStage → Turn
turn_in OwesMechanisms = Send
turn_in AwaitsInit = Receive
turn_in (OwesOutcome code) = Send
turn_in (Told code) = told_turn code

abbrev pub init_server_turn : {Q : Type 0} → InitServerEnd Q → Turn
init_server_turn x = turn_in x.stage

abbrev pub left_in : InitServerStage → ℕ
left_in OwesMechanisms = 3
left_in AwaitsInit = 2
left_in (OwesOutcome code) = 1
left_in (Told code) = 0

abbrev pub init_server_left : {Q : Type 0} → InitServerEnd Q → ℕ
init_server_left x = left_in x.stage

-- the name of the mechanism of a check
abbrev pub check_name : {Q : Type 0} → InitCheck Q → List ℕ
check_name Anonymous = anonymous_name
check_name (Plain q) = plain_name

-- the list of mechanisms of a listener with a check
abbrev pub check_mechanisms : {Q : Type 0} → InitCheck Q → SaslBody
check_mechanisms check = mechanisms_body (check_name check ∷ [])

abbrev pub owes_in : {Q : Type 0} → InitCheck Q → InitServerStage → SaslBody → Type 0
owes_in check OwesMechanisms body = body ≡ check_mechanisms check
owes_in check AwaitsInit body = ⊥
owes_in check (OwesOutcome code) body = body ≡ outcome_body code None
owes_in check (Told code) body = ⊥

-- the body that an end owes
abbrev pub init_server_owes : {Q : Type 0} → InitServerEnd Q → SaslBody → Type 0
init_server_owes x body = owes_in x.check x.stage body

-- ---- what passes

-- an init of ANONYMOUS, whatever it says of its user (RFC 4505, section 2)
pub record IsAnonymousInit (body : SaslBody) : Type 0 where
  pub response : Option (List ℕ)
  pub hostname : Option (List ℕ)
  pub body_is : body ≡ init_body anonymous_name response hostname

-- an init of PLAIN with a user, in UTF-8, and that user's password (RFC 4616, section 2)
pub record IsPlainInit (passwords : List ℕ → Option (List ℕ)) (body : SaslBody) : Type 0 where
  pub text : List ℕ
  pub hostname : Option (List ℕ)
  pub user : List ℕ
  pub password : List ℕ
  pub body_is : body ≡ init_body plain_name (Some text) hostname
  pub text_is : IsPlain text user password
  pub user_is : IsUtf8 user
  pub password_is : passwords user ≡ Some password

-- a body passes a check, where `passwords` is what a provider has
abbrev pub IsPassing : {Q : Type 0} → (Q → List ℕ → Option (List ℕ)) → InitCheck Q → SaslBody → Type 0
IsPassing passwords Anonymous body = IsAnonymousInit body
IsPassing passwords (Plain q) body = IsPlainInit (passwords q) body

-- the code with which a body is answered: `Ok` where it passes, `Auth` where it is one of a client's and does not, and `Sys`
-- where no client sends it
abbrev pub IsJudged : {Q : Type 0} → (Q → List ℕ → Option (List ℕ)) → InitCheck Q → SaslBody → SaslCode → Type 0
IsJudged passwords check body sasl.Ok = IsPassing passwords check body
IsJudged passwords check body sasl.Auth = (is_of_client body ≡ true) × (¬ IsPassing passwords check body)
IsJudged passwords check body sasl.Sys = is_of_client body ≡ false
IsJudged passwords check body sasl.SysPerm = ⊥
IsJudged passwords check body sasl.SysTemp = ⊥

-- ---- what an end was given and sent

-- an end that read one body, judged it, and sent this
pub record HasJudged {Q : Type 0} (passwords : Q → List ℕ → Option (List ℕ)) (check : InitCheck Q) (code : SaslCode) (given sent now : List SaslBody) : Type 0 where
  pub body : SaslBody
  pub given_is : given ≡ body ∷ []
  pub sent_is : sent ≡ now
  pub judged : IsJudged passwords check body code

abbrev pub holds_in : {Q : Type 0} → (Q → List ℕ → Option (List ℕ)) → InitCheck Q → InitServerStage → List SaslBody → List SaslBody → Type 0
holds_in passwords check OwesMechanisms given sent = (given ≡ []) × (sent ≡ [])
holds_in passwords check AwaitsInit given sent = (given ≡ []) × (sent ≡ check_mechanisms check ∷ [])
holds_in passwords check (OwesOutcome code) given sent = HasJudged passwords check code given sent (check_mechanisms check ∷ [])
holds_in passwords check (Told code) given sent = HasJudged passwords check code given sent (check_mechanisms check ∷ outcome_body code None ∷ [])

-- the bodies that an end was given and those that it sent
abbrev pub init_server_holds : {Q : Type 0} → (Q → List ℕ → Option (List ℕ)) → InitServerEnd Q → List SaslBody → List SaslBody → Type 0
init_server_holds passwords x given sent = holds_in passwords x.check x.stage given sent

-- an end that told the other an outcome that refuses
abbrev pub HasRefused : {Q : Type 0} → (Q → List ℕ → Option (List ℕ)) → InitCheck Q → SaslCode → List SaslBody → List SaslBody → Type 0
HasRefused passwords check code given sent =
    (code ≢ sasl.Ok) × HasJudged passwords check code given sent (check_mechanisms check ∷ outcome_body code None ∷ [])

-- why a listener fails, by what it was given and what it sent
abbrev pub init_server_causes : {Q : Type 0} → (Q → List ℕ → Option (List ℕ)) → InitServerEnd Q → NegotiationError → List SaslBody → List SaslBody → Type 0
init_server_causes passwords x (Memory a) given sent = ⊥
init_server_causes passwords x (ProtocolHeaderMismatch h) given sent = ⊥
init_server_causes passwords x NotImplemented given sent = ⊥
init_server_causes passwords x (SaslError code None) given sent = HasRefused passwords x.check code given sent
init_server_causes passwords x (SaslError code (Some payload)) given sent = ⊥
init_server_causes passwords x (ScramError kind) given sent = ⊥
init_server_causes passwords x (Io kind) given sent = ⊥
init_server_causes passwords x DecodeError given sent = ⊥
init_server_causes passwords x IllegalState given sent = ⊥
init_server_causes passwords x FramingError given sent = ⊥

-- two ends ask the same of an init
pub record InitServerSame {Q : Type 0} (x y : InitServerEnd Q) : Type 0 where
  pub check : x.check ≡ y.check

-- the listener's end as a mechanism, where `passwords` is what a provider has
abbrev pub init_server_mechanism : {Q : Type 0} → (Q → List ℕ → Option (List ℕ)) → Mechanism (InitServerEnd Q)
init_server_mechanism passwords = record {
  holds = init_server_holds passwords;
  causes = init_server_causes passwords;
  owes = init_server_owes;
  turn_of = init_server_turn;
  left = init_server_left;
  same = InitServerSame;
}

-- ---- the laws of the mechanism

-- it refuses with this code
abbrev RefusesWith : SaslCode → Turn → Type 0
RefusesWith code Send = ⊥
RefusesWith code Receive = ⊥
RefusesWith code (Refuse other) = other ≡ code
RefusesWith code Pass = ⊥

-- an end that told the other this outcome, and refuses with a code
told_code : (told code : SaslCode) → RefusesWith code (told_turn told) → told ≡ code
told_code sasl.Ok code h = absurd h
told_code sasl.Auth code h = h
told_code sasl.Sys code h = h
told_code sasl.SysPerm code h = h
told_code sasl.SysTemp code h = h

told_refuses : (told code : SaslCode) → RefusesWith code (told_turn told) → told ≢ sasl.Ok
told_refuses sasl.Ok code h = absurd h
told_refuses sasl.Auth code h = λ e. cc
told_refuses sasl.Sys code h = λ e. cc
told_refuses sasl.SysPerm code h = λ e. cc
told_refuses sasl.SysTemp code h = λ e. cc

refusal_in : {Q : Type 0} (passwords : Q → List ℕ → Option (List ℕ)) (check : InitCheck Q) (stage : InitServerStage) (code : SaslCode) (given sent : List SaslBody)
    → RefusesWith code (turn_in stage) → holds_in passwords check stage given sent → HasRefused passwords check code given sent
refusal_in passwords check OwesMechanisms code given sent h held = absurd h
refusal_in passwords check AwaitsInit code given sent h held = absurd h
refusal_in passwords check (OwesOutcome other) code given sent h held = absurd h
refusal_in passwords check (Told other) code given sent h held =
    subst (λ (c : SaslCode). HasRefused passwords check c given sent) (told_code other code h) (told_refuses other code h, held)

pub init_server_refusal : {Q : Type 0} (passwords : Q → List ℕ → Option (List ℕ)) (x : InitServerEnd Q) (code : SaslCode) (given sent : List SaslBody)
    → init_server_turn x ≡ Refuse code → init_server_holds passwords x given sent → init_server_causes passwords x (refused_with code) given sent
init_server_refusal passwords x code given sent h held =
    refusal_in passwords x.check x.stage code given sent (subst (RefusesWith code) (sym h) refl) held

pub init_server_same_self : {Q : Type 0} (x : InitServerEnd Q) → InitServerSame x x
init_server_same_self x = record { check = refl }

pub init_server_same_then : {Q : Type 0} (x y z : InitServerEnd Q) → InitServerSame x y → InitServerSame y z → InitServerSame x z
init_server_same_then x y z a b = record { check = a.check ∙ b.check }

-- ---- the ends of an exchange

-- an end that has read and written nothing
abbrev pub init_server_begun : {Q : Type 0} → InitCheck Q → InitServerEnd Q
init_server_begun check = record { check = check; stage = OwesMechanisms }

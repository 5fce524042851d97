-- The listener's end whose client says all in its init: what passes, and what it passes on.
use Rattle.std.proofs.Common.{◌≡◌, ◌<◌, ◌≤◌, arith, ℕ, List, [], ◌∷◌, ◌++◌, length, Option, Some, None, Ok, refl, sym, ap, ◌∙◌, subst}
use Rattle.std.specs.Prelude.{⊤, IsUtf8}
use Rattle.amqp_sasl_bodies.specs.declared.sasl.SaslInit.{SaslInit}
use Rattle.amqp_sasl_bodies.specs.declared.sasl.SaslResponse.{SaslResponse}
use Rattle.amqp_sasl_bodies.specs.declared.sasl_body.SaslBody.{SaslBody}
use Rattle.amqp_sasl_bodies.specs.declared.sasl_body.SaslBody.TheVariants.{Init, Response}
use Rattle.amqp_sasl_bodies.specs.declared.sasl_code.SaslCode.{SaslCode}
use Rattle.amqp_sasl_bodies.specs.declared.sasl_code.SaslCode.TheVariants as sasl
use Rattle.sasl_exchange.specs.declared.exchange.Turn.{Turn}
use Rattle.sasl_exchange.specs.declared.exchange.Turn.TheVariants.{Send, Receive, Refuse, Pass}
use Rattle.sasl_exchange.specs.declared.exchange.Verdict.TheVariants.{Taken}
use Rattle.sasl_exchange.specs.declared.init_server.InitCheck.{InitCheck}
use Rattle.sasl_exchange.specs.declared.init_server.InitCheck.TheVariants.{Anonymous, Plain}
use Rattle.sasl_exchange.specs.declared.init_server.InitServerStage.{InitServerStage}
use Rattle.sasl_exchange.specs.declared.init_server.InitServerStage.TheVariants.{OwesMechanisms, AwaitsInit, OwesOutcome, Told}
use Rattle.sasl_exchange.specs.InitServer.{InitServerEnd, init_server_turn, turn_in, told_turn, left_in, check_name, check_mechanisms, owes_in, init_server_owes, IsAnonymousInit, IsPlainInit, IsPassing, IsJudged, HasJudged, holds_in, init_server_holds, init_server_mechanism}
use Rattle.sasl_exchange.specs.InitTexts.{anonymous_name, plain_name, IsPlain}
use Rattle.sasl_exchange.specs.ScramBodies.{init_body, outcome_body, Received}
use Rattle.sasl_exchange.proofs.Plains.{plain_once}

-- ---- what passes

-- an init by its parts
init_parts : (i : SaslInit) (mechanism : List ℕ) (response hostname : Option (List ℕ)) → Init i ≡ init_body mechanism response hostname
    → (i.mechanism ≡ mechanism) × (i.initial_response ≡ response)
init_parts i mechanism response hostname e =
    let same : i ≡ record { mechanism = mechanism; initial_response = response; hostname = hostname } = cc in
    (ap (λ (j : SaslInit). j.mechanism) same, ap (λ (j : SaslInit). j.initial_response) same)

-- an init of ANONYMOUS passes
pub anonymous_passes : (i : SaslInit) → i.mechanism ≡ anonymous_name → IsAnonymousInit (Init i)
anonymous_passes i e = record {
  response = i.initial_response;
  hostname = i.hostname;
  body_is = ap (λ (m : List ℕ). init_body m i.initial_response i.hostname) e;
}

module _ (passwords : List ℕ → Option (List ℕ)) (i : SaslInit) where
  -- an init of PLAIN with a user and that user's password passes
  pub plain_passes : (text user password : List ℕ) → i.mechanism ≡ plain_name → i.initial_response ≡ Some text → IsPlain text user password → IsUtf8 user
      → passwords user ≡ Some password → IsPlainInit passwords (Init i)
  plain_passes text user password m r p u k = record {
    text = text;
    hostname = i.hostname;
    user = user;
    password = password;
    body_is = ap (λ (n : List ℕ). init_body n i.initial_response i.hostname) m ∙ ap (λ (o : Option (List ℕ)). init_body plain_name o i.hostname) r;
    text_is = p;
    user_is = u;
    password_is = k;
  }

  -- one without a response does not
  pub plain_silent : i.initial_response ≡ None → IsPlainInit passwords (Init i) → ⊥
  plain_silent none p =
      let some : i.initial_response ≡ Some p.text = (init_parts i plain_name (Some p.text) p.hostname p.body_is).1 in
      let bad : None ≡ Some p.text = sym none ∙ some in
      cc

  plain_text : (text : List ℕ) → i.initial_response ≡ Some text → (p : IsPlainInit passwords (Init i)) → IsPlain text p.user p.password
  plain_text text r p =
      let some : i.initial_response ≡ Some p.text = (init_parts i plain_name (Some p.text) p.hostname p.body_is).1 in
      let two : Some p.text ≡ Some text = sym some ∙ r in
      let same : p.text ≡ text = cc in
      let P : List ℕ → Type 0 = λ t. IsPlain t p.user p.password in
      subst P same p.text_is

  -- nor one whose response is no message
  pub plain_formless : (text : List ℕ) → i.initial_response ≡ Some text → ((user password : List ℕ) → IsPlain text user password → ⊥) → IsPlainInit passwords (Init i) → ⊥
  plain_formless text r none p = none p.user p.password (plain_text text r p)

  -- what one says that passes
  pub plain_known : (text user password : List ℕ) → i.initial_response ≡ Some text → IsPlain text user password → IsPlainInit passwords (Init i)
      → IsUtf8 user × (passwords user ≡ Some password)
  plain_known text user password r m p =
      let once = plain_once text p.user p.password user password (plain_text text r p) m in
      let U : List ℕ → Type 0 = λ u. IsUtf8 u in
      let K : List ℕ → Type 0 = λ u. passwords u ≡ Some p.password in
      (subst U once.0 p.user_is, subst K once.0 p.password_is ∙ ap (λ (w : List ℕ). Some w) once.1)

module _ {Q : Type 0} (passwords : Q → List ℕ → Option (List ℕ)) where
  -- an init that passes is for the mechanism of the check
  pub passing_name : (check : InitCheck Q) (i : SaslInit) → IsPassing passwords check (Init i) → i.mechanism ≡ check_name check
  passing_name Anonymous i p = (init_parts i anonymous_name p.response p.hostname p.body_is).0
  passing_name (Plain q) i p = (init_parts i plain_name (Some p.text) p.hostname p.body_is).0

  -- a response does not pass
  pub passing_response : (check : InitCheck Q) (r : SaslResponse) → IsPassing passwords check (Response r) → ⊥
  passing_response Anonymous r p = let bad : Response r ≡ init_body anonymous_name p.response p.hostname = p.body_is in cc
  passing_response (Plain q) r p = let bad : Response r ≡ init_body plain_name (Some p.text) p.hostname = p.body_is in cc

-- ---- bodies that such a listener reads and sends

-- it waits for a body
abbrev Receives : Turn → Type 0
Receives Send = ⊥
Receives Receive = ⊤
Receives (Refuse code) = ⊥
Receives Pass = ⊥

told_waits : (code : SaslCode) → Receives (told_turn code) → ⊥
told_waits sasl.Ok t = t
told_waits sasl.Auth t = t
told_waits sasl.Sys t = t
told_waits sasl.SysPerm t = t
told_waits sasl.SysTemp t = t

less_in : (stage : InitServerStage) → Receives (turn_in stage) → 1 < left_in stage
less_in OwesMechanisms t = absurd t
less_in AwaitsInit t = omega arith
less_in (OwesOutcome code) t = absurd t
less_in (Told code) t = absurd (told_waits code t)

module _ {Q : Type 0} (passwords : Q → List ℕ → Option (List ℕ)) where
  judged_in : (check : InitCheck Q) (stage : InitServerStage) (body : SaslBody) (code : SaslCode) (given sent : List SaslBody) → Receives (turn_in stage)
      → IsJudged passwords check body code → holds_in passwords check stage given sent → HasJudged passwords check code (given ++ body ∷ []) sent (check_mechanisms check ∷ [])
  judged_in check OwesMechanisms body code given sent t j h = absurd t
  judged_in check AwaitsInit body code given sent t j h = record { body = body; given_is = ap (λ (u : List SaslBody). u ++ body ∷ []) h.0; sent_is = h.1; judged = j }
  judged_in check (OwesOutcome other) body code given sent t j h = absurd t
  judged_in check (Told other) body code given sent t j h = absurd (told_waits other t)

  -- a body was judged
  pub received_judged : (x : InitServerEnd Q) (body : SaslBody) (code : SaslCode) → init_server_turn x ≡ Receive → IsJudged passwords x.check body code
      → Received (init_server_mechanism passwords) x body (Ok Taken) (record x { stage = OwesOutcome code })
  received_judged x body code turn j =
      let waits : Receives (turn_in x.stage) = subst Receives (sym turn) tt in
      record {
        taken = λ given sent h. judged_in x.check x.stage body code given sent waits j h;
        less = less_in x.stage waits;
        same = record { check = refl };
        refused = tt;
        kept = tt;
        err = tt;
      }

  -- the outcome was sent
  pub sent_outcome : (x : InitServerEnd Q) (code : SaslCode) → x.stage ≡ OwesOutcome code → (body : SaslBody) (given sent : List SaslBody) → init_server_owes x body
      → init_server_holds passwords x given sent → HasJudged passwords x.check code given (sent ++ body ∷ []) (check_mechanisms x.check ∷ outcome_body code None ∷ [])
  sent_outcome x code stage body given sent owed held =
      let h : HasJudged passwords x.check code given sent (check_mechanisms x.check ∷ []) = subst (λ (s : InitServerStage). holds_in passwords x.check s given sent) stage held in
      let told : body ≡ outcome_body code None = subst (λ (s : InitServerStage). owes_in x.check s body) stage owed in
      record {
        body = h.body;
        given_is = h.given_is;
        sent_is = ap (λ (u : List SaslBody). u ++ body ∷ []) h.sent_is ∙ ap (λ (b : SaslBody). check_mechanisms x.check ∷ b ∷ []) told;
        judged = h.judged;
      }

-- ---- an end that has passed

-- it has passed
abbrev Passes : Turn → Type 0
Passes Send = ⊥
Passes Receive = ⊥
Passes (Refuse code) = ⊥
Passes Pass = ⊤

told_ok : (code : SaslCode) → Passes (told_turn code) → code ≡ sasl.Ok
told_ok sasl.Ok t = refl
told_ok sasl.Auth t = absurd t
told_ok sasl.Sys t = absurd t
told_ok sasl.SysPerm t = absurd t
told_ok sasl.SysTemp t = absurd t

module _ {Q : Type 0} (passwords : Q → List ℕ → Option (List ℕ)) where
  few_in : (check : InitCheck Q) (stage : InitServerStage) (given sent : List SaslBody) → holds_in passwords check stage given sent → length sent ≤ 2
  few_in check OwesMechanisms given sent h = let e = ap (λ (u : List SaslBody). length u) h.1 in omega (arith, e)
  few_in check AwaitsInit given sent h = let e = ap (λ (u : List SaslBody). length u) h.1 in omega (arith, e)
  few_in check (OwesOutcome code) given sent h = let e = ap (λ (u : List SaslBody). length u) h.sent_is in omega (arith, e)
  few_in check (Told code) given sent h = let e = ap (λ (u : List SaslBody). length u) h.sent_is in omega (arith, e)

  -- two at most
  pub init_server_few : (x : InitServerEnd Q) (given sent : List SaslBody) → init_server_holds passwords x given sent → length sent ≤ 2
  init_server_few x given sent h = few_in x.check x.stage given sent h

  passed_stage : (check : InitCheck Q) (stage : InitServerStage) (given sent : List SaslBody) → Passes (turn_in stage) → holds_in passwords check stage given sent
      → HasJudged passwords check sasl.Ok given sent (check_mechanisms check ∷ outcome_body sasl.Ok None ∷ [])
  passed_stage check OwesMechanisms given sent t h = absurd t
  passed_stage check AwaitsInit given sent t h = absurd t
  passed_stage check (OwesOutcome code) given sent t h = absurd t
  passed_stage check (Told code) given sent t h =
      subst (λ (c : SaslCode). HasJudged passwords check c given sent (check_mechanisms check ∷ outcome_body c None ∷ [])) (told_ok code t) h

  -- a listener that passes has judged so
  pub init_server_passes : (x : InitServerEnd Q) (given sent : List SaslBody) → init_server_turn x ≡ Pass → init_server_holds passwords x given sent
      → HasJudged passwords x.check sasl.Ok given sent (check_mechanisms x.check ∷ outcome_body sasl.Ok None ∷ [])
  init_server_passes x given sent turn held = passed_stage x.check x.stage given sent (subst Passes (sym turn) tt) held

-- Where a body stands among those that a listener sent.
use Rattle.std.proofs.Common.{◌≡◌, ℕ, List, [], ◌∷◌, ◌++◌, Option, Some, None, inl, inr, ap, sym, ◌∙◌, subst}
use Rattle.amqp_sasl_bodies.specs.declared.sasl_body.SaslBody.{SaslBody}
use Rattle.amqp_sasl_bodies.specs.declared.sasl_code.SaslCode.{SaslCode}
use Rattle.amqp_sasl_bodies.specs.declared.sasl_code.SaslCode.TheVariants as sasl
use Rattle.sasl_exchange.specs.declared.exchange.Turn.TheVariants.{Refuse}
use Rattle.sasl_exchange.specs.declared.scram_server.ServerStage.{ServerStage}
use Rattle.sasl_scram.specs.declared.stored.StoredPassword.{StoredPassword}
use Rattle.sasl_scram.specs.Check.{ServerCheck}
use Rattle.sasl_scram.specs.declared.hash.ScramHash.{ScramHash}
use Rattle.sasl_scram.specs.Hashes.{digest_of, block_of, output_of, mechanism_of}
use Rattle.sasl_exchange.specs.ScramBodies.{challenge_body, init_body, outcome_body, response_body}
use Rattle.sasl_exchange.specs.ScramServer.{IsRefusalCause, own_mechanisms, turn_in}
use Rattle.amqp_pairs.proofs.Bodies.{text_in, in_none, in_some, challenge_not_outcome}
use Rattle.amqp_pairs.proofs.ListenerViews.{ListenerView, owes_mechanisms, awaits_init, owes_challenge, awaits_response, owes_outcome, passed, owes_refusal, refused, Asking, at_init, at_response, IsChallenge}

module _ (hash : ScramHash) (stage : ServerStage) (stored : List ℕ → Option StoredPassword) (own : List ℕ) (given : List SaslBody) where
  -- the list, the challenge, the outcome `Ok`, or an outcome that refuses
  pub data Place (before : List SaslBody) (body : SaslBody) (more : List SaslBody) : Type 0 where
    at_list : before ≡ [] → body ≡ own_mechanisms hash → Place before body more
    at_challenge : (a : SaslBody) (first : List ℕ) → before ≡ a ∷ [] → body ≡ challenge_body first → Place before body more
    at_outcome : (a b : SaslBody) (told : List ℕ) → before ≡ a ∷ b ∷ [] → body ≡ outcome_body sasl.Ok (Some told) → Place before body more
    at_refusal : (code : SaslCode) → body ≡ outcome_body code None → turn_in stage ≡ Refuse code → IsRefusalCause hash stored own code given → more ≡ [] → Place before body more

  -- behind the list
  after_list : (before more rest : List SaslBody) (body : SaslBody) → before ++ body ∷ more ≡ own_mechanisms hash ∷ rest
      → ((tail : List SaslBody) → before ≡ own_mechanisms hash ∷ tail → tail ++ body ∷ more ≡ rest → Place before body more) → Place before body more
  after_list before more rest body e next = elim (in_some before more body (own_mechanisms hash) rest e) as (λ _. Place before body more) [
    | inl here ↦ at_list here.0 here.1
    | inr there ↦ next there.0 there.1 there.2
  ]

  -- behind the challenge
  after_challenge : (before more rest : List SaslBody) (body : SaslBody) (first : List ℕ) → before ++ body ∷ more ≡ own_mechanisms hash ∷ challenge_body first ∷ rest
      → ((tail : List SaslBody) → before ≡ own_mechanisms hash ∷ challenge_body first ∷ tail → tail ++ body ∷ more ≡ rest → Place before body more) → Place before body more
  after_challenge before more rest body first e next = after_list before more (challenge_body first ∷ rest) body e (λ tail is f.
      elim (in_some tail more body (challenge_body first) rest f) as (λ _. Place before body more) [
        | inl here ↦ at_challenge (own_mechanisms hash) first (is ∙ ap (λ (t : List SaslBody). own_mechanisms hash ∷ t) here.0) here.1
        | inr there ↦ next there.0 (is ∙ ap (λ (t : List SaslBody). own_mechanisms hash ∷ t) there.1) there.2
      ])

  ends : (before tail more : List SaslBody) (body : SaslBody) → tail ++ body ∷ more ≡ [] → Place before body more
  ends before tail more body e = absurd (in_none tail more body e)

  refuses : (before tail more : List SaslBody) (body : SaslBody) (code : SaslCode) → turn_in stage ≡ Refuse code → IsRefusalCause hash stored own code given
      → tail ++ body ∷ more ≡ outcome_body code None ∷ [] → Place before body more
  refuses before tail more body code turn cause e = elim (in_some tail more body (outcome_body code None) [] e) as (λ _. Place before body more) [
    | inl here ↦ at_refusal code here.1 turn cause here.2
    | inr there ↦ absurd (in_none there.0 more body there.2)
  ]

  tells : (before tail more : List SaslBody) (body : SaslBody) (first told : List ℕ) → before ≡ own_mechanisms hash ∷ challenge_body first ∷ tail
      → tail ++ body ∷ more ≡ outcome_body sasl.Ok (Some told) ∷ [] → Place before body more
  tells before tail more body first told is e = elim (in_some tail more body (outcome_body sasl.Ok (Some told)) [] e) as (λ _. Place before body more) [
    | inl here ↦ at_outcome (own_mechanisms hash) (challenge_body first) told (is ∙ ap (λ (t : List SaslBody). own_mechanisms hash ∷ challenge_body first ∷ t) here.0) here.1
    | inr there ↦ absurd (in_none there.0 more body there.2)
  ]

  asked_place : (before more sent front : List SaslBody) (body : SaslBody) (code : SaslCode) → turn_in stage ≡ Refuse code → IsRefusalCause hash stored own code given
      → Asking hash stored own given front → sent ≡ front ++ outcome_body code None ∷ [] → before ++ body ∷ more ≡ sent → Place before body more
  asked_place before more sent front body code turn cause (at_init b g s) is e =
      after_list before more (outcome_body code None ∷ []) body (e ∙ is ∙ ap (λ (t : List SaslBody). t ++ outcome_body code None ∷ []) s)
      (λ tail at f. refuses before tail more body code turn cause f)
  asked_place before more sent front body code turn cause (at_response cf first h b g s c) is e =
      after_challenge before more (outcome_body code None ∷ []) body first (e ∙ is ∙ ap (λ (t : List SaslBody). t ++ outcome_body code None ∷ []) s)
      (λ tail at f. refuses before tail more body code turn cause f)

  asking_place : (before more front : List SaslBody) (body : SaslBody) → Asking hash stored own given front → before ++ body ∷ more ≡ front → Place before body more
  asking_place before more front body (at_init b g s) e = after_list before more [] body (e ∙ s) (λ tail at f. ends before tail more body f)
  asking_place before more front body (at_response cf first h b g s c) e = after_challenge before more [] body first (e ∙ s) (λ tail at f. ends before tail more body f)

  pub place : (sent before more : List SaslBody) (body : SaslBody) → ListenerView hash stage stored own given sent → before ++ body ∷ more ≡ sent → Place before body more
  place sent before more body (owes_mechanisms t g s) e = ends before before more body (e ∙ s)
  place sent before more body (awaits_init t g s) e = after_list before more [] body (e ∙ s) (λ tail at f. ends before tail more body f)
  place sent before more body (owes_challenge cf first h t g s c) e = after_list before more [] body (e ∙ s) (λ tail at f. ends before tail more body f)
  place sent before more body (awaits_response cf first h t g s c) e = after_challenge before more [] body first (e ∙ s) (λ tail at f. ends before tail more body f)
  place sent before more body (owes_outcome u cf first final told h t g s c) e = after_challenge before more [] body first (e ∙ s) (λ tail at f. ends before tail more body f)
  place sent before more body (passed u cf first final told h t g s c) e =
      after_challenge before more (outcome_body sasl.Ok (Some told) ∷ []) body first (e ∙ s) (λ tail at f. tells before tail more body first told at f)
  place sent before more body (owes_refusal code t c a) e = asking_place before more sent body a e
  place sent before more body (refused code front t c is a) e = asked_place before more sent front body code t c a is e

  -- ---- what stands behind a challenge that was sent

  -- a challenge that answers the init which was given
  pub record IsSentChallenge (first : List ℕ) : Type 0 where
    pub client_first : List ℕ
    pub hostname : Option (List ℕ)
    pub rest : List SaslBody
    pub given_is : given ≡ init_body (mechanism_of hash) (Some client_first) hostname ∷ rest
    pub challenge : IsChallenge stored own client_first first

  same_challenge : (a : SaslBody) (text first : List ℕ) (more rest sent : List SaslBody) → a ∷ challenge_body text ∷ more ≡ sent → sent ≡ own_mechanisms hash ∷ challenge_body first ∷ rest → first ≡ text
  same_challenge a text first more rest sent e s =
      let both : a ∷ challenge_body text ∷ more ≡ own_mechanisms hash ∷ challenge_body first ∷ rest = e ∙ s in
      let heads : challenge_body text ≡ challenge_body first = cc in
      sym (ap text_in heads)

  sent_challenge : (text first cf : List ℕ) (h : Option (List ℕ)) (rest : List SaslBody) → given ≡ init_body (mechanism_of hash) (Some cf) h ∷ rest → IsChallenge stored own cf first → first ≡ text → IsSentChallenge text
  sent_challenge text first cf h rest g c e = record {
    client_first = cf;
    hostname = h;
    rest = rest;
    given_is = g;
    challenge = subst (λ (t : List ℕ). IsChallenge stored own cf t) e c;
  }

  no_challenge : (a : SaslBody) (text : List ℕ) (more sent : List SaslBody) → a ∷ challenge_body text ∷ more ≡ sent → sent ≡ own_mechanisms hash ∷ [] → ⊥
  no_challenge a text more sent e s = let both : a ∷ challenge_body text ∷ more ≡ own_mechanisms hash ∷ [] = e ∙ s in cc

  no_refused_challenge : (a : SaslBody) (text : List ℕ) (code : SaslCode) (more sent : List SaslBody) → a ∷ challenge_body text ∷ more ≡ sent → sent ≡ own_mechanisms hash ∷ outcome_body code None ∷ [] → ⊥
  no_refused_challenge a text code more sent e s =
      let both : a ∷ challenge_body text ∷ more ≡ own_mechanisms hash ∷ outcome_body code None ∷ [] = e ∙ s in
      let heads : challenge_body text ≡ outcome_body code None = cc in
      challenge_not_outcome text code None heads

  asked_challenge : (a : SaslBody) (text : List ℕ) (code : SaslCode) (more sent front : List SaslBody) → Asking hash stored own given front → sent ≡ front ++ outcome_body code None ∷ []
      → a ∷ challenge_body text ∷ more ≡ sent → IsSentChallenge text
  asked_challenge a text code more sent front (at_init b g s) is e =
      absurd (no_refused_challenge a text code more sent e (is ∙ ap (λ (t : List SaslBody). t ++ outcome_body code None ∷ []) s))
  asked_challenge a text code more sent front (at_response cf first h b g s c) is e =
      sent_challenge text first cf h (b ∷ []) g c (same_challenge a text first more (outcome_body code None ∷ []) sent e (is ∙ ap (λ (t : List SaslBody). t ++ outcome_body code None ∷ []) s))

  asking_challenge : (a : SaslBody) (text : List ℕ) (more sent : List SaslBody) → Asking hash stored own given sent → a ∷ challenge_body text ∷ more ≡ sent → IsSentChallenge text
  asking_challenge a text more sent (at_init b g s) e = absurd (no_challenge a text more sent e s)
  asking_challenge a text more sent (at_response cf first h b g s c) e = sent_challenge text first cf h (b ∷ []) g c (same_challenge a text first more [] sent e s)

  checked_challenge : (user cf first final told : List ℕ) → ServerCheck (digest_of hash) (block_of hash) (output_of hash) stored own user cf first final told → IsChallenge stored own cf first
  checked_challenge user cf first final told c = record { user = user; whole = c.whole_nonce; keys = c.keys; answers = c.answers }

  pub challenged : (sent : List SaslBody) (a : SaslBody) (text : List ℕ) (more : List SaslBody) → ListenerView hash stage stored own given sent → a ∷ challenge_body text ∷ more ≡ sent → IsSentChallenge text
  challenged sent a text more (owes_mechanisms t g s) e = let both : a ∷ challenge_body text ∷ more ≡ [] = e ∙ s in cc
  challenged sent a text more (awaits_init t g s) e = absurd (no_challenge a text more sent e s)
  challenged sent a text more (owes_challenge cf first h t g s c) e = absurd (no_challenge a text more sent e s)
  challenged sent a text more (awaits_response cf first h t g s c) e = sent_challenge text first cf h [] g c (same_challenge a text first more [] sent e s)
  challenged sent a text more (owes_outcome u cf first final told h t g s c) e =
      sent_challenge text first cf h (response_body final ∷ []) g (checked_challenge u cf first final told c) (same_challenge a text first more [] sent e s)
  challenged sent a text more (passed u cf first final told h t g s c) e =
      sent_challenge text first cf h (response_body final ∷ []) g (checked_challenge u cf first final told c) (same_challenge a text first more (outcome_body sasl.Ok (Some told) ∷ []) sent e s)
  challenged sent a text more (owes_refusal code t c k) e = asking_challenge a text more sent k e
  challenged sent a text more (refused code front t c is k) e = asked_challenge a text code more sent front k is e

-- What a listener had sent when it was given a response, and what an outcome of it says.
use Rattle.std.proofs.Common.{◌≡◌, ℕ, List, [], ◌∷◌, ◌++◌, Option, Some, None, ap, sym, ◌∙◌, subst}
use Rattle.amqp_sasl_bodies.specs.declared.sasl_body.SaslBody.{SaslBody}
use Rattle.amqp_sasl_bodies.specs.declared.sasl_code.SaslCode.{SaslCode}
use Rattle.amqp_sasl_bodies.specs.declared.sasl_code.SaslCode.TheVariants as sasl
use Rattle.sasl_exchange.specs.declared.exchange.Turn.TheVariants.{Pass}
use Rattle.sasl_exchange.specs.declared.scram_server.ServerStage.{ServerStage}
use Rattle.sasl_scram.specs.declared.stored.StoredPassword.{StoredPassword}
use Rattle.sasl_scram.specs.Check.{ServerCheck}
use Rattle.sasl_scram.specs.declared.hash.ScramHash.{ScramHash}
use Rattle.sasl_scram.specs.Hashes.{digest_of, block_of, output_of, mechanism_of}
use Rattle.sasl_exchange.specs.ScramBodies.{challenge_body, init_body, outcome_body, response_body}
use Rattle.sasl_exchange.specs.ScramServer.{own_mechanisms, turn_in}
use Rattle.amqp_pairs.proofs.Bodies.{text_in, told_not_none}
use Rattle.amqp_pairs.proofs.ListenerViews.{ListenerView, owes_mechanisms, awaits_init, owes_challenge, awaits_response, owes_outcome, passed, owes_refusal, refused, Asking, at_init, at_response, IsChallenge}

-- the challenge that was sent, to this client first
pub record IsAsked (hash : ScramHash) (stored : List ℕ → Option StoredPassword) (own client_first : List ℕ) (sent : List SaslBody) : Type 0 where
  pub first : List ℕ
  pub more : List SaslBody
  pub sent_is : sent ≡ own_mechanisms hash ∷ challenge_body first ∷ more
  pub challenge : IsChallenge stored own client_first first

-- where an init and a response were given
abbrev pub Asked : ScramHash → (List ℕ → Option StoredPassword) → List ℕ → List SaslBody → List SaslBody → Type 0
Asked hash stored own given sent = (client_first : List ℕ) (hostname : Option (List ℕ)) (text : List ℕ)
    → given ≡ init_body (mechanism_of hash) (Some client_first) hostname ∷ response_body text ∷ [] → IsAsked hash stored own client_first sent

same_init : (hash : ScramHash) (a b : List ℕ) (h k : Option (List ℕ)) (rest others : List SaslBody) → init_body (mechanism_of hash) (Some a) h ∷ rest ≡ init_body (mechanism_of hash) (Some b) k ∷ others → a ≡ b
same_init hash a b h k rest others e =
    let heads : init_body (mechanism_of hash) (Some a) h ≡ init_body (mechanism_of hash) (Some b) k = cc in
    ap text_in heads

module _ (hash : ScramHash) (stored : List ℕ → Option StoredPassword) (own : List ℕ) where
  asked_by : (given sent more : List SaslBody) (cf first : List ℕ) (h : Option (List ℕ)) (rest : List SaslBody) → given ≡ init_body (mechanism_of hash) (Some cf) h ∷ rest
      → sent ≡ own_mechanisms hash ∷ challenge_body first ∷ more → IsChallenge stored own cf first → Asked hash stored own given sent
  asked_by given sent more cf first h rest g s c client_first hostname text e = record {
    first = first;
    more = more;
    sent_is = s;
    challenge = subst (λ (t : List ℕ). IsChallenge stored own t first) (same_init hash cf client_first h hostname rest (response_body text ∷ []) (sym g ∙ e)) c;
  }

  none_given : (given sent : List SaslBody) → given ≡ [] → Asked hash stored own given sent
  none_given given sent g cf h text e = let both : [] ≡ init_body (mechanism_of hash) (Some cf) h ∷ response_body text ∷ [] = sym g ∙ e in cc

  one_given : (given sent : List SaslBody) (a : SaslBody) → given ≡ a ∷ [] → Asked hash stored own given sent
  one_given given sent a g cf h text e = let both : a ∷ [] ≡ init_body (mechanism_of hash) (Some cf) h ∷ response_body text ∷ [] = sym g ∙ e in cc

  pub asking_asked : (given sent more : List SaslBody) → Asking hash stored own given sent → Asked hash stored own given (sent ++ more)
  asking_asked given sent more (at_init b g s) = one_given given (sent ++ more) b g
  asking_asked given sent more (at_response cf first h b g s c) = asked_by given (sent ++ more) more cf first h (b ∷ []) g (ap (λ (t : List SaslBody). t ++ more) s) c

  asking_now : (given sent : List SaslBody) → Asking hash stored own given sent → Asked hash stored own given sent
  asking_now given sent (at_init b g s) = one_given given sent b g
  asking_now given sent (at_response cf first h b g s c) = asked_by given sent [] cf first h (b ∷ []) g s c

  checked : (user cf first final told : List ℕ) → ServerCheck (digest_of hash) (block_of hash) (output_of hash) stored own user cf first final told → IsChallenge stored own cf first
  checked user cf first final told c = record { user = user; whole = c.whole_nonce; keys = c.keys; answers = c.answers }

  pub asked : (stage : ServerStage) (given sent : List SaslBody) → ListenerView hash stage stored own given sent → Asked hash stored own given sent
  asked stage given sent (owes_mechanisms t g s) = none_given given sent g
  asked stage given sent (awaits_init t g s) = none_given given sent g
  asked stage given sent (owes_challenge cf first h t g s c) = one_given given sent (init_body (mechanism_of hash) (Some cf) h) g
  asked stage given sent (awaits_response cf first h t g s c) = one_given given sent (init_body (mechanism_of hash) (Some cf) h) g
  asked stage given sent (owes_outcome u cf first final told h t g s c) = asked_by given sent [] cf first h (response_body final ∷ []) g s (checked u cf first final told c)
  asked stage given sent (passed u cf first final told h t g s c) =
      asked_by given sent (outcome_body sasl.Ok (Some told) ∷ []) cf first h (response_body final ∷ []) g s (checked u cf first final told c)
  asked stage given sent (owes_refusal code t c k) = asking_now given sent k
  asked stage given sent (refused code front t c is k) =
      subst (λ (u : List SaslBody). Asked hash stored own given u) (sym is) (asking_asked given front (outcome_body code None ∷ []) k)

  -- ---- the outcome `Ok`

  -- the check that it stands for
  pub record IsChecked (stage : ServerStage) (given : List SaslBody) (first told : List ℕ) : Type 0 where
    pub user : List ℕ
    pub client_first : List ℕ
    pub final : List ℕ
    pub hostname : Option (List ℕ)
    pub passes : turn_in stage ≡ Pass
    pub given_is : given ≡ init_body (mechanism_of hash) (Some client_first) hostname ∷ response_body final ∷ []
    pub check : ServerCheck (digest_of hash) (block_of hash) (output_of hash) stored own user client_first first final told

  three : (a b : SaslBody) (told : List ℕ) (more sent : List SaslBody) → a ∷ b ∷ outcome_body sasl.Ok (Some told) ∷ more ≡ sent → sent ≡ [] → ⊥
  three a b told more sent e s = let both : a ∷ b ∷ outcome_body sasl.Ok (Some told) ∷ more ≡ [] = e ∙ s in cc

  three_one : (a b c : SaslBody) (told : List ℕ) (more sent : List SaslBody) → a ∷ b ∷ outcome_body sasl.Ok (Some told) ∷ more ≡ sent → sent ≡ c ∷ [] → ⊥
  three_one a b c told more sent e s = let both : a ∷ b ∷ outcome_body sasl.Ok (Some told) ∷ more ≡ c ∷ [] = e ∙ s in cc

  three_two : (a b c d : SaslBody) (told : List ℕ) (more sent : List SaslBody) → a ∷ b ∷ outcome_body sasl.Ok (Some told) ∷ more ≡ sent → sent ≡ c ∷ d ∷ [] → ⊥
  three_two a b c d told more sent e s = let both : a ∷ b ∷ outcome_body sasl.Ok (Some told) ∷ more ≡ c ∷ d ∷ [] = e ∙ s in cc

  three_refused : (a b c d : SaslBody) (told : List ℕ) (code : SaslCode) (more sent : List SaslBody) → a ∷ b ∷ outcome_body sasl.Ok (Some told) ∷ more ≡ sent
      → sent ≡ c ∷ d ∷ outcome_body code None ∷ [] → ⊥
  three_refused a b c d told code more sent e s =
      let both : a ∷ b ∷ outcome_body sasl.Ok (Some told) ∷ more ≡ c ∷ d ∷ outcome_body code None ∷ [] = e ∙ s in
      let heads : outcome_body sasl.Ok (Some told) ≡ outcome_body code None = cc in
      told_not_none sasl.Ok code told heads

  asking_not : (a b : SaslBody) (told : List ℕ) (more given sent : List SaslBody) → Asking hash stored own given sent → a ∷ b ∷ outcome_body sasl.Ok (Some told) ∷ more ≡ sent → ⊥
  asking_not a b told more given sent (at_init c g s) e = three_one a b (own_mechanisms hash) told more sent e s
  asking_not a b told more given sent (at_response cf first h c g s k) e = three_two a b (own_mechanisms hash) (challenge_body first) told more sent e s

  refused_not : (a b : SaslBody) (told : List ℕ) (code : SaslCode) (more given sent front : List SaslBody) → Asking hash stored own given front → sent ≡ front ++ outcome_body code None ∷ []
      → a ∷ b ∷ outcome_body sasl.Ok (Some told) ∷ more ≡ sent → ⊥
  refused_not a b told code more given sent front (at_init c g s) is e =
      three_two a b (own_mechanisms hash) (outcome_body code None) told more sent e (is ∙ ap (λ (t : List SaslBody). t ++ outcome_body code None ∷ []) s)
  refused_not a b told code more given sent front (at_response cf first h c g s k) is e =
      three_refused a b (own_mechanisms hash) (challenge_body first) told code more sent e (is ∙ ap (λ (t : List SaslBody). t ++ outcome_body code None ∷ []) s)

  same_told : (a : SaslBody) (text told first final : List ℕ) (more sent : List SaslBody) → a ∷ challenge_body text ∷ outcome_body sasl.Ok (Some told) ∷ more ≡ sent
      → sent ≡ own_mechanisms hash ∷ challenge_body first ∷ outcome_body sasl.Ok (Some final) ∷ [] → (first ≡ text) × (final ≡ told)
  same_told a text told first final more sent e s =
      let both : a ∷ challenge_body text ∷ outcome_body sasl.Ok (Some told) ∷ more ≡ own_mechanisms hash ∷ challenge_body first ∷ outcome_body sasl.Ok (Some final) ∷ [] = e ∙ s in
      let seconds : challenge_body text ≡ challenge_body first = cc in
      let thirds : outcome_body sasl.Ok (Some told) ≡ outcome_body sasl.Ok (Some final) = cc in
      (sym (ap text_in seconds), sym (ap text_in thirds))

  pub told_check : (stage : ServerStage) (given sent : List SaslBody) (a : SaslBody) (text told : List ℕ) (more : List SaslBody) → ListenerView hash stage stored own given sent
      → a ∷ challenge_body text ∷ outcome_body sasl.Ok (Some told) ∷ more ≡ sent → IsChecked stage given text told
  told_check stage given sent a text told more (owes_mechanisms t g s) e = absurd (three a (challenge_body text) told more sent e s)
  told_check stage given sent a text told more (awaits_init t g s) e = absurd (three_one a (challenge_body text) (own_mechanisms hash) told more sent e s)
  told_check stage given sent a text told more (owes_challenge cf first h t g s c) e = absurd (three_one a (challenge_body text) (own_mechanisms hash) told more sent e s)
  told_check stage given sent a text told more (awaits_response cf first h t g s c) e =
      absurd (three_two a (challenge_body text) (own_mechanisms hash) (challenge_body first) told more sent e s)
  told_check stage given sent a text told more (owes_outcome u cf first final own_told h t g s c) e =
      absurd (three_two a (challenge_body text) (own_mechanisms hash) (challenge_body first) told more sent e s)
  told_check stage given sent a text told more (passed u cf first final own_told h t g s c) e =
      let same = same_told a text told first own_told more sent e s in
      record {
        user = u;
        client_first = cf;
        final = final;
        hostname = h;
        passes = t;
        given_is = g;
        check = subst (λ (w : List ℕ). ServerCheck (digest_of hash) (block_of hash) (output_of hash) stored own u cf w final told) same.0
            (subst (λ (w : List ℕ). ServerCheck (digest_of hash) (block_of hash) (output_of hash) stored own u cf first final w) same.1 c);
      }
  told_check stage given sent a text told more (owes_refusal code t c k) e = absurd (asking_not a (challenge_body text) told more given sent k e)
  told_check stage given sent a text told more (refused code front t c is k) e = absurd (refused_not a (challenge_body text) told code more given sent front k is e)

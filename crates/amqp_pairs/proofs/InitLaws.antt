-- The laws of two joined ends with ANONYMOUS or PLAIN.
use Rattle.std.proofs.Common.{◌≡◌, ◌≢◌, inl, inr, ℕ, true, false, List, [], ◌∷◌, ◌++◌, Option, None, refl, ap, sym, ◌∙◌, subst, Contains}
use Rattle.std.proofs.lemmas.List.Elements.{Contains-push}
use Rattle.amqp_sasl_bodies.specs.declared.sasl_body.SaslBody.{SaslBody}
use Rattle.amqp_sasl_bodies.specs.declared.sasl_code.SaslCode.{SaslCode}
use Rattle.amqp_sasl_bodies.specs.declared.sasl_code.SaslCode.TheVariants as sasl
use Rattle.amqp_opening.specs.Authentication.{passwords_for}
use Rattle.sasl_exchange.specs.declared.client.ClientExchange.TheVariants as client
use Rattle.sasl_exchange.specs.declared.error.NegotiationError.{NegotiationError}
use Rattle.sasl_exchange.specs.declared.error.NegotiationError.TheVariants.{Memory, ProtocolHeaderMismatch, NotImplemented, SaslError, ScramError, Io, DecodeError, IllegalState, FramingError}
use Rattle.sasl_exchange.specs.declared.exchange.Turn.TheVariants.{Send, Receive, Refuse, Pass}
use Rattle.sasl_exchange.specs.declared.init_client.InitClientStage.{InitClientStage}
use Rattle.sasl_exchange.specs.declared.init_server.InitCheck.{InitCheck}
use Rattle.sasl_exchange.specs.declared.init_server.InitServerStage.{InitServerStage}
use Rattle.sasl_exchange.specs.declared.init_server.InitServerStage.TheVariants.{OwesMechanisms, AwaitsInit, OwesOutcome, Told}
use Rattle.sasl_exchange.specs.declared.server.ServerExchange.TheVariants as server
use Rattle.sasl_exchange.specs.Credentials.{Credentials}
use Rattle.sasl_exchange.specs.Exchange.{refused_with}
use Rattle.sasl_exchange.specs.InitClient.{InitClientEnd, init_client_causes, init_client_turn, is_next, own_init}
use Rattle.sasl_exchange.specs.InitServer.{InitServerEnd, IsJudged, IsPassing, check_mechanisms, check_name, holds_in, init_server_turn, told_turn, turn_in}
use Rattle.sasl_exchange.specs.ScramBodies.{mechanisms_body, outcome_body}
use Rattle.sasl_scram.specs.States.{Account}
use Rattle.amqp_pairs.specs.InitEnds.{AreInitJoined, HasOtherAccount, HasSameAccount, IsInitTold, IsRefusingWith, MayRefuseInit}
use Rattle.amqp_pairs.proofs.Bodies.{code_in, in_none, in_some, last_in_flight, last_of_one, last_of_two, last_once, list_not_outcome, names_in, none_in_flight, payload_in}
use Rattle.amqp_pairs.proofs.Inits.{init_apart, refused_other, same_code, same_passes}
use Rattle.amqp_pairs.proofs.InitViews.{InitClientView, awaits_mechanisms, owes_init, awaits_outcome, passed, init_client_view}
use Rattle.amqp_pairs.proofs.InitViews as listener
use Rattle.amqp_pairs.proofs.InitViews.{InitListenerView, init_listener_view}
use Rattle.amqp_pairs.proofs.Still.{both_still}

auth_not_ok : sasl.Auth ≢ sasl.Ok
auth_not_ok e = cc

-- ---- turns of a listener that told an outcome

send_not : (code : SaslCode) → Send ≡ Refuse code → ⊥
send_not code e = cc

receive_not : (code : SaslCode) → Receive ≡ Refuse code → ⊥
receive_not code e = cc

-- where it refuses it told that code, which is not `Ok`
told_refused : (told code : SaslCode) → told_turn told ≡ Refuse code → (told ≡ code) × (told ≢ sasl.Ok)
told_refused sasl.Ok code e = let both : Pass ≡ Refuse code = e in absurd (cc both)
told_refused sasl.Auth code e = let both : Refuse sasl.Auth ≡ Refuse code = e in (cc, λ f. absurd (cc f))
told_refused sasl.Sys code e = let both : Refuse sasl.Sys ≡ Refuse code = e in (cc, λ f. absurd (cc f))
told_refused sasl.SysPerm code e = let both : Refuse sasl.SysPerm ≡ Refuse code = e in (cc, λ f. absurd (cc f))
told_refused sasl.SysTemp code e = let both : Refuse sasl.SysTemp ≡ Refuse code = e in (cc, λ f. absurd (cc f))

-- ---- what a client sent

one_init : (x : InitClientEnd) (sent before rest : List SaslBody) (body : SaslBody) → sent ≡ own_init x ∷ [] → before ++ body ∷ rest ≡ sent → body ≡ own_init x
one_init x sent before rest body s e = elim (in_some before rest body (own_init x) [] (e ∙ s)) as (λ _. body ≡ own_init x) [
  | inl here ↦ here.1
  | inr there ↦ absurd (in_none there.0 rest body there.2)
]

init_sent : (stage : InitClientStage) (x : InitClientEnd) (given sent before rest : List SaslBody) (body : SaslBody) → InitClientView stage x given sent → before ++ body ∷ rest ≡ sent → body ≡ own_init x
init_sent stage x given sent before rest body (awaits_mechanisms t g s) e = absurd (in_none before rest body (e ∙ s))
init_sent stage x given sent before rest body (owes_init names t g c s) e = absurd (in_none before rest body (e ∙ s))
init_sent stage x given sent before rest body (awaits_outcome names t g c s) e = one_init x sent before rest body s e
init_sent stage x given sent before rest body (passed names payload t g c s) e = one_init x sent before rest body s e

-- ---- a client has no cause to refuse what it took

next_again : (before other : List SaslBody) (body b : SaslBody) → before ≡ other → body ≡ b → is_next other b ≡ true → is_next before body ≡ false → ⊥
next_again before other body b p q next not =
    let at : is_next before body ≡ true = subst (λ (u : List SaslBody). is_next u body ≡ true) (sym p) (subst (λ (u : SaslBody). is_next other u ≡ true) (sym q) next) in
    let both : true ≡ false = sym at ∙ not in
    cc

module _ (stage : InitClientStage) (x : InitClientEnd) (given sent : List SaslBody) where
  -- the list that it took
  own_list : (names : List (List ℕ)) → given ≡ mechanisms_body names ∷ [] → InitClientView stage x given sent → Contains names x.mechanism
  own_list names e (awaits_mechanisms t g s) = absurd (in_none [] [] (mechanisms_body names) (sym e ∙ g))
  own_list names e (owes_init own t g c s) =
      let both : mechanisms_body own ∷ [] ≡ mechanisms_body names ∷ [] = sym g ∙ e in
      let heads : mechanisms_body own ≡ mechanisms_body names = cc in
      subst (λ (u : List (List ℕ)). Contains u x.mechanism) (ap names_in heads) c
  own_list names e (awaits_outcome own t g c s) =
      let both : mechanisms_body own ∷ [] ≡ mechanisms_body names ∷ [] = sym g ∙ e in
      let heads : mechanisms_body own ≡ mechanisms_body names = cc in
      subst (λ (u : List (List ℕ)). Contains u x.mechanism) (ap names_in heads) c
  own_list names e (passed own payload t g c s) =
      let both : mechanisms_body own ∷ outcome_body sasl.Ok payload ∷ [] ≡ mechanisms_body names ∷ [] = sym g ∙ e in absurd (cc both)

  -- an outcome that it took is `Ok`
  no_outcome : (front more : List SaslBody) (code : SaslCode) (payload : Option (List ℕ)) (names : List (List ℕ)) → front ++ outcome_body code payload ∷ more ≡ mechanisms_body names ∷ [] → code ≡ sasl.Ok
  no_outcome front more code payload names e = elim (in_some front more (outcome_body code payload) (mechanisms_body names) [] e) as (λ _. code ≡ sasl.Ok) [
    | inl here ↦ absurd (list_not_outcome names code payload (sym here.1))
    | inr later ↦ absurd (in_none later.0 more (outcome_body code payload) later.2)
  ]

  took_ok : (front more : List SaslBody) (code : SaslCode) (payload : Option (List ℕ)) → front ++ outcome_body code payload ∷ more ≡ given → InitClientView stage x given sent → code ≡ sasl.Ok
  took_ok front more code payload e (awaits_mechanisms t g s) = absurd (in_none front more (outcome_body code payload) (e ∙ g))
  took_ok front more code payload e (owes_init names t g c s) = no_outcome front more code payload names (e ∙ g)
  took_ok front more code payload e (awaits_outcome names t g c s) = no_outcome front more code payload names (e ∙ g)
  took_ok front more code payload e (passed names told t g c s) =
      elim (in_some front more (outcome_body code payload) (mechanisms_body names) (outcome_body sasl.Ok told ∷ []) (e ∙ g)) as (λ _. code ≡ sasl.Ok) [
        | inl here ↦ absurd (list_not_outcome names code payload (sym here.1))
        | inr there ↦ elim (in_some there.0 more (outcome_body code payload) (outcome_body sasl.Ok told) [] there.2) as (λ _. code ≡ sasl.Ok) [
          | inl now ↦ ap code_in now.1
          | inr late ↦ absurd (in_none late.0 more (outcome_body code payload) late.2)
        ]
      ]

  in_order : (before : List SaslBody) (body : SaslBody) → given ≡ before ++ body ∷ [] → is_next before body ≡ false → InitClientView stage x given sent → ⊥
  in_order before body e not (awaits_mechanisms t g s) = in_none before [] body (sym e ∙ g)
  in_order before body e not (owes_init names t g c s) =
      let at = last_of_one before body (mechanisms_body names) (sym e ∙ g) in
      next_again before [] body (mechanisms_body names) at.0 at.1 refl not
  in_order before body e not (awaits_outcome names t g c s) =
      let at = last_of_one before body (mechanisms_body names) (sym e ∙ g) in
      next_again before [] body (mechanisms_body names) at.0 at.1 refl not
  in_order before body e not (passed names payload t g c s) =
      let at = last_of_two before body (mechanisms_body names) (outcome_body sasl.Ok payload) (sym e ∙ g) in
      next_again before (mechanisms_body names ∷ []) body (outcome_body sasl.Ok payload) at.0 at.1 refl not

  pub took_all : (e : NegotiationError) → init_client_causes x e given sent → InitClientView stage x given sent → ⊥
  took_all (Memory a) c v = c
  took_all (ProtocolHeaderMismatch h) c v = c
  took_all NotImplemented (names, is, not) v = not (own_list names is v)
  took_all (SaslError code payload) (before, is, not) v = not (took_ok before [] code payload (sym is) v)
  took_all (ScramError kind) c v = c
  took_all (Io kind) c v = c
  took_all DecodeError c v = c
  took_all IllegalState c v = in_order c.before c.body c.given_is c.not_next v
  took_all FramingError c v = c

-- ---- what a listener sent

-- its list, or after it an outcome with the code of the init that it judged
pub data InitPlace (check : InitCheck Account) (stage : InitServerStage) (given before : List SaslBody) (body : SaslBody) : Type 0 where
  at_list : before ≡ [] → body ≡ check_mechanisms check → InitPlace check stage given before body
  at_outcome : (code : SaslCode) (init : SaslBody) → before ≡ check_mechanisms check ∷ [] → body ≡ outcome_body code None → turn_in stage ≡ told_turn code → given ≡ init ∷ []
      → IsJudged passwords_for check init code → InitPlace check stage given before body

module _ (check : InitCheck Account) (stage : InitServerStage) (given sent before more : List SaslBody) (body : SaslBody) (e : before ++ body ∷ more ≡ sent) where
  alone : sent ≡ check_mechanisms check ∷ [] → InitPlace check stage given before body
  alone s = elim (in_some before more body (check_mechanisms check) [] (e ∙ s)) as (λ _. InitPlace check stage given before body) [
    | inl here ↦ at_list here.0 here.1
    | inr there ↦ absurd (in_none there.0 more body there.2)
  ]

  init_place : InitListenerView check stage given sent → InitPlace check stage given before body
  init_place (listener.owes_mechanisms t g s) = absurd (in_none before more body (e ∙ s))
  init_place (listener.awaits_init t g s) = alone s
  init_place (listener.owes_outcome code init t g j s) = alone s
  init_place (listener.told code init t g j s) =
      elim (in_some before more body (check_mechanisms check) (outcome_body code None ∷ []) (e ∙ s)) as (λ _. InitPlace check stage given before body) [
        | inl here ↦ at_list here.0 here.1
        | inr there ↦ elim (in_some there.0 more body (outcome_body code None) [] there.2) as (λ _. InitPlace check stage given before body) [
          | inl now ↦ at_outcome code init (there.1 ∙ ap (λ (u : List SaslBody). check_mechanisms check ∷ u) now.0) now.1 t g j
          | inr late ↦ absurd (in_none late.0 more body late.2)
        ]
      ]

-- ---- the laws

-- no error is one with which a client can refuse the same account
pub init_impossible : (c : Credentials) (y : InitServerEnd Account) → HasSameAccount c y.check → (e : NegotiationError) (body : SaslBody) → MayRefuseInit c y body e → ⊥
init_impossible c y same (Memory a) body m = m
init_impossible c y same (ProtocolHeaderMismatch h) body m = m
init_impossible c y same NotImplemented body m = m
init_impossible c y same (SaslError code payload) body m = init_apart c y.check same m.2.other
init_impossible c y same (ScramError kind) body m = m
init_impossible c y same (Io kind) body m = m
init_impossible c y same DecodeError body m = m
init_impossible c y same IllegalState body m = m
init_impossible c y same FramingError body m = m

module _ (c : Credentials) (x : InitClientEnd) (y : InitServerEnd Account) (gc sc gl sl fc fl : List SaslBody) (j : AreInitJoined c x y gc sc gl sl fc fl) where
  near : InitClientView x.stage x gc sc
  near = init_client_view x.stage x gc sc j.ends.client

  there : InitListenerView y.check y.stage gl sl
  there = init_listener_view y.check y.stage gl sl j.ends.listener

  -- the init that was given, or is in flight
  pub given_init : (body : SaslBody) → gl ≡ body ∷ [] → body ≡ own_init x
  given_init body g = init_sent x.stage x gc sc [] fl body near (sym (ap (λ (u : List SaslBody). u ++ fl) g) ∙ j.reads_client)

  next_init : (body : SaslBody) (more : List SaslBody) → fl ≡ body ∷ more → body ≡ own_init x
  next_init body more next = init_sent x.stage x gc sc gl more body near (ap (λ (u : List SaslBody). gl ++ u) (sym next) ∙ j.reads_client)

  -- ---- another account

  pub judged_other : (code : SaslCode) (body : SaslBody) → body ≡ own_init x → IsJudged passwords_for y.check body code → code ≢ sasl.Ok → (code ≡ sasl.Auth) × HasOtherAccount c y.check
  judged_other code body is judged not =
      refused_other c x y.check j.ends.says j.ends.texts_are j.ends.same_mechanism code (subst (λ (b : SaslBody). IsJudged passwords_for y.check b code) is judged) not

  refusing_in : (stage : InitServerStage) (code : SaslCode) → holds_in passwords_for y.check stage gl sl → IsRefusingWith code stage → (code ≡ sasl.Auth) × HasOtherAccount c y.check
  refusing_in OwesMechanisms code h r = absurd r
  refusing_in AwaitsInit code h r = absurd r
  refusing_in (OwesOutcome other) code h r =
      judged_other code h.body (given_init h.body h.given_is) (subst (λ (k : SaslCode). IsJudged passwords_for y.check h.body k) r.0 h.judged) r.1
  refusing_in (Told other) code h r =
      judged_other code h.body (given_init h.body h.given_is) (subst (λ (k : SaslCode). IsJudged passwords_for y.check h.body k) r.0 h.judged) r.1

  pub refusing_other : (code : SaslCode) → IsRefusingWith code y.stage → (code ≡ sasl.Auth) × HasOtherAccount c y.check
  refusing_other code r = refusing_in y.stage code j.ends.listener r

  pub next_other : (code : SaslCode) (body : SaslBody) (more : List SaslBody) → fl ≡ body ∷ more → IsJudged passwords_for y.check body code → code ≢ sasl.Ok
      → (code ≡ sasl.Auth) × HasOtherAccount c y.check
  next_other code body more next judged not = judged_other code body (next_init body more next) judged not

  pub nothing_refused : (e : NegotiationError) → init_client_causes x e gc sc → ⊥
  nothing_refused e cause = took_all x.stage x gc sc e cause near

  -- ---- why the client refuses the next body

  module _ (body : SaslBody) where
    no_list : gc ≡ [] → body ≡ check_mechanisms y.check → (e : NegotiationError) → init_client_causes x e (gc ++ body ∷ []) sc → ⊥
    no_list g is (Memory a) cause = cause
    no_list g is (ProtocolHeaderMismatch h) cause = cause
    no_list g is NotImplemented (names, given, not) =
        let at = last_of_one gc body (mechanisms_body names) given in
        let same : names ≡ check_name y.check ∷ [] = ap names_in (sym at.1 ∙ is) in
        not (subst (λ (u : List (List ℕ)). Contains u x.mechanism) (sym same)
        (subst (λ (n : List ℕ). Contains (n ∷ []) x.mechanism) j.ends.same_mechanism (Contains-push [] x.mechanism)))
    no_list g is (SaslError code payload) (before, given, not) =
        list_not_outcome (check_name y.check ∷ []) code payload (sym is ∙ (last_once gc before body (outcome_body code payload) given).1)
    no_list g is (ScramError kind) cause = cause
    no_list g is (Io kind) cause = cause
    no_list g is DecodeError cause = cause
    no_list g is IllegalState cause =
        let at = last_once gc cause.before body cause.body cause.given_is in
        next_again cause.before [] cause.body (check_mechanisms y.check) (sym at.0 ∙ g) (sym at.1 ∙ is) refl cause.not_next
    no_list g is FramingError cause = cause

    -- the outcome of the init that the listener judged
    module _ (code : SaslCode) (init : SaslBody) (g : gc ≡ check_mechanisms y.check ∷ []) (is : body ≡ outcome_body code None) (turn : init_server_turn y ≡ told_turn code)
        (given : gl ≡ init ∷ []) (judged : IsJudged passwords_for y.check init code) where
      told : code ≢ sasl.Ok → (code ≡ sasl.Auth) × IsInitTold c y body
      told not =
          let why = judged_other code init (given_init init given) judged not in
          (why.0, record { body_is = is ∙ ap (λ (k : SaslCode). outcome_body k None) why.0; refuses = turn ∙ ap told_turn why.0; other = why.1 })

      two_not_one : (names : List (List ℕ)) → gc ++ body ∷ [] ≡ mechanisms_body names ∷ [] → ⊥
      two_not_one names e =
          let none : gc ≡ [] = (last_of_one gc body (mechanisms_body names) e).0 in
          in_none [] [] (check_mechanisms y.check) (sym g ∙ none)

      outcome_refused : (e : NegotiationError) → init_client_causes x e (gc ++ body ∷ []) sc → MayRefuseInit c y body e
      outcome_refused (Memory a) cause = cause
      outcome_refused (ProtocolHeaderMismatch h) cause = cause
      outcome_refused NotImplemented (names, e, not) = two_not_one names e
      outcome_refused (SaslError other payload) (before, e, not) =
          let last : outcome_body code None ≡ outcome_body other payload = sym is ∙ (last_once gc before body (outcome_body other payload) e).1 in
          let codes : other ≡ code = sym (ap code_in last) in
          let w = told (λ ok. not (codes ∙ ok)) in
          (codes ∙ w.0, sym (ap payload_in last), w.1)
      outcome_refused (ScramError kind) cause = cause
      outcome_refused (Io kind) cause = cause
      outcome_refused DecodeError cause = cause
      outcome_refused IllegalState cause =
          let at = last_once gc cause.before body cause.body cause.given_is in
          next_again cause.before (check_mechanisms y.check ∷ []) cause.body (outcome_body code None) (sym at.0 ∙ g) (sym at.1 ∙ is) refl cause.not_next
      outcome_refused FramingError cause = cause

    refused_at : (e : NegotiationError) → init_client_causes x e (gc ++ body ∷ []) sc → InitPlace y.check y.stage gl gc body → MayRefuseInit c y body e
    refused_at e cause (at_list g is) = absurd (no_list g is e cause)
    refused_at e cause (at_outcome code init g is turn given judged) = outcome_refused code init g is turn given judged e cause

  pub client_next : (e : NegotiationError) (body : SaslBody) (more : List SaslBody) → fc ≡ body ∷ more → init_client_causes x e (gc ++ body ∷ []) sc → MayRefuseInit c y body e
  client_next e body more next cause =
      refused_at body e cause (init_place y.check y.stage gl sl gc more body (ap (λ (u : List SaslBody). gc ++ u) (sym next) ∙ j.reads_listener) there)

  -- ---- the same account

  module _ (same : HasSameAccount c y.check) where
    pub no_refusal : (code : SaslCode) → IsRefusingWith code y.stage → ⊥
    no_refusal code r = init_apart c y.check same (refusing_other code r).1

    pub next_passes : (body : SaslBody) (more : List SaslBody) → fl ≡ body ∷ more → IsPassing passwords_for y.check body
    next_passes body more next =
        subst (λ (b : SaslBody). IsPassing passwords_for y.check b) (sym (next_init body more next)) (same_passes c x y.check j.ends.says j.ends.texts_are j.ends.same_mechanism same)

    pub next_ok : (code : SaslCode) (body : SaslBody) (more : List SaslBody) → fl ≡ body ∷ more → IsJudged passwords_for y.check body code → code ≡ sasl.Ok
    next_ok code body more next judged =
        same_code c x y.check j.ends.says j.ends.texts_are j.ends.same_mechanism same code (subst (λ (b : SaslBody). IsJudged passwords_for y.check b code) (next_init body more next) judged)

    pub no_client_cause : (e : NegotiationError) (body : SaslBody) (more : List SaslBody) → fc ≡ body ∷ more → init_client_causes x e (gc ++ body ∷ []) sc → ⊥
    no_client_cause e body more next cause = init_impossible c y same e body (client_next e body more next cause)

  -- ---- at rest

  pub at_rest : fc ≡ [] → fl ≡ [] → init_client_turn x ≢ Send → init_server_turn y ≢ Send → (init_client_turn x ≡ Pass) × (init_server_turn y ≡ Pass)
  at_rest p q idle ready =
      both_still (client.Init x) (server.Init y) gc sc gl sl j.ends.client j.ends.listener (none_in_flight gc fc sl j.reads_listener p) (none_in_flight gl fl sc j.reads_client q) idle ready

  -- a listener that refused
  abbrev Turned : SaslCode → Type 0
  Turned code = (code ≡ sasl.Auth) × HasOtherAccount c y.check × (front : List SaslBody) × (fc ≡ front ++ outcome_body sasl.Auth None ∷ [])

  took_no_refusal : (front more : List SaslBody) → front ++ outcome_body sasl.Auth None ∷ more ≡ gc → ⊥
  took_no_refusal front more e = auth_not_ok (took_ok x.stage x gc sc front more sasl.Auth None e near)

  turned : (code : SaslCode) → init_server_turn y ≡ Refuse code → InitListenerView y.check y.stage gl sl → Turned code
  turned code turn (listener.owes_mechanisms t g s) = absurd (send_not code (sym t ∙ turn))
  turned code turn (listener.awaits_init t g s) = absurd (receive_not code (sym t ∙ turn))
  turned code turn (listener.owes_outcome other body t g judged s) = absurd (send_not code (sym t ∙ turn))
  turned code turn (listener.told other body t g judged s) =
      let r = told_refused other code (sym t ∙ turn) in
      let why = judged_other other body (given_init body g) judged r.1 in
      let sent : gc ++ fc ≡ (check_mechanisms y.check ∷ []) ++ outcome_body sasl.Auth None ∷ [] =
      j.reads_listener ∙ s ∙ ap (λ (k : SaslCode). check_mechanisms y.check ∷ outcome_body k None ∷ []) why.0 in
      let last = last_in_flight gc fc (check_mechanisms y.check ∷ []) (outcome_body sasl.Auth None) took_no_refusal sent in
      (sym r.0 ∙ why.0, why.1, last.0, last.1)

  pub in_flight : (code : SaslCode) → init_server_turn y ≡ Refuse code → Turned code
  in_flight code turn = turned code turn there

  pub told_client : (code : SaslCode) (body : SaslBody) → fc ≡ body ∷ [] → init_server_turn y ≡ Refuse code → init_client_causes x (refused_with sasl.Auth) (gc ++ body ∷ []) sc
  told_client code body next turn =
      let t = in_flight code turn in
      let same = last_of_one t.2 (outcome_body sasl.Auth None) body (sym t.3 ∙ next) in
      (gc, ap (λ (u : SaslBody). gc ++ u ∷ []) (sym same.1), auth_not_ok)

-- Two ends whose mechanisms are not the same.
use Rattle.std.proofs.Common.{◌≡◌, ◌≢◌, ◌⊎◌, inl, inr, ℕ, true, false, List, [], ◌∷◌, ◌++◌, Option, Some, None, refl, ap, sym, ◌∙◌, subst, Contains}
use Rattle.amqp_sasl_bodies.specs.declared.sasl_body.SaslBody.{SaslBody}
use Rattle.amqp_sasl_bodies.specs.declared.sasl_code.SaslCode.{SaslCode}
use Rattle.amqp_sasl_bodies.specs.declared.sasl_code.SaslCode.TheVariants as sasl
use Rattle.amqp_opening.specs.Authentication.{passwords_for, stored_for}
use Rattle.sasl_exchange.specs.declared.client.ClientExchange.{ClientExchange}
use Rattle.sasl_exchange.specs.declared.client.ClientExchange.TheVariants as client
use Rattle.sasl_exchange.specs.declared.error.NegotiationError.{NegotiationError}
use Rattle.sasl_exchange.specs.declared.error.NegotiationError.TheVariants.{Memory, ProtocolHeaderMismatch, NotImplemented, SaslError, ScramError, Io, DecodeError, IllegalState, FramingError}
use Rattle.sasl_exchange.specs.declared.exchange.Turn.TheVariants.{Send}
use Rattle.sasl_exchange.specs.declared.init_client.InitClientStage.{InitClientStage}
use Rattle.sasl_exchange.specs.declared.init_client.InitClientStage.TheVariants as init_stage
use Rattle.sasl_exchange.specs.declared.init_server.InitCheck.{InitCheck}
use Rattle.sasl_exchange.specs.declared.init_server.InitServerStage.{InitServerStage}
use Rattle.sasl_exchange.specs.declared.scram_client.ClientStage.{ClientStage}
use Rattle.sasl_exchange.specs.declared.scram_client.ClientStage.TheVariants.{AwaitsMechanisms, OwesInit, AwaitsChallenge, OwesResponse, AwaitsOutcome, OwesEmptyResponse, AwaitsEnd, Passed}
use Rattle.sasl_exchange.specs.declared.scram_server.ServerStage.{ServerStage}
use Rattle.sasl_exchange.specs.declared.server.ServerExchange.TheVariants as server
use Rattle.sasl_scram.specs.declared.client.ClientPhase.{ClientPhase}
use Rattle.sasl_scram.specs.declared.client.ClientPhase.TheVariants.{Unanswered, Answered, Verified}
use Rattle.sasl_scram.specs.declared.error.ScramErrorKind.{ScramErrorKind}
use Rattle.sasl_scram.specs.declared.hash.ScramHash.{ScramHash}
use Rattle.sasl_scram.specs.declared.stored.StoredPassword.{StoredPassword}
use Rattle.sasl_exchange.specs.AnyClient.{any_client_causes, any_client_holds, any_client_turn}
use Rattle.sasl_exchange.specs.AnyServer.{any_server_holds, any_server_turn}
use Rattle.sasl_exchange.specs.ClientEnds.{IsUnlisted}
use Rattle.sasl_exchange.specs.ScramClient.{ClientEnd, HasAnswer, IsScramCause, by_challenge, by_final, by_no_signature, client_causes, client_init, holds_in, is_next}
use Rattle.sasl_scram.specs.Hashes.{mechanism_of}
use Rattle.sasl_exchange.specs.InitClient.{InitClientEnd, init_client_causes, holds_in as init_holds_in, is_next as is_next_of_init}
use Rattle.sasl_exchange.specs.InitServer.{check_name, turn_in as init_turn_in}
use Rattle.sasl_exchange.specs.ScramBodies.{challenge_body, mechanisms_body, outcome_body, response_body}
use Rattle.sasl_exchange.specs.ScramServer.{own_mechanisms, turn_in}
use Rattle.sasl_scram.specs.States.{Account, ForAnswered}
use Rattle.amqp_pairs.specs.Mechanisms.{AreUnlike, HasRefusalCause, Listening, client_name, listener_name}
use Rattle.amqp_pairs.proofs.Bodies.{in_none, last_once, list_not_challenge, list_not_outcome, names_in}
use Rattle.amqp_pairs.proofs.InitViews as view
use Rattle.amqp_pairs.proofs.InitViews.{InitListenerView, init_listener_view}
use Rattle.amqp_pairs.proofs.ListenerViews.{ListenerView, owes_mechanisms, awaits_init, owes_challenge, awaits_response, owes_outcome, passed, owes_refusal, refused, listener_view}
use Rattle.amqp_pairs.proofs.Names.{one_listed}
use Rattle.amqp_pairs.proofs.NoCauses.{any_no_cause_yet, no_refusal_yet, none_to_refuse}
use Rattle.amqp_pairs.proofs.Places.{Place, at_challenge, at_list, at_outcome, at_refusal, place}

-- ---- what a client was given

-- nothing yet, or first of all a list with its own mechanism
pub data IsListed (name : List ℕ) (given sent : List SaslBody) : Type 0 where
  not_yet : given ≡ [] → sent ≡ [] → IsListed name given sent
  by_list : (names : List (List ℕ)) (more : List SaslBody) → given ≡ mechanisms_body names ∷ more → Contains names name → IsListed name given sent

answered_listed : (phase : ClientPhase) (x : ClientEnd) (given sent : List SaslBody) (now : List ℕ → List SaslBody) → ForAnswered phase (λ a. HasAnswer x a given sent (now a.client_final))
    → IsListed (mechanism_of x.hash) given sent
answered_listed Unanswered x given sent now h = absurd h
answered_listed (Answered a) x given sent now h = by_list h.names (challenge_body a.server_first ∷ []) h.given_is h.listed
answered_listed Verified x given sent now h = absurd h

owed_listed : (phase : ClientPhase) (text : List ℕ) (x : ClientEnd) (given sent now : List SaslBody) → ForAnswered phase (λ a. (a.client_final ≡ text) × HasAnswer x a given sent now)
    → IsListed (mechanism_of x.hash) given sent
owed_listed Unanswered text x given sent now h = absurd h
owed_listed (Answered a) text x given sent now h = by_list h.1.names (challenge_body a.server_first ∷ []) h.1.given_is h.1.listed
owed_listed Verified text x given sent now h = absurd h

listed_in : (stage : ClientStage) (x : ClientEnd) (given sent : List SaslBody) → holds_in stage x given sent → IsListed (mechanism_of x.hash) given sent
listed_in AwaitsMechanisms x given sent h = not_yet h.0 h.1
listed_in OwesInit x given sent h = by_list h.names [] h.given_is h.listed
listed_in AwaitsChallenge x given sent h = by_list h.names [] h.given_is h.listed
listed_in (OwesResponse text) x given sent h = owed_listed x.client.phase text x given sent (client_init x ∷ []) h
listed_in AwaitsOutcome x given sent h = answered_listed x.client.phase x given sent (λ (final : List ℕ). client_init x ∷ response_body final ∷ []) h
listed_in OwesEmptyResponse x given sent h = by_list h.names _ h.given_is h.listed
listed_in AwaitsEnd x given sent h = by_list h.names _ h.given_is h.listed
listed_in Passed x given sent h = by_list h.names _ h.given_is h.listed

init_listed_in : (stage : InitClientStage) (x : InitClientEnd) (given sent : List SaslBody) → init_holds_in stage x given sent → IsListed x.mechanism given sent
init_listed_in init_stage.AwaitsMechanisms x given sent h = not_yet h.0 h.1
init_listed_in init_stage.OwesInit x given sent h = by_list h.names [] h.given_is h.listed
init_listed_in init_stage.AwaitsOutcome x given sent h = by_list h.names [] h.given_is h.listed
init_listed_in init_stage.Passed x given sent h = by_list h.names _ h.given_is h.listed

pub client_listed : (x : ClientExchange) (given sent : List SaslBody) → any_client_holds x given sent → IsListed (client_name x) given sent
client_listed (client.Scram x) given sent h = listed_in x.stage x given sent h
client_listed (client.Init x) given sent h = init_listed_in x.stage x given sent h

-- ---- what a listener sent that was given nothing

-- it owes its list, or sent the list alone
abbrev SentList : Listening → List SaslBody → Type 0
SentList y sent = ((any_server_turn y ≡ Send) × (sent ≡ [])) ⊎ (sent ≡ mechanisms_body (listener_name y ∷ []) ∷ [])

scram_sent_list : (hash : ScramHash) (stage : ServerStage) (stored : List ℕ → Option StoredPassword) (own : List ℕ) (given sent : List SaslBody) → given ≡ [] → ListenerView hash stage stored own given sent
    → ((turn_in stage ≡ Send) × (sent ≡ [])) ⊎ (sent ≡ own_mechanisms hash ∷ [])
scram_sent_list hash stage stored own given sent none (owes_mechanisms t g s) = inl (t, s)
scram_sent_list hash stage stored own given sent none (awaits_init t g s) = inr s
scram_sent_list hash stage stored own given sent none (owes_challenge cf first h t g s c) = absurd (in_none [] [] _ (sym g ∙ none))
scram_sent_list hash stage stored own given sent none (awaits_response cf first h t g s c) = absurd (in_none [] [] _ (sym g ∙ none))
scram_sent_list hash stage stored own given sent none (owes_outcome u cf first final told h t g s c) = absurd (in_none [] _ _ (sym g ∙ none))
scram_sent_list hash stage stored own given sent none (passed u cf first final told h t g s c) = absurd (in_none [] _ _ (sym g ∙ none))
scram_sent_list hash stage stored own given sent none (owes_refusal code t c a) = absurd (no_refusal_yet hash stored own code given none c)
scram_sent_list hash stage stored own given sent none (refused code front t c is a) = absurd (no_refusal_yet hash stored own code given none c)

init_sent_list : (check : InitCheck Account) (stage : InitServerStage) (given sent : List SaslBody) → given ≡ [] → InitListenerView check stage given sent
    → ((init_turn_in stage ≡ Send) × (sent ≡ [])) ⊎ (sent ≡ mechanisms_body (check_name check ∷ []) ∷ [])
init_sent_list check stage given sent none (view.owes_mechanisms t g s) = inl (t, s)
init_sent_list check stage given sent none (view.awaits_init t g s) = inr s
init_sent_list check stage given sent none (view.owes_outcome code body t g j s) = absurd (in_none [] [] body (sym g ∙ none))
init_sent_list check stage given sent none (view.told code body t g j s) = absurd (in_none [] [] body (sym g ∙ none))

sent_list : (y : Listening) (given sent : List SaslBody) → given ≡ [] → any_server_holds passwords_for stored_for y given sent → SentList y sent
sent_list (server.Scram y) given sent none h = scram_sent_list y.hash y.stage (stored_for y.server.provider) y.server.nonce given sent none (listener_view y given sent h)
sent_list (server.Init y) given sent none h = init_sent_list y.check y.stage given sent none (init_listener_view y.check y.stage given sent h)

-- ---- the first body that a listener sent is its list

scram_first : (hash : ScramHash) (stage : ServerStage) (stored : List ℕ → Option StoredPassword) (own : List ℕ) (given : List SaslBody) (names : List (List ℕ)) (more : List SaslBody)
    → Place hash stage stored own given [] (mechanisms_body names) more → names ≡ mechanism_of hash ∷ []
scram_first hash stage stored own given names more (at_list b e) = ap names_in e
scram_first hash stage stored own given names more (at_challenge a first b e) = absurd (list_not_challenge names first e)
scram_first hash stage stored own given names more (at_outcome a c final b e) = absurd (list_not_outcome names sasl.Ok (Some final) e)
scram_first hash stage stored own given names more (at_refusal code e t c m) = absurd (list_not_outcome names code None e)

same_list : (names : List (List ℕ)) (name : List ℕ) (more rest sent : List SaslBody) → mechanisms_body names ∷ more ≡ sent → sent ≡ mechanisms_body (name ∷ []) ∷ rest → names ≡ name ∷ []
same_list names name more rest sent e s =
    let both : mechanisms_body names ∷ more ≡ mechanisms_body (name ∷ []) ∷ rest = e ∙ s in
    let heads : mechanisms_body names ≡ mechanisms_body (name ∷ []) = cc in
    ap names_in heads

init_first : (check : InitCheck Account) (stage : InitServerStage) (given sent : List SaslBody) (names : List (List ℕ)) (more : List SaslBody) → mechanisms_body names ∷ more ≡ sent
    → InitListenerView check stage given sent → names ≡ check_name check ∷ []
init_first check stage given sent names more e (view.owes_mechanisms t g s) = absurd (in_none [] more (mechanisms_body names) (e ∙ s))
init_first check stage given sent names more e (view.awaits_init t g s) = same_list names (check_name check) more [] sent e s
init_first check stage given sent names more e (view.owes_outcome code body t g j s) = same_list names (check_name check) more [] sent e s
init_first check stage given sent names more e (view.told code body t g j s) = same_list names (check_name check) more (outcome_body code None ∷ []) sent e s

first_listed : (y : Listening) (given sent : List SaslBody) (names : List (List ℕ)) (more : List SaslBody) → any_server_holds passwords_for stored_for y given sent → mechanisms_body names ∷ more ≡ sent
    → names ≡ listener_name y ∷ []
first_listed (server.Scram y) given sent names more h e =
    scram_first y.hash y.stage (stored_for y.server.provider) y.server.nonce given names more
    (place y.hash y.stage (stored_for y.server.provider) y.server.nonce given sent [] more (mechanisms_body names) (listener_view y given sent h) e)
first_listed (server.Init y) given sent names more h e = init_first y.check y.stage given sent names more e (init_listener_view y.check y.stage given sent h)

-- ---- why a client refuses a list

module _ (names : List (List ℕ)) (sent : List SaslBody) where
  one_not_two : (a b : SaslBody) (more : List SaslBody) → mechanisms_body names ∷ [] ≡ a ∷ b ∷ more → ⊥
  one_not_two a b more e = absurd (cc e)

  no_scram : (x : ClientEnd) (kind : ScramErrorKind) → IsScramCause x kind (mechanisms_body names ∷ []) sent → ⊥
  no_scram x kind (by_challenge list text e m r) = one_not_two (mechanisms_body list) (challenge_body text) [] e
  no_scram x kind (by_final list first final signature text body how e s a r) = one_not_two (mechanisms_body list) (challenge_body first) _ e
  no_scram x kind (by_no_signature list first e k) = one_not_two (mechanisms_body list) (challenge_body first) _ e

  not_outcome : (before : List SaslBody) (code : SaslCode) (payload : Option (List ℕ)) → mechanisms_body names ∷ [] ≡ before ++ outcome_body code payload ∷ [] → ⊥
  not_outcome before code payload is = list_not_outcome names code payload (last_once [] before (mechanisms_body names) (outcome_body code payload) is).1

  in_place : (before : List SaslBody) (body : SaslBody) → mechanisms_body names ∷ [] ≡ before ++ body ∷ [] → is_next before body ≡ false → ⊥
  in_place before body is out =
      let at = last_once [] before (mechanisms_body names) body is in
      let not : is_next [] (mechanisms_body names) ≡ false =
      subst (λ (u : List SaslBody). is_next u (mechanisms_body names) ≡ false) (sym at.0) (subst (λ (u : SaslBody). is_next before u ≡ false) (sym at.1) out) in
      let both : true ≡ false = not in
      cc

  init_in_place : (before : List SaslBody) (body : SaslBody) → mechanisms_body names ∷ [] ≡ before ++ body ∷ [] → is_next_of_init before body ≡ false → ⊥
  init_in_place before body is out =
      let at = last_once [] before (mechanisms_body names) body is in
      let not : is_next_of_init [] (mechanisms_body names) ≡ false =
      subst (λ (u : List SaslBody). is_next_of_init u (mechanisms_body names) ≡ false) (sym at.0) (subst (λ (u : SaslBody). is_next_of_init before u ≡ false) (sym at.1) out) in
      let both : true ≡ false = not in
      cc

  scram_list_refused : (x : ClientEnd) (e : NegotiationError) → client_causes x e (mechanisms_body names ∷ []) sent → e ≡ NotImplemented
  scram_list_refused x (Memory a) c = absurd c
  scram_list_refused x (ProtocolHeaderMismatch h) c = absurd c
  scram_list_refused x NotImplemented c = refl
  scram_list_refused x (SaslError code payload) (before, is, ne) = absurd (not_outcome before code payload is)
  scram_list_refused x (ScramError kind) c = absurd (no_scram x kind c)
  scram_list_refused x (Io kind) c = absurd c
  scram_list_refused x DecodeError c = absurd c
  scram_list_refused x IllegalState c = absurd (in_place c.before c.body c.given_is c.not_next)
  scram_list_refused x FramingError c = absurd c

  init_list_refused : (x : InitClientEnd) (e : NegotiationError) → init_client_causes x e (mechanisms_body names ∷ []) sent → e ≡ NotImplemented
  init_list_refused x (Memory a) c = absurd c
  init_list_refused x (ProtocolHeaderMismatch h) c = absurd c
  init_list_refused x NotImplemented c = refl
  init_list_refused x (SaslError code payload) (before, is, ne) = absurd (not_outcome before code payload is)
  init_list_refused x (ScramError kind) c = absurd c
  init_list_refused x (Io kind) c = absurd c
  init_list_refused x DecodeError c = absurd c
  init_list_refused x IllegalState c = absurd (init_in_place c.before c.body c.given_is c.not_next)
  init_list_refused x FramingError c = absurd c

  list_refused : (x : ClientExchange) (e : NegotiationError) → any_client_causes x e (mechanisms_body names ∷ []) sent → e ≡ NotImplemented
  list_refused (client.Scram x) e c = scram_list_refused x e c
  list_refused (client.Init x) e c = init_list_refused x e c

unlisted_refused : (x : ClientExchange) (given sent : List SaslBody) → IsUnlisted (client_name x) given → any_client_causes x NotImplemented given sent
unlisted_refused (client.Scram x) given sent u = u
unlisted_refused (client.Init x) given sent u = u

-- ---- two such ends

nothing_first : (given flight : List SaslBody) → given ++ flight ≡ [] → (given ≡ []) × (flight ≡ [])
nothing_first [] flight e = (refl, e)
nothing_first (b ∷ given) flight e = absurd (cc e)

module _ (x : ClientExchange) (y : Listening) (gc sc gl sl fc fl : List SaslBody) (j : AreUnlike x y gc sc gl sl fc fl) where
  abbrev own_list : SaslBody
  own_list = mechanisms_body (listener_name y ∷ [])

  -- the client takes no list: that of the listener has not its mechanism
  took_nothing : IsListed (client_name x) gc sc → (gc ≡ []) × (sc ≡ [])
  took_nothing (not_yet g s) = (g, s)
  took_nothing (by_list names more g c) =
      let sent : mechanisms_body names ∷ (more ++ fc) ≡ sl = sym (ap (λ (u : List SaslBody). u ++ fc) g) ∙ j.facing.reads_listener in
      let is = first_listed y gl sl names (more ++ fc) j.facing.listener sent in
      absurd (j.other_name (sym (one_listed (listener_name y) (client_name x) (subst (λ (u : List (List ℕ)). Contains u (client_name x)) is c))))

  pub nothing : (gc ≡ []) × (sc ≡ []) × (gl ≡ []) × (fl ≡ [])
  nothing =
      let a = took_nothing (client_listed x gc sc j.facing.client) in
      let b = nothing_first gl fl (j.facing.reads_client ∙ a.1) in
      (a.0, a.1, b.0, b.1)

  in_flight : fc ≡ sl
  in_flight = sym (ap (λ (u : List SaslBody). u ++ fc) nothing.0) ∙ j.facing.reads_listener

  sent_now : SentList y sl
  sent_now = sent_list y gl sl nothing.2 j.facing.listener

  pub list : (fc ≡ []) ⊎ (fc ≡ own_list ∷ [])
  list = elim sent_now [ inl n ↦ inl (in_flight ∙ n.1) | inr l ↦ inr (in_flight ∙ l) ]

  -- the client has no cause yet
  pub no_client_cause : (e : NegotiationError) → any_client_causes x e gc sc → ⊥
  no_client_cause e c = any_no_cause_yet x e gc sc nothing.0 c

  next_is : (body : SaslBody) (more : List SaslBody) → fc ≡ body ∷ more → gc ++ body ∷ [] ≡ own_list ∷ []
  next_is body more next = elim list as (λ _. gc ++ body ∷ [] ≡ own_list ∷ []) [
    | inl none ↦ absurd (in_none [] more body (sym next ∙ none))
    | inr l ↦
        let both : body ∷ more ≡ own_list ∷ [] = sym next ∙ l in
        let head : body ≡ own_list = cc in
        ap (λ (u : List SaslBody). u ++ body ∷ []) nothing.0 ∙ ap (λ (b : SaslBody). b ∷ []) head
  ]

  -- and but one to refuse the list
  pub client_next : (e : NegotiationError) (body : SaslBody) (more : List SaslBody) → fc ≡ body ∷ more → any_client_causes x e (gc ++ body ∷ []) sc → e ≡ NotImplemented
  client_next e body more next c = list_refused (listener_name y ∷ []) sc x e (subst (λ (u : List SaslBody). any_client_causes x e u sc) (next_is body more next) c)

  pub client_refuses : (body : SaslBody) (more : List SaslBody) → fc ≡ body ∷ more → any_client_causes x NotImplemented (gc ++ body ∷ []) sc
  client_refuses body more next =
      unlisted_refused x (gc ++ body ∷ []) sc
      (listener_name y ∷ [], next_is body more next, λ c. j.other_name (sym (one_listed (listener_name y) (client_name x) c)))

  pub no_listener_cause : (code : SaslCode) → HasRefusalCause y code gl → ⊥
  no_listener_cause code c = none_to_refuse y code gl nothing.2 c

  pub restless : fc ≡ [] → fl ≡ [] → any_client_turn x ≢ Send → any_server_turn y ≢ Send → ⊥
  restless none empty idle ready = elim sent_now as (λ _. ⊥) [
    | inl n ↦ ready n.0
    | inr l ↦ in_none [] [] own_list (sym l ∙ sym in_flight ∙ none)
  ]

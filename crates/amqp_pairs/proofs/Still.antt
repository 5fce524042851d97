-- Two ends of any mechanisms of which one passes, or neither has anything to send.
use Rattle.std.proofs.Common.{◌≡◌, ◌≢◌, ◌≤◌, ℕ, suc, List, [], ◌∷◌, ◌++◌, length, Option, Some, None, refl, ap, sym, ◌∙◌, subst, append-nil, length-append, arith}
use Rattle.amqp_sasl_bodies.specs.declared.sasl_body.SaslBody.{SaslBody}
use Rattle.amqp_sasl_bodies.specs.declared.sasl_code.SaslCode.{SaslCode}
use Rattle.amqp_sasl_bodies.specs.declared.sasl_code.SaslCode.TheVariants as sasl
use Rattle.amqp_opening.specs.Authentication.{passwords_for, stored_for}
use Rattle.sasl_exchange.specs.declared.client.ClientExchange.{ClientExchange}
use Rattle.sasl_exchange.specs.declared.client.ClientExchange.TheVariants as client
use Rattle.sasl_exchange.specs.declared.exchange.Turn.{Turn}
use Rattle.sasl_exchange.specs.declared.exchange.Turn.TheVariants.{Send, Receive, Refuse, Pass}
use Rattle.sasl_exchange.specs.declared.init_client.InitClientStage.{InitClientStage}
use Rattle.sasl_exchange.specs.declared.init_server.InitCheck.{InitCheck}
use Rattle.sasl_exchange.specs.declared.init_server.InitCheck.TheVariants as init_check
use Rattle.sasl_exchange.specs.declared.init_server.InitServerStage.{InitServerStage}
use Rattle.sasl_exchange.specs.declared.scram_client.ClientStage.{ClientStage}
use Rattle.sasl_exchange.specs.declared.scram_client.ClientStage.TheVariants as client_stage
use Rattle.sasl_exchange.specs.declared.scram_server.ServerStage.{ServerStage}
use Rattle.sasl_exchange.specs.declared.server.ServerExchange.TheVariants as server
use Rattle.sasl_scram.specs.declared.hash.ScramHash.{ScramHash}
use Rattle.sasl_scram.specs.declared.stored.StoredPassword.{StoredPassword}
use Rattle.sasl_exchange.specs.AnyClient.{any_client_holds, any_client_turn}
use Rattle.sasl_exchange.specs.AnyServer.{any_server_holds, any_server_turn}
use Rattle.sasl_exchange.specs.ScramClient.{ClientEnd, client_holds, client_turn, holds_in, turn_in as client_turn_in}
use Rattle.sasl_scram.specs.Hashes.{mechanism_of}
use Rattle.sasl_exchange.specs.InitClient.{InitClientEnd, own_init, turn_in as init_client_turn_in}
use Rattle.sasl_exchange.specs.InitServer.{InitServerEnd, check_mechanisms, check_name, told_turn, turn_in as init_turn_in}
use Rattle.sasl_exchange.specs.ScramBodies.{challenge_body, mechanisms_body, outcome_body}
use Rattle.sasl_exchange.specs.ScramServer.{ServerEnd, own_mechanisms, server_holds, server_turn, turn_in}
use Rattle.sasl_scram.specs.States.{Account}
use Rattle.sasl_exchange.proofs.ScramServers.{server_few}
use Rattle.amqp_pairs.specs.Mechanisms.{AreFacing, AreUnlike, Listening}
use Rattle.amqp_pairs.proofs.Bodies.{OneChallenge, challenge_not_outcome, code_in, in_none}
use Rattle.amqp_pairs.proofs.Challenges.{first_of_one, one_challenge}
use Rattle.amqp_pairs.proofs.ClientViews as scram
use Rattle.amqp_pairs.proofs.ClientViews.{ClientSent, ClientView, client_sent, client_view}
use Rattle.amqp_pairs.proofs.InitViews as view
use Rattle.amqp_pairs.proofs.InitViews.{InitClientView, InitListenerView, init_client_few, init_client_view, init_listener_few, init_listener_view}
use Rattle.amqp_pairs.proofs.ListenerViews as listener
use Rattle.amqp_pairs.proofs.ListenerViews.{Asking, ListenerView, listener_view}
use Rattle.amqp_pairs.proofs.Names.{scram_not_anonymous, scram_not_plain}
use Rattle.amqp_pairs.proofs.NoCauses.{refusal_not_ok}
use Rattle.amqp_pairs.proofs.Rest.{both_pass}
use Rattle.amqp_pairs.proofs.Unlike.{nothing, restless}

-- ---- turns

pub receive_not_send : (t : Turn) → t ≡ Receive → t ≢ Send
receive_not_send t e f = let both : Receive ≡ Send = sym e ∙ f in cc

pub receive_not_pass : (t : Turn) → t ≡ Receive → t ≢ Pass
receive_not_pass t e f = let both : Receive ≡ Pass = sym e ∙ f in cc

send_not_pass : (t : Turn) → t ≡ Send → t ≢ Pass
send_not_pass t e f = let both : Send ≡ Pass = sym e ∙ f in cc

pub pass_not_send : (t : Turn) → t ≡ Pass → t ≢ Send
pass_not_send t e f = send_not_pass t f e

-- ---- with SCRAM and with one of the others

scram_not_check : (hash : ScramHash) (check : InitCheck Account) → mechanism_of hash ≢ check_name check
scram_not_check hash init_check.Anonymous e = scram_not_anonymous hash e
scram_not_check hash (init_check.Plain account) e = scram_not_plain hash e

-- a client with SCRAM and a listener of the others
are_unlike : (x : ClientEnd) (y : InitServerEnd Account) (gc sc gl sl fc fl : List SaslBody) → AreFacing (client.Scram x) (server.Init y) gc sc gl sl fc fl
    → AreUnlike (client.Scram x) (server.Init y) gc sc gl sl fc fl
are_unlike x y gc sc gl sl fc fl f = record { other_name = scram_not_check x.hash y.check; facing = f }

-- the second body of a listener with SCRAM is no outcome `Ok`
module _ (hash : ScramHash) (stage : ServerStage) (stored : List ℕ → Option StoredPassword) (own : List ℕ) (given sent : List SaslBody) where
  module _ (l : SaslBody) (payload : Option (List ℕ)) (more : List SaslBody) (e : l ∷ outcome_body sasl.Ok payload ∷ more ≡ sent) where
    none_second : sent ≡ [] → ⊥
    none_second s = let both : l ∷ outcome_body sasl.Ok payload ∷ more ≡ [] = e ∙ s in cc

    one_second : (p : SaslBody) → sent ≡ p ∷ [] → ⊥
    one_second p s = let both : l ∷ outcome_body sasl.Ok payload ∷ more ≡ p ∷ [] = e ∙ s in cc

    challenge_second : (p : SaslBody) (text : List ℕ) (rest : List SaslBody) → sent ≡ p ∷ challenge_body text ∷ rest → ⊥
    challenge_second p text rest s =
        let both : l ∷ outcome_body sasl.Ok payload ∷ more ≡ p ∷ challenge_body text ∷ rest = e ∙ s in
        let second : outcome_body sasl.Ok payload ≡ challenge_body text = cc in
        challenge_not_outcome text sasl.Ok payload (sym second)

    refusal_second : (p : SaslBody) (code : SaslCode) → code ≢ sasl.Ok → sent ≡ p ∷ outcome_body code None ∷ [] → ⊥
    refusal_second p code not s =
        let both : l ∷ outcome_body sasl.Ok payload ∷ more ≡ p ∷ outcome_body code None ∷ [] = e ∙ s in
        let second : outcome_body sasl.Ok payload ≡ outcome_body code None = cc in
        not (sym (ap code_in second))

    asking_second : Asking hash stored own given sent → ⊥
    asking_second (listener.at_init body g s) = one_second (own_mechanisms hash) s
    asking_second (listener.at_response cf first h body g s c) = challenge_second (own_mechanisms hash) first [] s

    refused_second : (code : SaslCode) (front : List SaslBody) → code ≢ sasl.Ok → sent ≡ front ++ outcome_body code None ∷ [] → Asking hash stored own given front → ⊥
    refused_second code front not is (listener.at_init body g s) =
        refusal_second (own_mechanisms hash) code not (is ∙ ap (λ (u : List SaslBody). u ++ outcome_body code None ∷ []) s)
    refused_second code front not is (listener.at_response cf first h body g s c) =
        challenge_second (own_mechanisms hash) first (outcome_body code None ∷ []) (is ∙ ap (λ (u : List SaslBody). u ++ outcome_body code None ∷ []) s)

    no_second : ListenerView hash stage stored own given sent → ⊥
    no_second (listener.owes_mechanisms t g s) = none_second s
    no_second (listener.awaits_init t g s) = one_second (own_mechanisms hash) s
    no_second (listener.owes_challenge cf first h t g s c) = one_second (own_mechanisms hash) s
    no_second (listener.awaits_response cf first h t g s c) = challenge_second (own_mechanisms hash) first [] s
    no_second (listener.owes_outcome u cf first final told h t g s c) = challenge_second (own_mechanisms hash) first [] s
    no_second (listener.passed u cf first final told h t g s c) = challenge_second (own_mechanisms hash) first (outcome_body sasl.Ok (Some told) ∷ []) s
    no_second (listener.owes_refusal code t c a) = asking_second a
    no_second (listener.refused code front t c is a) = refused_second code front (refusal_not_ok hash stored own code given c) is a

  -- it does not wait after its list for a client that sent its init
  module _ (ready : turn_in stage ≢ Send) (l i : SaslBody) (g' : given ≡ i ∷ []) (s' : sent ≡ l ∷ []) where
    two_not_one : (p q : SaslBody) (rest : List SaslBody) → sent ≡ p ∷ q ∷ rest → ⊥
    two_not_one p q rest s = let both : p ∷ q ∷ rest ≡ l ∷ [] = sym s ∙ s' in cc

    refused_one : (code : SaslCode) (front : List SaslBody) → sent ≡ front ++ outcome_body code None ∷ [] → Asking hash stored own given front → ⊥
    refused_one code front is (listener.at_init body g s) =
        two_not_one (own_mechanisms hash) (outcome_body code None) [] (is ∙ ap (λ (u : List SaslBody). u ++ outcome_body code None ∷ []) s)
    refused_one code front is (listener.at_response cf first h body g s c) =
        two_not_one (own_mechanisms hash) (challenge_body first) (outcome_body code None ∷ []) (is ∙ ap (λ (u : List SaslBody). u ++ outcome_body code None ∷ []) s)

    no_wait : ListenerView hash stage stored own given sent → ⊥
    no_wait (listener.owes_mechanisms t g s) = ready t
    no_wait (listener.awaits_init t g s) = let both : i ∷ [] ≡ [] = sym g' ∙ g in cc
    no_wait (listener.owes_challenge cf first h t g s c) = ready t
    no_wait (listener.awaits_response cf first h t g s c) = two_not_one (own_mechanisms hash) (challenge_body first) [] s
    no_wait (listener.owes_outcome u cf first final told h t g s c) = ready t
    no_wait (listener.passed u cf first final told h t g s c) = two_not_one (own_mechanisms hash) (challenge_body first) (outcome_body sasl.Ok (Some told) ∷ []) s
    no_wait (listener.owes_refusal code t c a) = ready t
    no_wait (listener.refused code front t c is a) = refused_one code front is a

  -- it sent something, or has to
  module _ (ready : turn_in stage ≢ Send) (none : sent ≡ []) where
    some_sent : (p : SaslBody) (rest : List SaslBody) → sent ≡ p ∷ rest → ⊥
    some_sent p rest s = in_none [] rest p (sym s ∙ none)

    no_silence : ListenerView hash stage stored own given sent → ⊥
    no_silence (listener.owes_mechanisms t g s) = ready t
    no_silence (listener.awaits_init t g s) = some_sent (own_mechanisms hash) [] s
    no_silence (listener.owes_challenge cf first h t g s c) = ready t
    no_silence (listener.awaits_response cf first h t g s c) = some_sent (own_mechanisms hash) _ s
    no_silence (listener.owes_outcome u cf first final told h t g s c) = ready t
    no_silence (listener.passed u cf first final told h t g s c) = some_sent (own_mechanisms hash) _ s
    no_silence (listener.owes_refusal code t c a) = ready t
    no_silence (listener.refused code front t c is a) = in_none front [] (outcome_body code None) (sym is ∙ none)

-- ---- both pass

-- with SCRAM
scram_still : (x : ClientEnd) (y : ServerEnd Account) (gc sc gl sl : List SaslBody) → client_holds x gc sc → server_holds stored_for y gl sl → gc ≡ sl → gl ≡ sc
    → client_turn x ≢ Send → server_turn y ≢ Send → (client_turn x ≡ Pass) × (server_turn y ≡ Pass)
scram_still x y gc sc gl sl held held' heard told idle ready =
    let w : ListenerView y.hash y.stage (stored_for y.server.provider) y.server.nonce sc gc =
    subst (λ (u : List SaslBody). ListenerView y.hash y.stage (stored_for y.server.provider) y.server.nonce sc u) (sym heard)
    (subst (λ (u : List SaslBody). ListenerView y.hash y.stage (stored_for y.server.provider) y.server.nonce u sl) told (listener_view y gl sl held')) in
    let one : OneChallenge gc = one_challenge y.hash y.stage (stored_for y.server.provider) y.server.nonce sc gc w in
    both_pass y.hash x.stage x gc sc idle y.stage (stored_for y.server.provider) y.server.nonce (client_view x.stage x gc sc one held) w ready

-- with one of the others
told_ok : (turn : Turn) (code : SaslCode) → turn ≡ told_turn code → code ≡ sasl.Ok → turn ≡ Pass
told_ok turn code t e = t ∙ ap told_turn e

module _ (stage : InitClientStage) (x : InitClientEnd) (given sent : List SaslBody) (idle : init_client_turn_in stage ≢ Send) where
  -- a client that was given nothing has sent nothing
  unheard_init : (l : SaslBody) → InitClientView stage x given sent → given ≡ l ∷ [] → sent ≡ [] → ⊥
  unheard_init l (view.awaits_mechanisms t g s) p q = let both : [] ≡ l ∷ [] = sym g ∙ p in cc
  unheard_init l (view.owes_init names t g c s) p q = idle t
  unheard_init l (view.awaits_outcome names t g c s) p q = let both : own_init x ∷ [] ≡ [] = sym s ∙ q in cc
  unheard_init l (view.passed names payload t g c s) p q = let both : own_init x ∷ [] ≡ [] = sym s ∙ q in cc

  -- the outcome that it took is `Ok`, and it passes
  told_init : (l : SaslBody) (code : SaslCode) → InitClientView stage x given sent → given ≡ l ∷ outcome_body code None ∷ [] → (code ≡ sasl.Ok) × (init_client_turn_in stage ≡ Pass)
  told_init l code (view.awaits_mechanisms t g s) p = let both : [] ≡ l ∷ outcome_body code None ∷ [] = sym g ∙ p in absurd (cc both)
  told_init l code (view.owes_init names t g c s) p = absurd (idle t)
  told_init l code (view.awaits_outcome names t g c s) p = let both : mechanisms_body names ∷ [] ≡ l ∷ outcome_body code None ∷ [] = sym g ∙ p in absurd (cc both)
  told_init l code (view.passed names payload t g c s) p =
      let both : mechanisms_body names ∷ outcome_body sasl.Ok payload ∷ [] ≡ l ∷ outcome_body code None ∷ [] = sym g ∙ p in
      let second : outcome_body sasl.Ok payload ≡ outcome_body code None = cc in
      (sym (ap code_in second), t)

  init_still : (check : InitCheck Account) (other : InitServerStage) → InitClientView stage x given sent → InitListenerView check other sent given → init_turn_in other ≢ Send
      → (init_client_turn_in stage ≡ Pass) × (init_turn_in other ≡ Pass)
  init_still check other v (view.owes_mechanisms t g s) ready = absurd (ready t)
  init_still check other v (view.awaits_init t g s) ready = absurd (unheard_init (check_mechanisms check) v s g)
  init_still check other v (view.owes_outcome code body t g j s) ready = absurd (ready t)
  init_still check other v (view.told code body t g j s) ready =
      let r = told_init (check_mechanisms check) code v s in
      (r.1, told_ok (init_turn_in other) code t r.0)

  -- a listener with SCRAM
  mixed_still : (hash : ScramHash) (other : ServerStage) (stored : List ℕ → Option StoredPassword) (own : List ℕ) → InitClientView stage x given sent → ListenerView hash other stored own sent given
      → turn_in other ≢ Send → ⊥
  mixed_still hash other stored own (view.awaits_mechanisms t g s) w ready = no_silence hash other stored own sent given ready g w
  mixed_still hash other stored own (view.owes_init names t g c s) w ready = idle t
  mixed_still hash other stored own (view.awaits_outcome names t g c s) w ready = no_wait hash other stored own sent given ready (mechanisms_body names) (own_init x) s g w
  mixed_still hash other stored own (view.passed names payload t g c s) w ready = no_second hash other stored own sent given (mechanisms_body names) payload [] (sym g) w

-- two ends of which each took all that the other sent, and neither sends
pub both_still : (x : ClientExchange) (y : Listening) (gc sc gl sl : List SaslBody) → any_client_holds x gc sc → any_server_holds passwords_for stored_for y gl sl → gc ≡ sl → gl ≡ sc
    → any_client_turn x ≢ Send → any_server_turn y ≢ Send → (any_client_turn x ≡ Pass) × (any_server_turn y ≡ Pass)
both_still (client.Scram x) (server.Scram y) gc sc gl sl held held' heard told idle ready = scram_still x y gc sc gl sl held held' heard told idle ready
both_still (client.Scram x) (server.Init y) gc sc gl sl held held' heard told idle ready =
    let f : AreFacing (client.Scram x) (server.Init y) gc sc gl sl [] [] =
    record { client = held; listener = held'; reads_listener = append-nil gc ∙ heard; reads_client = append-nil gl ∙ told } in
    absurd (restless (client.Scram x) (server.Init y) gc sc gl sl [] [] (are_unlike x y gc sc gl sl [] [] f) refl refl idle ready)
both_still (client.Init x) (server.Scram y) gc sc gl sl held held' heard told idle ready =
    let w : ListenerView y.hash y.stage (stored_for y.server.provider) y.server.nonce sc gc =
    subst (λ (u : List SaslBody). ListenerView y.hash y.stage (stored_for y.server.provider) y.server.nonce sc u) (sym heard)
    (subst (λ (u : List SaslBody). ListenerView y.hash y.stage (stored_for y.server.provider) y.server.nonce u sl) told (listener_view y gl sl held')) in
    absurd (mixed_still x.stage x gc sc idle y.hash y.stage (stored_for y.server.provider) y.server.nonce (init_client_view x.stage x gc sc held) w ready)
both_still (client.Init x) (server.Init y) gc sc gl sl held held' heard told idle ready =
    let w : InitListenerView y.check y.stage sc gc =
    subst (λ (u : List SaslBody). InitListenerView y.check y.stage sc u) (sym heard)
    (subst (λ (u : List SaslBody). InitListenerView y.check y.stage u sl) told (init_listener_view y.check y.stage gl sl held')) in
    init_still x.stage x gc sc idle y.check y.stage (init_client_view x.stage x gc sc held) w ready

-- ---- an end that passes was given all that the other sent

-- where as many were given as were sent, none is in flight
none_behind : (given flight sent : List SaslBody) (few : ℕ) → few ≤ length given → length sent ≤ few → given ++ flight ≡ sent → flight ≡ []
none_behind given [] sent few m l e = refl
none_behind given (f ∷ fs) sent few m l e = absurd (omega (arith, m, l, ap (λ (u : List SaslBody). length u) e, length-append given (f ∷ fs)))

-- how many bodies an end that passes was given
scram_given : (stage : ClientStage) (x : ClientEnd) (given sent : List SaslBody) → client_turn_in stage ≡ Pass → ClientView stage x given sent → 3 ≤ length given
scram_given stage x given sent p (scram.awaits_mechanisms t g s) = absurd (receive_not_pass (client_turn_in stage) t p)
scram_given stage x given sent p (scram.owes_init names t g s) = absurd (send_not_pass (client_turn_in stage) t p)
scram_given stage x given sent p (scram.awaits_challenge names t g s) = absurd (receive_not_pass (client_turn_in stage) t p)
scram_given stage x given sent p (scram.owes_response names first t g s) = absurd (send_not_pass (client_turn_in stage) t p)
scram_given stage x given sent p (scram.awaits_outcome names first final t g s a) = absurd (receive_not_pass (client_turn_in stage) t p)
scram_given stage x given sent p (scram.passed names first final told t g s a f) = let n = ap (λ (u : List SaslBody). length u) g in omega (arith, n)

-- the bodies that an init's client took which passes
pub record IsTold (x : InitClientEnd) (given : List SaslBody) : Type 0 where
  pub names : List (List ℕ)
  pub payload : Option (List ℕ)
  pub given_is : given ≡ mechanisms_body names ∷ outcome_body sasl.Ok payload ∷ []

init_told : (stage : InitClientStage) (x : InitClientEnd) (given sent : List SaslBody) → init_client_turn_in stage ≡ Pass → InitClientView stage x given sent → IsTold x given
init_told stage x given sent p (view.awaits_mechanisms t g s) = absurd (receive_not_pass (init_client_turn_in stage) t p)
init_told stage x given sent p (view.owes_init names t g c s) = absurd (send_not_pass (init_client_turn_in stage) t p)
init_told stage x given sent p (view.awaits_outcome names t g c s) = absurd (receive_not_pass (init_client_turn_in stage) t p)
init_told stage x given sent p (view.passed names payload t g c s) = record { names = names; payload = payload; given_is = g }

two_told : (x : InitClientEnd) (given : List SaslBody) → IsTold x given → 2 ≤ length given
two_told x given i = let n = ap (λ (u : List SaslBody). length u) i.given_is in omega (arith, n)

scram_heard : (hash : ScramHash) (stage : ServerStage) (stored : List ℕ → Option StoredPassword) (own : List ℕ) (given sent : List SaslBody) → turn_in stage ≡ Pass → ListenerView hash stage stored own given sent
    → 2 ≤ length given
scram_heard hash stage stored own given sent p (listener.owes_mechanisms t g s) = absurd (send_not_pass (turn_in stage) t p)
scram_heard hash stage stored own given sent p (listener.awaits_init t g s) = absurd (receive_not_pass (turn_in stage) t p)
scram_heard hash stage stored own given sent p (listener.owes_challenge cf first h t g s c) = absurd (send_not_pass (turn_in stage) t p)
scram_heard hash stage stored own given sent p (listener.awaits_response cf first h t g s c) = absurd (receive_not_pass (turn_in stage) t p)
scram_heard hash stage stored own given sent p (listener.owes_outcome u cf first final told h t g s c) = absurd (send_not_pass (turn_in stage) t p)
scram_heard hash stage stored own given sent p (listener.passed u cf first final told h t g s c) = let n = ap (λ (u : List SaslBody). length u) g in omega (arith, n)
scram_heard hash stage stored own given sent p (listener.owes_refusal code t c a) = absurd (send_not_pass (turn_in stage) t p)
scram_heard hash stage stored own given sent p (listener.refused code front t c is a) = let both : Refuse code ≡ Pass = sym t ∙ p in absurd (cc both)

init_heard : (check : InitCheck Account) (stage : InitServerStage) (given sent : List SaslBody) → init_turn_in stage ≡ Pass → InitListenerView check stage given sent → 1 ≤ length given
init_heard check stage given sent p (view.owes_mechanisms t g s) = absurd (send_not_pass (init_turn_in stage) t p)
init_heard check stage given sent p (view.awaits_init t g s) = absurd (receive_not_pass (init_turn_in stage) t p)
init_heard check stage given sent p (view.owes_outcome code body t g j s) = absurd (send_not_pass (init_turn_in stage) t p)
init_heard check stage given sent p (view.told code body t g j s) = let n = ap (λ (u : List SaslBody). length u) g in omega (arith, n)

-- a client that was given one challenge sent two bodies at most
scram_sent : (x : ClientEnd) (given sent : List SaslBody) → ClientSent x given sent → length sent ≤ 2
scram_sent x given sent (scram.nothing s) = let n = ap (λ (u : List SaslBody). length u) s in omega (arith, n)
scram_sent x given sent (scram.init s) = let n = ap (λ (u : List SaslBody). length u) s in omega (arith, n)
scram_sent x given sent (scram.response list first final more s g a) = let n = ap (λ (u : List SaslBody). length u) s in omega (arith, n)

module _ (x : ClientEnd) (y : ServerEnd Account) (gc sc gl sl fc fl : List SaslBody) (f : AreFacing (client.Scram x) (server.Scram y) gc sc gl sl fc fl) where
  scram_seen : ClientView x.stage x gc sc
  scram_seen =
      client_view x.stage x gc sc
      (first_of_one gc fc sl f.reads_listener (one_challenge y.hash y.stage (stored_for y.server.provider) y.server.nonce gl sl (listener_view y gl sl f.listener))) f.client

-- an end that passes was given a body
scram_given_some : (stage : ClientStage) (x : ClientEnd) (given sent : List SaslBody) → client_turn_in stage ≡ Pass → holds_in stage x given sent → given ≡ [] → ⊥
scram_given_some client_stage.AwaitsMechanisms x given sent p h e = receive_not_pass Receive refl p
scram_given_some client_stage.OwesInit x given sent p h e = send_not_pass Send refl p
scram_given_some client_stage.AwaitsChallenge x given sent p h e = receive_not_pass Receive refl p
scram_given_some (client_stage.OwesResponse text) x given sent p h e = send_not_pass Send refl p
scram_given_some client_stage.AwaitsOutcome x given sent p h e = receive_not_pass Receive refl p
scram_given_some client_stage.OwesEmptyResponse x given sent p h e = send_not_pass Send refl p
scram_given_some client_stage.AwaitsEnd x given sent p h e = receive_not_pass Receive refl p
scram_given_some client_stage.Passed x given sent p h e = in_none [] _ _ (sym h.given_is ∙ e)

none_of : (given : List SaslBody) (few : ℕ) → suc few ≤ length given → given ≡ [] → ⊥
none_of given few n e = omega (arith, n, ap (λ (u : List SaslBody). length u) e)

pub client_given_some : (x : ClientExchange) (gc sc : List SaslBody) → any_client_holds x gc sc → any_client_turn x ≡ Pass → gc ≡ [] → ⊥
client_given_some (client.Scram x) gc sc h p e = scram_given_some x.stage x gc sc p h e
client_given_some (client.Init x) gc sc h p e = in_none [] _ _ (sym (init_told x.stage x gc sc p (init_client_view x.stage x gc sc h)).given_is ∙ e)

pub listener_given_some : (y : Listening) (gl sl : List SaslBody) → any_server_holds passwords_for stored_for y gl sl → any_server_turn y ≡ Pass → gl ≡ [] → ⊥
listener_given_some (server.Scram y) gl sl h p e = none_of gl 1 (scram_heard y.hash y.stage (stored_for y.server.provider) y.server.nonce gl sl p (listener_view y gl sl h)) e
listener_given_some (server.Init y) gl sl h p e = none_of gl 0 (init_heard y.check y.stage gl sl p (init_listener_view y.check y.stage gl sl h)) e

-- and all that the other sent
pub client_given_all : (x : ClientExchange) (y : Listening) (gc sc gl sl fc fl : List SaslBody) → AreFacing x y gc sc gl sl fc fl → any_client_turn x ≡ Pass → fc ≡ []
client_given_all (client.Scram x) (server.Scram y) gc sc gl sl fc fl f p =
    none_behind gc fc sl 3 (scram_given x.stage x gc sc p (scram_seen x y gc sc gl sl fc fl f)) (server_few stored_for y gl sl f.listener) f.reads_listener
client_given_all (client.Scram x) (server.Init y) gc sc gl sl fc fl f p =
    absurd (client_given_some (client.Scram x) gc sc f.client p (nothing (client.Scram x) (server.Init y) gc sc gl sl fc fl (are_unlike x y gc sc gl sl fc fl f)).0)
client_given_all (client.Init x) (server.Scram y) gc sc gl sl fc fl f p =
    let i = init_told x.stage x gc sc p (init_client_view x.stage x gc sc f.client) in
    absurd (no_second y.hash y.stage (stored_for y.server.provider) y.server.nonce gl sl (mechanisms_body i.names) i.payload fc
    (sym (ap (λ (u : List SaslBody). u ++ fc) i.given_is) ∙ f.reads_listener) (listener_view y gl sl f.listener))
client_given_all (client.Init x) (server.Init y) gc sc gl sl fc fl f p =
    none_behind gc fc sl 2 (two_told x gc (init_told x.stage x gc sc p (init_client_view x.stage x gc sc f.client)))
    (init_listener_few y.check y.stage gl sl (init_listener_view y.check y.stage gl sl f.listener)) f.reads_listener

pub listener_given_all : (x : ClientExchange) (y : Listening) (gc sc gl sl fc fl : List SaslBody) → AreFacing x y gc sc gl sl fc fl → any_server_turn y ≡ Pass → fl ≡ []
listener_given_all (client.Scram x) (server.Scram y) gc sc gl sl fc fl f p =
    none_behind gl fl sc 2 (scram_heard y.hash y.stage (stored_for y.server.provider) y.server.nonce gl sl p (listener_view y gl sl f.listener))
    (scram_sent x gc sc (client_sent x.stage x gc sc (scram_seen x y gc sc gl sl fc fl f))) f.reads_client
listener_given_all (client.Scram x) (server.Init y) gc sc gl sl fc fl f p = (nothing (client.Scram x) (server.Init y) gc sc gl sl fc fl (are_unlike x y gc sc gl sl fc fl f)).3
listener_given_all (client.Init x) (server.Scram y) gc sc gl sl fc fl f p =
    let two = scram_heard y.hash y.stage (stored_for y.server.provider) y.server.nonce gl sl p (listener_view y gl sl f.listener) in
    none_behind gl fl sc 1 (omega (arith, two)) (init_client_few x.stage x gc sc (init_client_view x.stage x gc sc f.client)) f.reads_client
listener_given_all (client.Init x) (server.Init y) gc sc gl sl fc fl f p =
    none_behind gl fl sc 1 (init_heard y.check y.stage gl sl p (init_listener_view y.check y.stage gl sl f.listener))
    (init_client_few x.stage x gc sc (init_client_view x.stage x gc sc f.client)) f.reads_client

-- Two ends with ANONYMOUS or PLAIN that read one another's bytes, of which one failed.
use Rattle.std.proofs.Common.{◌≡◌, ℕ, List, ◌∷◌, ◌++◌, [], refl, ap, ◌∙◌}
use Rattle.amqp_sasl_bodies.specs.declared.sasl_body.SaslBody.{SaslBody}
use Rattle.amqp_sasl_bodies.specs.declared.sasl_code.SaslCode.TheVariants as sasl
use Rattle.amqp_opening.specs.Authentication.{passwords_for}
use Rattle.amqp_wire.specs.Events.{LinkEvent, read_of}
use Rattle.sasl_exchange.specs.declared.client.ClientExchange.TheVariants as client
use Rattle.sasl_exchange.specs.declared.error.NegotiationError.{NegotiationError}
use Rattle.sasl_exchange.specs.declared.exchange.Turn.TheVariants.{Receive}
use Rattle.sasl_exchange.specs.declared.server.ServerExchange.TheVariants as server
use Rattle.sasl_exchange.specs.Credentials.{Credentials}
use Rattle.sasl_exchange.specs.Exchange.{refused_with}
use Rattle.sasl_exchange.specs.InitClient.{InitClientEnd, init_client_causes, init_client_owes, init_client_turn}
use Rattle.sasl_exchange.specs.InitServer.{InitServerEnd, init_server_causes, init_server_owes, init_server_turn}
use Rattle.sasl_gate.specs.Negotiation.{IsCaused, IsCauseAfter, IsHeard}
use Rattle.sasl_scram.specs.States.{Account}
use Rattle.amqp_pairs.specs.Failures.{FailsBy, IsFollowed, IsOwnCause}
use Rattle.amqp_pairs.specs.InitEnds.{AreInitEnds, AreInitJoined, HasOtherAccount, HasSameAccount, MayRefuseInit}
use Rattle.amqp_pairs.specs.Streams.{IsSaid}
use Rattle.amqp_pairs.proofs.Bodies.{last_once}
use Rattle.amqp_pairs.proofs.Failing.{fails_by, fails_on_its_own}
use Rattle.amqp_pairs.proofs.Frames.{header_taken}
use Rattle.amqp_pairs.proofs.InitLaws.{client_next, init_impossible, judged_other, given_init, next_other, nothing_refused}
use Rattle.amqp_pairs.proofs.Inits.{init_apart}
use Rattle.amqp_pairs.proofs.NoCauses.{any_refused}
use Rattle.amqp_pairs.proofs.Passing.{client_frame, listener_frame}

module _ (c : Credentials) (x : InitClientEnd) (y : InitServerEnd Account) (gc sc gl sl : List SaslBody) (e : NegotiationError) (events : List LinkEvent) where
  module _ (ends : AreInitEnds c x y gc sc gl sl) where
    -- ---- the client

    abbrev Why : Type 0
    Why = (body : SaslBody) × MayRefuseInit c y body e

    client_taken : (fc fl : List SaslBody) → gc ++ fc ≡ sl → gl ++ fl ≡ sc → init_client_causes x e gc sc → Why
    client_taken fc fl p q cause = absurd (nothing_refused c x y gc sc gl sl fc fl (record { ends = ends; reads_listener = p; reads_client = q }) e cause)

    client_refused : (body : SaslBody) (more fl : List SaslBody) → gc ++ body ∷ more ≡ sl → gl ++ fl ≡ sc → init_client_turn x ≡ Receive → init_client_causes x e (gc ++ body ∷ []) sc → Why
    client_refused body more fl p q waits cause =
        (body, client_next c x y gc sc gl sl (body ∷ more) fl (record { ends = ends; reads_listener = p; reads_client = q }) e body more refl cause)

    -- ---- the listener

    abbrev Turned : Type 0
    Turned = (e ≡ refused_with sasl.Auth) × HasOtherAccount c y.check

    listener_taken : (fl fc : List SaslBody) → gl ++ fl ≡ sc → gc ++ fc ≡ sl → init_server_causes passwords_for y e gl sl → Turned
    listener_taken fl fc p q cause =
        let j : AreInitJoined c x y gc sc gl sl fc fl = record { ends = ends; reads_listener = q; reads_client = p } in
        let r = any_refused (server.Init y) e gl sl cause in
        let why = judged_other c x y gc sc gl sl fc fl j r.0 r.2.1 (given_init c x y gc sc gl sl fc fl j r.2.1 r.2.2) r.2.3 r.2.0 in
        (r.1 ∙ ap refused_with why.0, why.1)

    listener_refused : (body : SaslBody) (more fc : List SaslBody) → gl ++ body ∷ more ≡ sc → gc ++ fc ≡ sl → init_server_turn y ≡ Receive
        → init_server_causes passwords_for y e (gl ++ body ∷ []) sl → Turned
    listener_refused body more fc p q waits cause =
        let j : AreInitJoined c x y gc sc gl sl fc (body ∷ more) = record { ends = ends; reads_listener = q; reads_client = p } in
        let r = any_refused (server.Init y) e (gl ++ body ∷ []) sl cause in
        let same : body ≡ r.2.1 = (last_once gl [] body r.2.1 r.2.2).1 in
        let why = next_other c x y gc sc gl sl fc (body ∷ more) j r.0 r.2.1 more (ap (λ (b : SaslBody). b ∷ more) same) r.2.3 r.2.0 in
        (r.1 ∙ ap refused_with why.0, why.1)

  module _ (tc al lr tl ac : List ℕ) (ends : AreInitEnds c x y gc sc gl sl) where
    pub init_client_fails : IsSaid (read_of events) tc al sl → IsHeard lr gl → IsSaid lr tl ac sc → FailsBy (init_client_causes x) (init_client_owes x) (init_client_turn x) e events gc sc
        → (body : SaslBody) × MayRefuseInit c y body e
    init_client_fails s h t f =
        fails_by (init_client_causes x) (init_client_owes x) (init_client_turn x) e events gc sc gl sl (Why ends) (client_taken ends) (client_refused ends) tc al lr tl ac s h t f

    pub init_client_does_not : HasSameAccount c y.check → IsSaid (read_of events) tc al sl → IsHeard lr gl → IsSaid lr tl ac sc
        → FailsBy (init_client_causes x) (init_client_owes x) (init_client_turn x) e events gc sc → ⊥
    init_client_does_not same s h t f =
        let why = init_client_fails s h t f in
        init_impossible c y same e why.0 why.1

    module _ (same : HasSameAccount c y.check) (s : IsSaid (read_of events) tc al sl) (follows : IsFollowed (init_server_turn y) al) (h : IsHeard lr gl) (t : IsSaid lr tl ac sc) where
      pub init_client_own : (k : IsCaused (init_client_causes x) (init_client_owes x) e events) → IsCauseAfter (init_client_causes x) (init_client_owes x) (init_client_turn x) e events gc sc k
          → IsOwnCause (init_client_causes x) (init_client_owes x) e events k
      init_client_own =
          fails_on_its_own (init_client_causes x) (init_client_owes x) (init_client_turn x) e events gc sc gl sl (header_taken (read_of events) tc al sl e s)
          (λ rest. client_frame (client.Init x) (server.Init y) gc sc gl sl e events rest tc al lr tl ac ends.client ends.listener s follows h t)
          (init_client_does_not same s h t)

  module _ (cr tc al tl ac : List ℕ) (ends : AreInitEnds c x y gc sc gl sl) where
    pub init_listener_fails : IsHeard cr gc → IsSaid cr tc al sl → IsSaid (read_of events) tl ac sc
        → FailsBy (init_server_causes passwords_for y) (init_server_owes y) (init_server_turn y) e events gl sl → (e ≡ refused_with sasl.Auth) × HasOtherAccount c y.check
    init_listener_fails h s t f =
        fails_by (init_server_causes passwords_for y) (init_server_owes y) (init_server_turn y) e events gl sl gc sc (Turned ends) (listener_taken ends) (listener_refused ends) tl ac cr tc al t h s f

    pub init_listener_does_not : HasSameAccount c y.check → IsHeard cr gc → IsSaid cr tc al sl → IsSaid (read_of events) tl ac sc
        → FailsBy (init_server_causes passwords_for y) (init_server_owes y) (init_server_turn y) e events gl sl → ⊥
    init_listener_does_not same h s t f = init_apart c y.check same (init_listener_fails h s t f).1

    module _ (same : HasSameAccount c y.check) (h : IsHeard cr gc) (s : IsSaid cr tc al sl) (t : IsSaid (read_of events) tl ac sc) (follows : IsFollowed (init_client_turn x) ac) where
      pub init_listener_own : (k : IsCaused (init_server_causes passwords_for y) (init_server_owes y) e events)
          → IsCauseAfter (init_server_causes passwords_for y) (init_server_owes y) (init_server_turn y) e events gl sl k
          → IsOwnCause (init_server_causes passwords_for y) (init_server_owes y) e events k
      init_listener_own =
          fails_on_its_own (init_server_causes passwords_for y) (init_server_owes y) (init_server_turn y) e events gl sl gc sc (header_taken (read_of events) tl ac sc e t)
          (λ rest. listener_frame (client.Init x) (server.Init y) gc sc gl sl e events cr tc al rest tl ac ends.client ends.listener h s t follows)
          (init_listener_does_not same h s t)

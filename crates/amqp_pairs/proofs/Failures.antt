-- Two ends with SCRAM that read one another's bytes, of which one failed by its mechanism.
use Rattle.std.proofs.Common.{◌≡◌, ℕ, List, ◌∷◌, ◌++◌, [], refl, ap, ◌∙◌}
use Rattle.amqp_sasl_bodies.specs.declared.sasl_body.SaslBody.{SaslBody}
use Rattle.amqp_sasl_bodies.specs.declared.sasl_code.SaslCode.TheVariants as sasl
use Rattle.amqp_opening.specs.Authentication.{stored_for}
use Rattle.amqp_wire.specs.Events.{LinkEvent, read_of}
use Rattle.sasl_exchange.specs.declared.error.NegotiationError.{NegotiationError}
use Rattle.sasl_exchange.specs.declared.exchange.Turn.TheVariants.{Receive}
use Rattle.sasl_exchange.specs.declared.server.ServerExchange.TheVariants as server
use Rattle.sasl_exchange.specs.ScramClient.{ClientEnd, client_causes, client_owes, client_turn}
use Rattle.sasl_exchange.specs.Exchange.{refused_with}
use Rattle.sasl_gate.specs.Negotiation.{IsHeard}
use Rattle.sasl_exchange.specs.ScramServer.{ServerEnd, server_causes, server_owes, server_turn}
use Rattle.sasl_scram.specs.States.{Account}
use Rattle.amqp_pairs.specs.Errors.{MayRefuse}
use Rattle.amqp_pairs.specs.Failures.{FailsBy}
use Rattle.amqp_pairs.specs.Joined.{AreEnds, AreJoined, IsSameAccount, IsOtherAccount}
use Rattle.amqp_pairs.specs.Streams.{IsSaid}
use Rattle.amqp_pairs.proofs.Failing.{fails_by}
use Rattle.amqp_pairs.proofs.Laws.{apart, client_next, impossible, refused_next, refused_now}
use Rattle.amqp_pairs.proofs.NoCauses.{any_refused}
use Rattle.amqp_pairs.proofs.OwnCauses.{nothing_refused}

module _ (x : ClientEnd) (y : ServerEnd Account) (salt : List ℕ) (count : ℕ) (gc sc gl sl : List SaslBody) (e : NegotiationError) (events : List LinkEvent) where
  module _ (ends : AreEnds x y salt count gc sc gl sl) where
    -- ---- the client

    abbrev Why : Type 0
    Why = (body : SaslBody) × MayRefuse x y body e

    client_taken : (fc fl : List SaslBody) → gc ++ fc ≡ sl → gl ++ fl ≡ sc → client_causes x e gc sc → Why
    client_taken fc fl p q c = absurd (nothing_refused x y salt count gc sc gl sl fc fl (record { ends = ends; reads_listener = p; reads_client = q }) e c)

    client_refused : (body : SaslBody) (more fl : List SaslBody) → gc ++ body ∷ more ≡ sl → gl ++ fl ≡ sc → client_turn x ≡ Receive → client_causes x e (gc ++ body ∷ []) sc → Why
    client_refused body more fl p q waits c =
        (body, client_next x y salt count gc sc gl sl (body ∷ more) fl (record { ends = ends; reads_listener = p; reads_client = q }) e body more refl c)

    -- ---- the listener

    abbrev Turned : Type 0
    Turned = (e ≡ refused_with sasl.Auth) × IsOtherAccount x y.server.provider

    listener_taken : (fl fc : List SaslBody) → gl ++ fl ≡ sc → gc ++ fc ≡ sl → server_causes stored_for y e gl sl → Turned
    listener_taken fl fc p q c =
        let j : AreJoined x y salt count gc sc gl sl fc fl = record { ends = ends; reads_listener = q; reads_client = p } in
        let r = any_refused (server.Scram y) e gl sl c in
        let why = refused_now x y salt count gc sc gl sl fc fl j r.0 r.2 in
        (r.1 ∙ ap refused_with why.0, why.1)

    listener_refused : (body : SaslBody) (more fc : List SaslBody) → gl ++ body ∷ more ≡ sc → gc ++ fc ≡ sl → server_turn y ≡ Receive → server_causes stored_for y e (gl ++ body ∷ []) sl → Turned
    listener_refused body more fc p q waits c =
        let j : AreJoined x y salt count gc sc gl sl fc (body ∷ more) = record { ends = ends; reads_listener = q; reads_client = p } in
        let r = any_refused (server.Scram y) e (gl ++ body ∷ []) sl c in
        let why = refused_next x y salt count gc sc gl sl fc (body ∷ more) j r.0 body more waits refl r.2 in
        (r.1 ∙ ap refused_with why.0, why.1)

  -- ---- the laws

  module _ (tc al lr tl ac : List ℕ) (ends : AreEnds x y salt count gc sc gl sl) where
    pub client_fails : IsSaid (read_of events) tc al sl → IsHeard lr gl → IsSaid lr tl ac sc → FailsBy (client_causes x) (client_owes x) (client_turn x) e events gc sc
        → (body : SaslBody) × MayRefuse x y body e
    client_fails s h t f =
        fails_by (client_causes x) (client_owes x) (client_turn x) e events gc sc gl sl (Why ends) (client_taken ends) (client_refused ends) tc al lr tl ac s h t f

    pub client_does_not : IsSameAccount x y.server.provider → IsSaid (read_of events) tc al sl → IsHeard lr gl → IsSaid lr tl ac sc
        → FailsBy (client_causes x) (client_owes x) (client_turn x) e events gc sc → ⊥
    client_does_not same s h t f =
        let why = client_fails s h t f in
        impossible x y same e why.0 why.1

  module _ (cr tc al tl ac : List ℕ) (ends : AreEnds x y salt count gc sc gl sl) where
    pub listener_fails : IsHeard cr gc → IsSaid cr tc al sl → IsSaid (read_of events) tl ac sc → FailsBy (server_causes stored_for y) (server_owes y) (server_turn y) e events gl sl
        → (e ≡ refused_with sasl.Auth) × IsOtherAccount x y.server.provider
    listener_fails h s t f =
        fails_by (server_causes stored_for y) (server_owes y) (server_turn y) e events gl sl gc sc (Turned ends) (listener_taken ends) (listener_refused ends) tl ac cr tc al t h s f

    pub listener_does_not : IsSameAccount x y.server.provider → IsHeard cr gc → IsSaid cr tc al sl → IsSaid (read_of events) tl ac sc
        → FailsBy (server_causes stored_for y) (server_owes y) (server_turn y) e events gl sl → ⊥
    listener_does_not same h s t f = apart x y.server.provider same (listener_fails h s t f).1

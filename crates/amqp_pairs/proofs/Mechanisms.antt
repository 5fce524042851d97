-- One of two ends whose mechanisms are not the same, that failed by its mechanism.
use Rattle.std.proofs.Common.{◌≡◌, ◌≢◌, ℕ, List, [], ◌∷◌, ◌++◌, refl}
use Rattle.amqp_sasl_bodies.specs.declared.sasl_body.SaslBody.{SaslBody}
use Rattle.amqp_opening.specs.Authentication.{passwords_for, stored_for}
use Rattle.amqp_wire.specs.Events.{LinkEvent, read_of}
use Rattle.sasl_exchange.specs.declared.client.ClientExchange.{ClientExchange}
use Rattle.sasl_exchange.specs.declared.error.NegotiationError.{NegotiationError}
use Rattle.sasl_exchange.specs.declared.error.NegotiationError.TheVariants.{NotImplemented}
use Rattle.sasl_exchange.specs.declared.exchange.Turn.TheVariants.{Receive}
use Rattle.sasl_exchange.specs.AnyClient.{any_client_causes, any_client_holds, any_client_owes, any_client_turn}
use Rattle.sasl_exchange.specs.AnyServer.{any_server_causes, any_server_holds, any_server_owes, any_server_turn}
use Rattle.sasl_gate.specs.Negotiation.{IsHeard}
use Rattle.amqp_pairs.specs.Failures.{FailsBy}
use Rattle.amqp_pairs.specs.Mechanisms.{AreUnlike, Listening, client_name, listener_name}
use Rattle.amqp_pairs.specs.Streams.{IsSaid}
use Rattle.amqp_pairs.proofs.Bodies.{in_none}
use Rattle.amqp_pairs.proofs.Failing.{fails_by}
use Rattle.amqp_pairs.proofs.NoCauses.{any_refused}
use Rattle.amqp_pairs.proofs.Unlike.{client_next, no_client_cause, no_listener_cause, nothing}

module _ (x : ClientExchange) (y : Listening) (gc sc gl sl : List SaslBody) (e : NegotiationError) (events : List LinkEvent) where
  module _ (other : client_name x ≢ listener_name y) (held : any_client_holds x gc sc) (held' : any_server_holds passwords_for stored_for y gl sl) where
    unlike : (fc fl : List SaslBody) → gc ++ fc ≡ sl → gl ++ fl ≡ sc → AreUnlike x y gc sc gl sl fc fl
    unlike fc fl p q = record { other_name = other; facing = record { client = held; listener = held'; reads_listener = p; reads_client = q } }

    client_taken : (fc fl : List SaslBody) → gc ++ fc ≡ sl → gl ++ fl ≡ sc → any_client_causes x e gc sc → e ≡ NotImplemented
    client_taken fc fl p q c = absurd (no_client_cause x y gc sc gl sl fc fl (unlike fc fl p q) e c)

    client_refused : (body : SaslBody) (more fl : List SaslBody) → gc ++ body ∷ more ≡ sl → gl ++ fl ≡ sc → any_client_turn x ≡ Receive → any_client_causes x e (gc ++ body ∷ []) sc → e ≡ NotImplemented
    client_refused body more fl p q waits c = client_next x y gc sc gl sl (body ∷ more) fl (unlike (body ∷ more) fl p q) e body more refl c

    listener_taken : (fl fc : List SaslBody) → gl ++ fl ≡ sc → gc ++ fc ≡ sl → any_server_causes passwords_for stored_for y e gl sl → ⊥
    listener_taken fl fc p q c =
        let r = any_refused y e gl sl c in
        no_listener_cause x y gc sc gl sl fc fl (unlike fc fl q p) r.0 r.2

    listener_refused : (body : SaslBody) (more fc : List SaslBody) → gl ++ body ∷ more ≡ sc → gc ++ fc ≡ sl → any_server_turn y ≡ Receive
        → any_server_causes passwords_for stored_for y e (gl ++ body ∷ []) sl → ⊥
    listener_refused body more fc p q waits c = in_none [] more body (nothing x y gc sc gl sl fc (body ∷ more) (unlike fc (body ∷ more) q p)).3

  pub client_fails : (tc al lr tl ac : List ℕ) → client_name x ≢ listener_name y → any_client_holds x gc sc → any_server_holds passwords_for stored_for y gl sl
      → IsSaid (read_of events) tc al sl → IsHeard lr gl → IsSaid lr tl ac sc → FailsBy (any_client_causes x) (any_client_owes x) (any_client_turn x) e events gc sc → e ≡ NotImplemented
  client_fails tc al lr tl ac other held held' s h t f =
      fails_by (any_client_causes x) (any_client_owes x) (any_client_turn x) e events gc sc gl sl (e ≡ NotImplemented) (client_taken other held held') (client_refused other held held') tc al lr tl ac s h t f

  pub listener_does_not : (cr tc al tl ac : List ℕ) → client_name x ≢ listener_name y → any_client_holds x gc sc → any_server_holds passwords_for stored_for y gl sl
      → IsHeard cr gc → IsSaid cr tc al sl → IsSaid (read_of events) tl ac sc
      → FailsBy (any_server_causes passwords_for stored_for y) (any_server_owes y) (any_server_turn y) e events gl sl → ⊥
  listener_does_not cr tc al tl ac other held held' h s t f =
      fails_by (any_server_causes passwords_for stored_for y) (any_server_owes y) (any_server_turn y) e events gl sl gc sc ⊥
      (listener_taken other held held') (listener_refused other held held') tl ac cr tc al t h s f

-- Why an end refuses another of the same mechanism.
use Rattle.std.proofs.Common.{◌≡◌, ◌≢◌, inl, inr, ℕ, List, Option, Some, None, refl, sym, ap, ◌∙◌}
use Rattle.std.proofs.Math.Path.{ap₂}
use Rattle.std.proofs.lemmas.Option.{same_Some}
use Rattle.amqp_sasl_bodies.specs.declared.sasl_body.SaslBody.{SaslBody}
use Rattle.amqp_sasl_bodies.specs.declared.sasl_code.SaslCode.{SaslCode}
use Rattle.amqp_sasl_bodies.specs.declared.sasl_code.SaslCode.TheVariants as sasl
use Rattle.amqp_wire.specs.Events.{LinkEvent, read_of}
use Rattle.sasl_exchange.specs.declared.client.ClientExchange.{ClientExchange}
use Rattle.sasl_exchange.specs.declared.client.ClientExchange.TheVariants as client
use Rattle.sasl_exchange.specs.declared.error.NegotiationError.{NegotiationError}
use Rattle.sasl_exchange.specs.declared.error.NegotiationError.TheVariants.{Memory, ProtocolHeaderMismatch, NotImplemented, SaslError, ScramError, Io, DecodeError, IllegalState, FramingError}
use Rattle.sasl_exchange.specs.declared.exchange.Turn.TheVariants.{Pass}
use Rattle.sasl_exchange.specs.declared.server.ServerExchange.TheVariants as server
use Rattle.sasl_scram.specs.declared.error.ScramErrorKind.TheVariants.{Signature}
use Rattle.sasl_exchange.specs.AnyClient.{any_client_causes, any_client_owes, any_client_turn}
use Rattle.sasl_exchange.specs.AnyServer.{any_server_causes, any_server_owes, any_server_turn}
use Rattle.sasl_exchange.specs.ScramClient.{ClientEnd}
use Rattle.sasl_exchange.specs.Credentials.{Credentials}
use Rattle.sasl_exchange.specs.Exchange.{refused_with}
use Rattle.sasl_exchange.specs.InitClient.{InitClientEnd}
use Rattle.sasl_exchange.specs.InitServer.{InitServerEnd}
use Rattle.sasl_gate.specs.Negotiation.{IsHeard}
use Rattle.sasl_exchange.specs.ScramServer.{ServerEnd, server_turn}
use Rattle.sasl_scram.specs.States.{Account}
use Rattle.amqp_opening.specs.Admission.{Admission, account_by}
use Rattle.amqp_opening.specs.Authentication.{account_in, passwords_for, stored_for}
use Rattle.amqp_pairs.specs.Errors.{MayRefuse}
use Rattle.amqp_pairs.specs.Failures.{FailsBy}
use Rattle.amqp_pairs.specs.InitEnds.{MayRefuseInit}
use Rattle.amqp_pairs.specs.Joined.{IsOtherAccount}
use Rattle.amqp_pairs.specs.Mechanisms.{Listening}
use Rattle.amqp_pairs.specs.Streams.{IsSaid}
use Rattle.amqp_pairs.proofs.Failures.{client_fails, listener_fails}
use Rattle.amqp_pairs.proofs.InitFailures.{init_client_fails, init_listener_fails}
use Rattle.amqp_ends.proofs.GateEnds.{AreEndsOf, AreSayingEnds, AreScramEnds}

-- why a client refuses: it was told that its account is another, or with SCRAM the listener took a proof that another password made
pub data ClientRefusal (c : Credentials) (d : Admission) (y : Listening) (e : NegotiationError) : Type 0 where
  told : e ≡ refused_with sasl.Auth → account_in c ≢ account_by d → ClientRefusal c d y e
  collided : (z : ServerEnd Account) (user password other : List ℕ) → y ≡ server.Scram z → e ≡ ScramError Signature → server_turn z ≡ Pass
      → account_in c ≡ Some (user, password) → account_by d ≡ Some (user, other) → password ≢ other → ClientRefusal c d y e

-- why a listener refuses: the account of the client is another
abbrev pub ListenerRefusal : Credentials → Admission → NegotiationError → Type 0
ListenerRefusal c d e = (e ≡ refused_with sasl.Auth) × (account_in c ≢ account_by d)

auth : (code : SaslCode) (payload : Option (List ℕ)) → code ≡ sasl.Auth → payload ≡ None → SaslError code payload ≡ refused_with sasl.Auth
auth code payload c p = ap₂ (λ (i : SaslCode) (z : Option (List ℕ)). SaslError i z) c p

module _ (c : Credentials) (d : Admission) (gc sc gl sl : List SaslBody) where
  scram_apart : (x : ClientEnd) (y : ServerEnd Account) → AreScramEnds c d x y gc sc gl sl → IsOtherAccount x y.server.provider → account_in c ≢ account_by d
  scram_apart x y a (inl u) e =
      u (ap (λ (z : List ℕ × List ℕ). z.0) (same_Some (x.client.user, x.client.password) (y.server.provider.user, y.server.provider.password) (sym a.account ∙ e ∙ a.far_account)))
  scram_apart x y a (inr q) e =
      q (ap (λ (z : List ℕ × List ℕ). z.1) (same_Some (x.client.user, x.client.password) (y.server.provider.user, y.server.provider.password) (sym a.account ∙ e ∙ a.far_account)))

  scram_refused : (x : ClientEnd) (y : ServerEnd Account) → AreScramEnds c d x y gc sc gl sl → (e : NegotiationError) (body : SaslBody) → MayRefuse x y body e → ClientRefusal c d (server.Scram y) e
  scram_refused x y a (Memory b) body r = absurd r
  scram_refused x y a (ProtocolHeaderMismatch h) body r = absurd r
  scram_refused x y a NotImplemented body r = absurd r
  scram_refused x y a (SaslError code payload) body (k, q, t) = told (auth code payload k q) (scram_apart x y a t.other)
  scram_refused x y a (ScramError kind) body (k, t) =
      collided y x.client.user x.client.password y.server.provider.password refl (ap ScramError k) t.passes a.account
      (a.far_account ∙ ap (λ (u : List ℕ). Some (u, y.server.provider.password)) (sym t.user)) t.password
  scram_refused x y a (Io kind) body r = absurd r
  scram_refused x y a DecodeError body r = absurd r
  scram_refused x y a IllegalState body r = absurd r
  scram_refused x y a FramingError body r = absurd r

  init_refused : (x : InitClientEnd) (y : InitServerEnd Account) → AreSayingEnds c d x y gc sc gl sl → (e : NegotiationError) (body : SaslBody) → MayRefuseInit c y body e → ClientRefusal c d (server.Init y) e
  init_refused x y a (Memory b) body r = absurd r
  init_refused x y a (ProtocolHeaderMismatch h) body r = absurd r
  init_refused x y a NotImplemented body r = absurd r
  init_refused x y a (SaslError code payload) body (k, q, t) = told (auth code payload k q) (a.apart t.other)
  init_refused x y a (ScramError kind) body r = absurd r
  init_refused x y a (Io kind) body r = absurd r
  init_refused x y a DecodeError body r = absurd r
  init_refused x y a IllegalState body r = absurd r
  init_refused x y a FramingError body r = absurd r

  module _ (e : NegotiationError) (events : List LinkEvent) where
    pub client_refuses : (x : ClientExchange) (y : Listening) → AreEndsOf c d x y gc sc gl sl → (tc al lr tl ac : List ℕ) → IsSaid (read_of events) tc al sl → IsHeard lr gl → IsSaid lr tl ac sc
        → FailsBy (any_client_causes x) (any_client_owes x) (any_client_turn x) e events gc sc → ClientRefusal c d y e
    client_refuses (client.Scram x) (server.Scram y) a tc al lr tl ac s h t f =
        let r = client_fails x y a.salt a.count gc sc gl sl e events tc al lr tl ac a.ends s h t f in
        scram_refused x y a e r.0 r.1
    client_refuses (client.Scram x) (server.Init y) a tc al lr tl ac s h t f = absurd a
    client_refuses (client.Init x) (server.Scram y) a tc al lr tl ac s h t f = absurd a
    client_refuses (client.Init x) (server.Init y) a tc al lr tl ac s h t f =
        let r = init_client_fails c x y gc sc gl sl e events tc al lr tl ac a.ends s h t f in
        init_refused x y a e r.0 r.1

    pub listener_refuses : (x : ClientExchange) (y : Listening) → AreEndsOf c d x y gc sc gl sl → (cr tc al tl ac : List ℕ) → IsHeard cr gc → IsSaid cr tc al sl → IsSaid (read_of events) tl ac sc
        → FailsBy (any_server_causes passwords_for stored_for y) (any_server_owes y) (any_server_turn y) e events gl sl → ListenerRefusal c d e
    listener_refuses (client.Scram x) (server.Scram y) a cr tc al tl ac h s t f =
        let r = listener_fails x y a.salt a.count gc sc gl sl e events cr tc al tl ac a.ends h s t f in
        (r.0, scram_apart x y a r.1)
    listener_refuses (client.Scram x) (server.Init y) a cr tc al tl ac h s t f = absurd a
    listener_refuses (client.Init x) (server.Scram y) a cr tc al tl ac h s t f = absurd a
    listener_refuses (client.Init x) (server.Init y) a cr tc al tl ac h s t f =
        let r = init_listener_fails c x y gc sc gl sl e events cr tc al tl ac a.ends h s t f in
        (r.0, a.apart r.1)

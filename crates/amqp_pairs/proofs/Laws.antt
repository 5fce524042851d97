-- The laws of two joined ends with SCRAM.
use Rattle.std.proofs.Common.{◌≡◌, ◌≢◌, inl, inr, ℕ, List, [], ◌∷◌, ◌++◌, Option, None, ap, sym, ◌∙◌, subst, append_assoc, append-nil}
use Rattle.amqp_sasl_bodies.specs.declared.sasl_body.SaslBody.{SaslBody}
use Rattle.amqp_sasl_bodies.specs.declared.sasl_code.SaslCode.{SaslCode}
use Rattle.amqp_sasl_bodies.specs.declared.sasl_code.SaslCode.TheVariants as sasl
use Rattle.amqp_opening.specs.Authentication.{stored_for}
use Rattle.sasl_exchange.specs.declared.client.ClientExchange.TheVariants as client
use Rattle.sasl_exchange.specs.declared.server.ServerExchange.TheVariants as server
use Rattle.sasl_exchange.specs.declared.error.NegotiationError.{NegotiationError}
use Rattle.sasl_exchange.specs.declared.error.NegotiationError.TheVariants.{Memory, ProtocolHeaderMismatch, NotImplemented, SaslError, ScramError, Io, DecodeError, IllegalState, FramingError}
use Rattle.sasl_exchange.specs.declared.exchange.Turn.TheVariants.{Send, Receive, Refuse, Pass}
use Rattle.sasl_exchange.specs.declared.scram_server.ServerStage.{ServerStage}
use Rattle.sasl_exchange.specs.declared.scram_server.ServerStage.TheVariants.{OwesMechanisms, AwaitsInit, OwesChallenge, AwaitsResponse, OwesOutcome, Passed, OwesRefusal, Refused}
use Rattle.sasl_scram.specs.declared.hash.ScramHash.{ScramHash}
use Rattle.sasl_scram.specs.declared.stored.StoredPassword.{StoredPassword}
use Rattle.sasl_exchange.specs.ScramClient.{ClientEnd, client_causes, client_turn}
use Rattle.sasl_exchange.specs.Exchange.{refused_with}
use Rattle.sasl_exchange.specs.ScramBodies.{outcome_body}
use Rattle.sasl_exchange.specs.ScramServer.{ServerEnd, IsRefusalCause, Waited, holds_in, server_turn}
use Rattle.sasl_scram.specs.States.{Account, ServerState}
use Rattle.sasl_exchange.proofs.ScramServers.{awaited}
use Rattle.amqp_pairs.specs.Errors.{MayRefuse}
use Rattle.amqp_pairs.specs.Joined.{AreJoined, IsOtherAccount, IsRefusing, IsSameAccount}
use Rattle.amqp_pairs.proofs.Asked.{Asked, asked, asking_asked}
use Rattle.amqp_pairs.proofs.Bodies.{last_in_flight, last_of_one, none_in_flight}
use Rattle.amqp_pairs.proofs.Causes.{client_seen, refusal_cause}
use Rattle.amqp_pairs.proofs.ClientCauses.{client_cause, seen}
use Rattle.amqp_pairs.proofs.ClientViews.{ClientView}
use Rattle.amqp_pairs.proofs.ListenerViews.{ListenerView, owes_mechanisms, awaits_init, owes_challenge, awaits_response, owes_outcome, passed, owes_refusal, refused, asking}
use Rattle.amqp_pairs.proofs.Rest.{took_no_refusal}
use Rattle.amqp_pairs.proofs.Still.{both_still}

-- no account is the same and another
pub apart : (x : ClientEnd) (account : Account) → IsSameAccount x account → IsOtherAccount x account → ⊥
apart x account same (inl user) = user same.0
apart x account same (inr password) = password same.1

-- no error is one with which a client can refuse the same account
pub impossible : (x : ClientEnd) (y : ServerEnd Account) → IsSameAccount x y.server.provider → (e : NegotiationError) (body : SaslBody) → MayRefuse x y body e → ⊥
impossible x y same (Memory a) body m = m
impossible x y same (ProtocolHeaderMismatch h) body m = m
impossible x y same NotImplemented body m = m
impossible x y same (SaslError code payload) body m = apart x y.server.provider same m.2.other
impossible x y same (ScramError kind) body m = m.1.password same.1
impossible x y same (Io kind) body m = m
impossible x y same DecodeError body m = m
impossible x y same IllegalState body m = m
impossible x y same FramingError body m = m

cause_in : (hash : ScramHash) (stage : ServerStage) (s : ServerState Account) (given sent : List SaslBody) → IsRefusing stage → holds_in hash stored_for stage s given sent
    → (code : SaslCode) × IsRefusalCause hash (stored_for s.provider) s.nonce code given
cause_in hash OwesMechanisms s given sent r h = absurd r
cause_in hash AwaitsInit s given sent r h = absurd r
cause_in hash (OwesChallenge text) s given sent r h = absurd r
cause_in hash AwaitsResponse s given sent r h = absurd r
cause_in hash (OwesOutcome text) s given sent r h = absurd r
cause_in hash Passed s given sent r h = absurd r
cause_in hash (OwesRefusal code) s given sent r h = (code, h.cause)
cause_in hash (Refused code) s given sent r h = (code, h.cause)

module _ (x : ClientEnd) (y : ServerEnd Account) (salt : List ℕ) (count : ℕ) (gc sc gl sl fc fl : List SaslBody) (j : AreJoined x y salt count gc sc gl sl fc fl) where
  abbrev stored : List ℕ → Option StoredPassword
  stored = stored_for y.server.provider

  abbrev far : ClientView x.stage x gc sc
  far = client_seen x y salt count gc sc gl sl fc fl j

  abbrev seen_now : ListenerView y.hash y.stage stored y.server.nonce gl sl
  seen_now = seen x y salt count gc sc gl sl fc fl j

  -- ---- another account

  pub refused_now : (code : SaslCode) → IsRefusalCause y.hash stored y.server.nonce code gl → (code ≡ sasl.Auth) × IsOtherAccount x y.server.provider
  refused_now code cause = refusal_cause x y salt count gc sc gl sl fc fl j code gl fl j.reads_client (asked y.hash stored y.server.nonce y.stage gl sl seen_now) cause

  pub refused_next : (code : SaslCode) (body : SaslBody) (more : List SaslBody) → server_turn y ≡ Receive → fl ≡ body ∷ more → IsRefusalCause y.hash stored y.server.nonce code (gl ++ body ∷ [])
      → (code ≡ sasl.Auth) × IsOtherAccount x y.server.provider
  refused_next code body more turn next cause =
      let w : Waited y.hash stored y.server.nonce (gl ++ body ∷ []) sl = awaited stored_for y gl sl body turn j.ends.listener in
      let a = asking_asked y.hash stored y.server.nonce (gl ++ body ∷ []) sl [] (asking y.hash stored y.server.nonce (gl ++ body ∷ []) sl w) in
      refusal_cause x y salt count gc sc gl sl fc fl j code (gl ++ body ∷ []) more
      (append_assoc gl (body ∷ []) more ∙ ap (λ (u : List SaslBody). gl ++ u) (sym next) ∙ j.reads_client)
      (subst (λ (u : List SaslBody). Asked y.hash stored y.server.nonce (gl ++ body ∷ []) u) (append-nil sl) a) cause

  pub client_next : (e : NegotiationError) (body : SaslBody) (more : List SaslBody) → fc ≡ body ∷ more → client_causes x e (gc ++ body ∷ []) sc → MayRefuse x y body e
  client_next e body more next c =
      client_cause x y salt count gc sc gl sl fc fl j gc body more (ap (λ (u : List SaslBody). gc ++ u) (sym next) ∙ j.reads_listener) e c

  -- ---- the same account

  module _ (same : IsSameAccount x y.server.provider) where
    pub no_cause : (code : SaslCode) → IsRefusalCause y.hash stored y.server.nonce code gl → ⊥
    no_cause code cause = apart x y.server.provider same (refused_now code cause).1

    pub no_refusal : IsRefusing y.stage → ⊥
    no_refusal r = let c = cause_in y.hash y.stage y.server gl sl r j.ends.listener in no_cause c.0 c.1

    pub no_next : (code : SaslCode) (body : SaslBody) (more : List SaslBody) → server_turn y ≡ Receive → fl ≡ body ∷ more → IsRefusalCause y.hash stored y.server.nonce code (gl ++ body ∷ []) → ⊥
    no_next code body more turn next cause = apart x y.server.provider same (refused_next code body more turn next cause).1

    pub no_client_cause : (e : NegotiationError) (body : SaslBody) (more : List SaslBody) → fc ≡ body ∷ more → client_causes x e (gc ++ body ∷ []) sc → ⊥
    no_client_cause e body more next c = impossible x y same e body (client_next e body more next c)

  -- ---- a listener that refused

  abbrev Turned : SaslCode → Type 0
  Turned code = (code ≡ sasl.Auth) × IsOtherAccount x y.server.provider × (front : List SaslBody) × (fc ≡ front ++ outcome_body sasl.Auth None ∷ [])

  other_turn : (code other : SaslCode) → Refuse other ≡ Refuse code → other ≡ code
  other_turn code other e = cc

  send_not : (code : SaslCode) → Send ≡ Refuse code → ⊥
  send_not code e = cc

  receive_not : (code : SaslCode) → Receive ≡ Refuse code → ⊥
  receive_not code e = cc

  pass_not : (code : SaslCode) → Pass ≡ Refuse code → ⊥
  pass_not code e = cc

  turned_by : (code other : SaslCode) (front : List SaslBody) → other ≡ code → IsRefusalCause y.hash stored y.server.nonce other gl → sl ≡ front ++ outcome_body other None ∷ [] → Turned code
  turned_by code other front same cause is =
      let why = refused_now other cause in
      let told : gc ++ fc ≡ front ++ outcome_body sasl.Auth None ∷ [] = j.reads_listener ∙ is ∙ ap (λ (c : SaslCode). front ++ outcome_body c None ∷ []) why.0 in
      let last = last_in_flight gc fc front (outcome_body sasl.Auth None) (λ before more e. took_no_refusal x.stage x gc sc before more sasl.Auth far e) told in
      (sym same ∙ why.0, why.1, last.0, last.1)

  turned : (code : SaslCode) → server_turn y ≡ Refuse code → ListenerView y.hash y.stage stored y.server.nonce gl sl → Turned code
  turned code turn (owes_mechanisms t g s) = absurd (send_not code (sym t ∙ turn))
  turned code turn (awaits_init t g s) = absurd (receive_not code (sym t ∙ turn))
  turned code turn (owes_challenge cf first h t g s c) = absurd (send_not code (sym t ∙ turn))
  turned code turn (awaits_response cf first h t g s c) = absurd (receive_not code (sym t ∙ turn))
  turned code turn (owes_outcome u cf first final told h t g s c) = absurd (send_not code (sym t ∙ turn))
  turned code turn (passed u cf first final told h t g s c) = absurd (pass_not code (sym t ∙ turn))
  turned code turn (owes_refusal other t c a) = absurd (send_not code (sym t ∙ turn))
  turned code turn (refused other front t c is a) = turned_by code other front (other_turn code other (sym t ∙ turn)) c is

  pub in_flight : (code : SaslCode) → server_turn y ≡ Refuse code → Turned code
  in_flight code turn = turned code turn seen_now

  auth_not_ok : sasl.Auth ≢ sasl.Ok
  auth_not_ok e = cc

  pub told_client : (code : SaslCode) (body : SaslBody) → fc ≡ body ∷ [] → server_turn y ≡ Refuse code → client_causes x (refused_with sasl.Auth) (gc ++ body ∷ []) sc
  told_client code body next turn =
      let t = in_flight code turn in
      let same = last_of_one t.2 (outcome_body sasl.Auth None) body (sym t.3 ∙ next) in
      (gc, ap (λ (u : SaslBody). gc ++ u ∷ []) (sym same.1), auth_not_ok)

-- nothing is in flight, and neither end sends
pub at_rest : (x : ClientEnd) (y : ServerEnd Account) (salt : List ℕ) (count : ℕ) (gc sc gl sl fc fl : List SaslBody) → AreJoined x y salt count gc sc gl sl fc fl
    → fc ≡ [] → fl ≡ [] → client_turn x ≢ Send → server_turn y ≢ Send → (client_turn x ≡ Pass) × (server_turn y ≡ Pass)
at_rest x y salt count gc sc gl sl fc fl j p q idle ready =
    both_still (client.Scram x) (server.Scram y) gc sc gl sl j.ends.client j.ends.listener (none_in_flight gc fc sl j.reads_listener p) (none_in_flight gl fl sc j.reads_client q) idle ready

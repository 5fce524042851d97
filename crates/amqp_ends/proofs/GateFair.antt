-- Why a negotiation fails between two ends.
use Rattle.std.proofs.Common.{◌≡◌, ◌⊎◌, ◌≤◌, inl, inr, ℕ, List, [], ◌∷◌, ◌++◌, length, take, Bool, true, Option, Some, None, refl, sym, ◌∙◌, subst}
use Rattle.amqp_sasl_bodies.specs.declared.sasl_body.SaslBody.{SaslBody}
use Rattle.amqp_engine.specs.Sentence.{bytes_of_all}
use Rattle.amqp_wire.specs.Events.{LinkEvent, read_of}
use Rattle.sasl_exchange.specs.declared.error.NegotiationError.{NegotiationError}
use Rattle.sasl_exchange.specs.declared.error.NegotiationError.TheVariants.{Memory, ProtocolHeaderMismatch, NotImplemented, SaslError, ScramError, Io, DecodeError, IllegalState, FramingError}
use Rattle.sasl_exchange.specs.declared.exchange.Turn.TheVariants.{Pass}
use Rattle.sasl_exchange.specs.declared.profile.SaslProfile.{SaslProfile}
use Rattle.sasl_scram.specs.declared.error.ScramErrorKind.TheVariants.{TextNotAllowed}
use Rattle.sasl_gate.specs.Negotiation.{HeaderCause, IsHeard, IsOverlong, at_link, at_header, at_frame, by_body, too_long}
use Rattle.amqp_opening.specs.declared.acceptor.AcceptSasl.{AcceptSasl}
use Rattle.amqp_opening.specs.declared.authentication.Authentication.{Authentication}
use Rattle.amqp_opening.specs.declared.authentication.Authentication.TheVariants as exchange
use Rattle.amqp_opening.specs.declared.authentication.SaslCall.{SaslCall}
use Rattle.amqp_opening.specs.declared.authentication.SaslCall.TheVariants as layer
use Rattle.amqp_opening.specs.Authentication.{MadeFor, HasAllowedTexts, holds_by, owes_by, peer_mechanism, turn_by}
use Rattle.amqp_opening.specs.Opening.{HasEnding, HasEndedSasl, IsPlainCause, IsSaslCause, IsSaslCauseAfter, at_amqp_header, at_plain_header, in_negotiation}
use Rattle.amqp_opening.specs.Opening.{at_link as at_plain_link}
use Rattle.amqp_pairs.specs.Streams.{IsSaid}
use Rattle.amqp_peer.specs.amqp_words.declared.call.Call.{Call}
use Rattle.amqp_peer.specs.amqp_words.declared.call.Call.TheVariants.{Open, Accept, Close}
use Rattle.amqp_peer.specs.declared.peer.PeerKind.{PeerKind}
use Rattle.amqp_peer.specs.declared.peer.PeerKind.TheVariants.{Client, Listener}
use Rattle.amqp_peer.specs.Causes.{MadeIn, IsOpenCause, OpenCauseIn, not_allowed, in_opening}
use Rattle.amqp_peer.specs.History.{Local, made_in, link_in, sent_in, read_in, wrote_in}
use Rattle.amqp_peer.specs.Layers.{HasExchange, HasLayer, layer_in}
use Rattle.amqp_peer.specs.Prepared.{sasl_of}
use Rattle.amqp_ends.specs.Gates.{Faces, IsFairNegotiation, MayHear}
use Rattle.amqp_ends.specs.Quiet.{AreOpposite, BeginsIn, Begins}
use Rattle.amqp_ends.specs.Joined.{IsCalm}
use Rattle.amqp_ends.proofs.GateClient.{client_fair}
use Rattle.amqp_ends.proofs.GateListener.{listener_fair}
use Rattle.amqp_ends.proofs.GateWords.{IsBehind, IsPlainRead, behind_is, ended_behind, link_blameless, none_read, nothing_read, plain_deaf, plain_front, plain_read, said_to}

-- ---- the layers of a client and of a listener

abbrev IsLayerOf : PeerKind → Option SaslCall → Type 0
IsLayerOf Client None = Unit {0}
IsLayerOf Client (Some (layer.Client p host)) = Unit {0}
IsLayerOf Client (Some (layer.Listener a)) = ⊥
IsLayerOf Listener None = Unit {0}
IsLayerOf Listener (Some (layer.Client p host)) = ⊥
IsLayerOf Listener (Some (layer.Listener a)) = Unit {0}

layer_of_call : (kind : PeerKind) (call : Call) → Begins kind call → IsLayerOf kind (sasl_of call)
layer_of_call Client (Open settings host None) b = tt
layer_of_call Client (Open settings host (Some p)) b = tt
layer_of_call Client (Accept settings sasl) b = absurd b
layer_of_call Client (Close error) b = absurd b
layer_of_call Listener (Open settings host sasl) b = absurd b
layer_of_call Listener (Accept settings None) b = tt
layer_of_call Listener (Accept settings (Some a)) b = tt
layer_of_call Listener (Close error) b = absurd b

layer_of : (kind : PeerKind) (calls : List (ℕ × Call)) → BeginsIn kind calls → IsLayerOf kind (layer_in calls)
layer_of Client [] b = tt
layer_of Listener [] b = tt
layer_of kind (call ∷ []) b = layer_of_call kind call.1 b
layer_of kind (call ∷ earlier ∷ calls) b = layer_of kind (earlier ∷ calls) b

-- one layer is a client's and the other a listener's
abbrev AreOppositeLayers : Option SaslCall → Option SaslCall → Type 0
AreOppositeLayers near there = (IsLayerOf Client near × IsLayerOf Listener there) ⊎ (IsLayerOf Listener near × IsLayerOf Client there)

opposite_layers : (near there : List (ℕ × Call)) → AreOpposite near there → AreOppositeLayers (layer_in near) (layer_in there)
opposite_layers near there (inl (a, b)) = inl (layer_of Client near a, layer_of Listener there b)
opposite_layers near there (inr (a, b)) = inr (layer_of Listener near a, layer_of Client there b)

-- ---- the ends of an exchange

-- an end that was given nothing
may_hear : (there : Option SaslCall) (given sent : List SaslBody) → given ≡ [] → MayHear there given sent
may_hear None given sent none = none
may_hear (Some d) given sent none = inl none

module _ (p : SaslProfile) (hostname : Option (List ℕ)) (a : AcceptSasl) (e : NegotiationError) (events : List LinkEvent) (calm : IsCalm events) (given sent given' sent' : List SaslBody)
    (tc al lr tl ac more : List ℕ) (i : IsHeard (read_of events) given) (s : IsSaid (read_of events) tc al sent') (h : IsHeard lr given') (t : IsSaid lr tl ac sent) where
  -- a client faces a listener
  client_at : (x y : Authentication) → MadeFor (layer.Client p hostname) x → MadeFor (layer.Listener a) y
      → holds_by x given sent → holds_by y given' sent' → IsBehind (turn_by y ≡ Pass) al more
      → (c : IsSaslCause peer_mechanism x e events) → IsSaslCauseAfter peer_mechanism x e events given sent c
      → IsFairNegotiation (Some (layer.Client p hostname)) (Some (layer.Listener a)) e
  client_at exchange.Idle y m n held held' b c f = absurd m
  client_at (exchange.Listener x) y m n held held' b c f = absurd m
  client_at (exchange.Client x) exchange.Idle m n held held' b c f = absurd n
  client_at (exchange.Client x) (exchange.Client y) m n held held' b c f = absurd n
  client_at (exchange.Client x) (exchange.Listener y) m n held held' b c f =
      client_fair p hostname a x y m n given sent given' sent' held held' events calm tc al lr tl ac more i s b h t e c f

  -- a listener faces a client
  listener_at : (x y : Authentication) → MadeFor (layer.Listener a) x → MadeFor (layer.Client p hostname) y
      → holds_by x given sent → holds_by y given' sent' → IsBehind (turn_by y ≡ Pass) al more
      → (c : IsSaslCause peer_mechanism x e events) → IsSaslCauseAfter peer_mechanism x e events given sent c
      → IsFairNegotiation (Some (layer.Listener a)) (Some (layer.Client p hostname)) e
  listener_at exchange.Idle y m n held held' b c f = absurd m
  listener_at (exchange.Client x) y m n held held' b c f = absurd m
  listener_at (exchange.Listener x) exchange.Idle m n held held' b c f = absurd n
  listener_at (exchange.Listener x) (exchange.Listener y) m n held held' b c f = absurd n
  listener_at (exchange.Listener x) (exchange.Client y) m n held held' b c f =
      listener_fair p hostname a y x n m given' sent' given sent held' held events calm lr tl ac tc al more i h t s b e c f

module _ (g far : List Local) (calm : IsCalm (link_in g)) (f : Faces g far) (e : NegotiationError) where
  -- ---- an end without a layer

  plain : (there : Option SaslCall) → layer_in (made_in far) ≡ there → IsPlainCause e (link_in g) → IsFairNegotiation None there e
  plain there is (at_plain_link l) = absurd (link_blameless e (link_in g) calm l)
  plain None is (at_plain_header long other what) = absurd (other (plain_front (read_in g) (plain_read g far f.left f.far_tied f.reads is) long))
  plain (Some d) is (at_plain_header long other what) = subst (IsFairNegotiation None (Some d)) (sym what) (inl tt)

  unread : (there : Option SaslCall) → wrote_in far ≡ [] → IsPlainCause e (link_in g) → IsFairNegotiation None there e
  unread there none (at_plain_link l) = absurd (link_blameless e (link_in g) calm l)
  unread there none (at_plain_header long other what) = absurd (none_read (read_in g) f.left long (f.reads ∙ none))

  -- ---- an end with a layer, to whose exchange nothing is said

  module _ (c : SaslCall) (x : Authentication) (m : MadeFor c x) (there : Option SaslCall) (given sent : List SaslBody) (held : holds_by x given sent) (k : IsHeard (read_in g) given) where
    module _ (p : IsPlainRead (read_in g)) (header : (h : List ℕ) → 8 ≤ length (read_in g) → h ≡ take 8 (read_in g) → IsFairNegotiation (Some c) there (ProtocolHeaderMismatch h)) where
      none_given : given ≡ []
      none_given = elim k [ inl none ↦ none | inr (rest, heard) ↦ absurd (plain_deaf (read_in g) rest given p heard) ]

      overlong : (body : SaslBody) → owes_by x body → IsOverlong body → e ≡ FramingError → IsFairNegotiation (Some c) there e
      overlong body o l is = subst (IsFairNegotiation (Some c) there) (sym is) (record {
        x = x;
        made = m;
        given = given;
        sent = sent;
        held = held;
        heard = may_hear there given sent none_given;
        body = body;
        owed = o;
        long = l;
      })

      mismatch : (k : NegotiationError) → HeaderCause k (read_in g) → IsFairNegotiation (Some c) there k
      mismatch (Memory a) r = absurd r
      mismatch (ProtocolHeaderMismatch h) (long, is, other) = header h long is
      mismatch NotImplemented r = absurd r
      mismatch (SaslError code d) r = absurd r
      mismatch (ScramError kind) r = absurd r
      mismatch (Io kind) r = absurd r
      mismatch DecodeError r = absurd r
      mismatch IllegalState r = absurd r
      mismatch FramingError r = absurd r

      unheard : IsSaslCause peer_mechanism x e (link_in g) → IsFairNegotiation (Some c) there e
      unheard (in_negotiation (at_link l)) = absurd (link_blameless e (link_in g) calm l)
      unheard (in_negotiation (at_header r)) = mismatch e r
      unheard (in_negotiation (at_frame read rest is r)) = absurd (plain_deaf (read_in g) rest read p is)
      unheard (in_negotiation (by_body read told rest is r)) = absurd (plain_deaf (read_in g) rest read p is)
      unheard (in_negotiation (too_long body o l is)) = overlong body o l is
      unheard (at_amqp_header read told rest is r turn long other what) = absurd (plain_deaf (read_in g) rest read p is)

  module _ (c : SaslCall) (x : Authentication) (m : MadeFor c x) (cause : IsSaslCause peer_mechanism x e (link_in g)) (n : HasEndedSasl peer_mechanism x e (link_in g) cause) where
    -- the other end has none
    alone : layer_in (made_in far) ≡ None → IsFairNegotiation (Some c) None e
    alone is =
        let p = plain_read g far f.left f.far_tied f.reads is in
        unheard c x m None n.given n.sent n.held n.heard p (λ h long what. (what ∙ plain_front (read_in g) p long, tt)) cause

    -- the other end wrote nothing
    unanswered : (there : Option SaslCall) → wrote_in far ≡ [] → IsFairNegotiation (Some c) there e
    unanswered there none =
        unheard c x m there n.given n.sent n.held n.heard (nothing_read (read_in g) f.left (f.reads ∙ none)) (λ h long what. absurd (none_read (read_in g) f.left long (f.reads ∙ none))) cause

  -- ---- both ends have one

  module _ (x : Authentication) (cause : IsSaslCause peer_mechanism x e (link_in g)) (n : HasEndedSasl peer_mechanism x e (link_in g) cause) where
    -- what the end says, and what it hears
    said : IsSaid (read_in far) (f.far_left ++ n.out) n.after n.sent
    said = said_to (read_in far) (wrote_in g) f.far_left n.out n.after n.sent n.framed (behind_is (turn_by x ≡ Pass) n.after [] (ended_behind (turn_by x ≡ Pass) n.after n.behind)) n.wrote f.far_reads

    hears : (d : SaslCall) (k : HasExchange d far) → IsSaid (read_in g) (f.left ++ k.out) k.after k.sent
    hears d k = said_to (read_in g) (wrote_in far) f.left k.out k.after k.sent k.framed (behind_is (turn_by k.x ≡ Pass) k.after (bytes_of_all (sent_in far)) k.behind) k.wrote f.reads

    both : (c d : SaslCall) → MadeFor c x → (k : HasExchange d far) → AreOppositeLayers (Some c) (Some d)
        → IsFairNegotiation (Some c) (Some d) e
    both (layer.Client p host) (layer.Client q host') m k o = absurd (elim o as (λ _. ⊥) [ inl (a, b) ↦ b | inr (a, b) ↦ a ])
    both (layer.Listener p) (layer.Listener q) m k o = absurd (elim o as (λ _. ⊥) [ inl (a, b) ↦ a | inr (a, b) ↦ b ])
    both (layer.Client p host) (layer.Listener a) m k o =
        client_at p host a e (link_in g) calm n.given n.sent k.given k.sent (f.left ++ k.out) k.after (read_in far) (f.far_left ++ n.out) n.after (bytes_of_all (sent_in far))
        n.heard (hears _ k) k.heard said x k.x m k.made n.held k.held k.behind cause n.about
    both (layer.Listener a) (layer.Client p host) m k o =
        listener_at p host a e (link_in g) calm n.given n.sent k.given k.sent (f.left ++ k.out) k.after (read_in far) (f.far_left ++ n.out) n.after (bytes_of_all (sent_in far))
        n.heard (hears _ k) k.heard said x k.x m k.made n.held k.held k.behind cause n.about

  -- ---- any end

  ending : (c : SaslCall) (layer : Bool) (x : Authentication) → layer ≡ true → HasEnding peer_mechanism layer x e (link_in g) → HasEnding peer_mechanism true x e (link_in g)
  ending c layer x l h = subst (λ (b : Bool). HasEnding peer_mechanism b x e (link_in g)) l h

  ended : (near there : Option SaslCall) → layer_in (made_in far) ≡ there → HasLayer there far → AreOppositeLayers near there → (layer : Bool) (x : Authentication) → MadeIn near layer x
      → HasEnding peer_mechanism layer x e (link_in g) → IsFairNegotiation near there e
  ended None there is k o layer x m h = plain there is (subst (λ (b : Bool). HasEnding peer_mechanism b x e (link_in g)) m h).cause
  ended (Some c) None is k o layer x (l, m) h = let i = ending c layer x l h in alone c x m i.cause i.exchange is
  ended (Some c) (Some d) is (inl k) o layer x (l, m) h = let i = ending c layer x l h in both x i.cause i.exchange c d m k o
  ended (Some c) (Some d) is (inr (n, none)) o layer x (l, m) h = let i = ending c layer x l h in unanswered c x m i.cause i.exchange (Some d) none

  -- whatever the layer is of an end that wrote nothing
  silent : (near there : Option SaslCall) → wrote_in far ≡ [] → (layer : Bool) (x : Authentication) → MadeIn near layer x → HasEnding peer_mechanism layer x e (link_in g) → IsFairNegotiation near there e
  silent None there none layer x m h = unread there none (subst (λ (b : Bool). HasEnding peer_mechanism b x e (link_in g)) m h).cause
  silent (Some c) there none layer x (l, m) h = let i = ending c layer x l h in unanswered c x m i.cause i.exchange there none

  outside : (c : SaslCall) (near there : Option SaslCall) → near ≡ Some c → ¬ HasAllowedTexts c → e ≡ ScramError TextNotAllowed → IsFairNegotiation near there e
  outside c near there is n what =
      subst (λ (z : Option SaslCall). IsFairNegotiation z there e) (sym is) (subst (IsFairNegotiation (Some c) there) (sym what) (inl (refl, n)))

  -- an exchange that has ended so ended fairly
  abbrev EndsFairly : Option SaslCall → Option SaslCall → Type 0
  EndsFairly near there = (layer : Bool) (x : Authentication) → MadeIn near layer x → HasEnding peer_mechanism layer x e (link_in g) → IsFairNegotiation near there e

  by_call : (call : Call) (near there : Option SaslCall) → near ≡ sasl_of call → EndsFairly near there → IsOpenCause call e (link_in g) → IsFairNegotiation near there e
  by_call call near there s k (not_allowed c asked n what) = outside c near there (s ∙ asked) n what
  by_call call near there s k (in_opening layer x m n h) = k layer x (subst (λ (z : Option SaslCall). MadeIn z layer x) (sym s) m) h

  by_calls : (calls : List (ℕ × Call)) (there : Option SaslCall) → EndsFairly (layer_in calls) there → OpenCauseIn calls e (link_in g) → IsFairNegotiation (layer_in calls) there e
  by_calls [] there k c = absurd c
  by_calls (call ∷ []) there k c = by_call call.1 (layer_in (call ∷ [])) there refl k c
  by_calls (call ∷ earlier ∷ calls) there k c = by_calls (earlier ∷ calls) there k c

-- a negotiation between two ends fails for their kinds, mechanisms or accounts, or for a user, a password or a body of the own end
pub negotiation_fair : (g far : List Local) → IsCalm (link_in g) → Faces g far → (e : NegotiationError) → OpenCauseIn (made_in g) e (link_in g)
    → IsFairNegotiation (layer_in (made_in g)) (layer_in (made_in far)) e
negotiation_fair g far calm f e c =
    by_calls g far calm f e (made_in g) (layer_in (made_in far))
    (λ layer x m h. ended g far calm f e (layer_in (made_in g)) (layer_in (made_in far)) refl f.far_layer (opposite_layers (made_in g) (made_in far) f.opposite) layer x m h) c

-- where the other end has written nothing yet, whatever its layer will be
pub silence_fair : (g far : List Local) → IsCalm (link_in g) → Faces g far → (e : NegotiationError) → wrote_in far ≡ [] → (there : Option SaslCall) → OpenCauseIn (made_in g) e (link_in g)
    → IsFairNegotiation (layer_in (made_in g)) there e
silence_fair g far calm f e none there c =
    by_calls g far calm f e (made_in g) there (λ layer x m h. silent g far calm f e (layer_in (made_in g)) there none layer x m h) c

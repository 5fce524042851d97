-- Two ends with one mechanism: each has written its AMQP header, or was refused.
use Rattle.std.proofs.Common.{◌≡◌, ◌⊎◌, ◌<◌, inl, inr, ℕ, List, [], ◌∷◌, ◌++◌, length, Bool, true, Option, Some, None, refl, sym, ap, ◌∙◌, subst, arith, All}
use Rattle.std.proofs.Math.Path.{ap₂}
use Rattle.amqp_sasl_bodies.specs.declared.sasl_body.SaslBody.{SaslBody}
use Rattle.amqp_sasl_bodies.specs.declared.sasl_code.SaslCode.{SaslCode}
use Rattle.amqp_sasl_bodies.specs.declared.sasl_code.SaslCode.TheVariants as sasl
use Rattle.amqp_engine.specs.Sentence.{bytes_of_all}
use Rattle.amqp_wire.specs.Events.{LinkEvent, read_of, wrote_of}
use Rattle.amqp_wire.proofs.Events.{wrote_of-append}
use Rattle.sasl_exchange.specs.declared.error.NegotiationError.{NegotiationError}
use Rattle.sasl_exchange.specs.declared.error.NegotiationError.TheVariants.{Memory, ProtocolHeaderMismatch, NotImplemented, SaslError, ScramError, Io, DecodeError, IllegalState, FramingError}
use Rattle.sasl_exchange.specs.declared.exchange.Turn.TheVariants.{Pass}
use Rattle.sasl_exchange.specs.Exchange.{refused_with}
use Rattle.sasl_scram.specs.declared.error.ScramErrorKind.TheVariants.{TextNotAllowed}
use Rattle.sasl_gate.specs.Frames.{HasSaslFrame, Heard, said}
use Rattle.sasl_gate.specs.Negotiation.{at_link, at_header, at_frame, by_body, too_long}
use Rattle.amqp_opening.specs.declared.authentication.Authentication.{Authentication}
use Rattle.amqp_opening.specs.declared.authentication.Authentication.TheVariants as exchange
use Rattle.amqp_opening.specs.declared.authentication.SaslCall.{SaslCall}
use Rattle.amqp_opening.specs.Authentication.{MadeFor, causes_by, holds_by, peer_mechanism, turn_by}
use Rattle.amqp_opening.specs.Opening.{HasEnding, HasEndedSasl, IsSaslCause, IsSaslCauseAfter, at_amqp_header, in_negotiation}
use Rattle.amqp_pairs.specs.Mechanisms.{Listening}
use Rattle.amqp_pairs.specs.Streams.{IsPart}
use Rattle.amqp_pairs.proofs.Failing.{read_first}
use Rattle.amqp_pairs.proofs.Streams.{all_taken}
use Rattle.amqp_peer.specs.amqp_words.declared.call.Call.{Call}
use Rattle.amqp_peer.specs.amqp_words.declared.open_error.OpenError.{OpenError}
use Rattle.amqp_peer.specs.amqp_words.declared.open_error.OpenError.TheVariants as failed
use Rattle.amqp_peer.specs.amqp_words.declared.reply.Reply.TheVariants as reply
use Rattle.amqp_peer.specs.Causes.{AllCaused, HasHeader, MadeIn, OpenCauseIn, IsOpenCause, not_allowed, in_opening}
use Rattle.amqp_peer.specs.History.{Local, Replied, made_in, link_in, sent_in, replied_in, read_in, wrote_in}
use Rattle.amqp_peer.specs.Layers.{layer_in, HasExchange, IsAwaiting, for_layer, for_body, for_header, IsResting, IsRestingWith}
use Rattle.amqp_peer.specs.Prepared.{sasl_of}
use Rattle.amqp_peer.specs.Replies.{pending, open_failed, IsOpenRefusal}
use Rattle.amqp_peer.proofs.Histories.{link_in-append}
use Rattle.amqp_ends.specs.Gates.{BothAsk, IsFairNegotiation}
use Rattle.amqp_ends.specs.Honest.{IsHonest}
use Rattle.amqp_ends.specs.Joined.{IsCalm}
use Rattle.amqp_ends.specs.Passes.{AreComparable, AreCompared, FacedOnce, FacedWhenTold, IsRefused, IsThroughOrRefused}
use Rattle.amqp_ends.specs.Standing.{Stands, uncalled, in_headers, behind, parted, refused, broken, vast}
use Rattle.amqp_ends.specs.Wants.{AreStill}
use Rattle.amqp_ends.proofs.Agreed.{has_mechanism}
use Rattle.amqp_ends.proofs.GateFair.{negotiation_fair, silence_fair}
use Rattle.amqp_ends.proofs.GateWords.{behind_is, said_to}
use Rattle.amqp_ends.proofs.Headers.{broken_header, header_unread}
use Rattle.amqp_ends.proofs.Hearing.{read_before}
use Rattle.amqp_ends.proofs.Honesty.{calm_before, opening_honest}
use Rattle.amqp_ends.proofs.Passes.{LastReply, carries, caused_called, last_reply, refused_honestly, layer_then, read_all, still_turned, vast_turned}
use Rattle.amqp_ends.proofs.Quiet.{headers_do_not_wait, opposed, said_enough}
use Rattle.amqp_ends.proofs.QuietEnds.{AreOpposed, AreOpposedEnds, opposed_ends}
use Rattle.amqp_ends.proofs.QuietLayers.{part_of}
use Rattle.amqp_ends.proofs.ToldBodies.{AllUntold, DoesNotRefuse, TellsRefusal, client_reads, client_untold, listener_tells, listener_untold, tells_more, untold_not}
use Rattle.amqp_ends.proofs.Wants.{IsTurnedDown, header_out, meets, meets_back, quiet, refused_called, was_called}

-- ---- the exchange of an end that was refused

-- its negotiation failed by what it read and sent
record FailedBy (x : Authentication) (e : NegotiationError) (events : List LinkEvent) (sent : List SaslBody) : Type 0 where
  pub read : List SaslBody
  pub rest : List ℕ
  pub heard : Heard (read_of events) read rest
  pub cause : causes_by x e read sent

module _ (x : Authentication) (code : SaslCode) (payload : Option (List ℕ)) (events : List LinkEvent) (given sent : List SaslBody) where
  failed_by : (c : IsSaslCause peer_mechanism x (SaslError code payload) events) → IsSaslCauseAfter peer_mechanism x (SaslError code payload) events given sent c
      → FailedBy x (SaslError code payload) events sent
  failed_by (in_negotiation (at_link l)) a = absurd l
  failed_by (in_negotiation (at_header r)) a = absurd r
  failed_by (in_negotiation (at_frame read rest is r)) a = absurd r
  failed_by (in_negotiation (by_body read told rest is r)) a =
      record { read = read; rest = rest; heard = is; cause = subst (λ (u : List SaslBody). causes_by x (SaslError code payload) read u) a.0 r }
  failed_by (in_negotiation (too_long body o l is)) a = absurd (cc is)
  failed_by (at_amqp_header read told rest is r turn long other what) a = absurd (cc what)

-- ---- an end that waits beside it

-- it has no whole frame left to take
record TakesAll (h : List Local) (given : List SaslBody) : Type 0 where
  pub rest : List ℕ
  pub heard : Heard (read_in h) given rest
  pub none : IsPart rest ⊎ (length rest < 8)

takes_all : (c : SaslCall) (h : List Local) (k : HasExchange c h) → IsAwaiting c h k → (length (read_in h) < 8) ⊎ TakesAll h k.given
takes_all c h k (for_layer u v a few) = inl few
takes_all c h k (for_body rest t a heard front) = inr (record { rest = rest; heard = heard; none = inl (part_of rest front) })
takes_all c h k (for_header rest t a heard few) = inr (record { rest = rest; heard = heard; none = inr few })

-- it has sent nothing, waits for a body, or has passed
waits_so : (c : SaslCall) (h : List Local) (k : HasExchange c h) → IsAwaiting c h k → (k.sent ≡ []) ⊎ DoesNotRefuse (turn_by k.x)
waits_so c h k (for_layer u v a few) = inl v
waits_so c h k (for_body rest t a heard front) = inr (inl t)
waits_so c h k (for_header rest t a heard few) = inr (inr t)

-- a listener that waits told no outcome that refuses
none_told : (y : Listening) (given sent : List SaslBody) → holds_by (exchange.Listener y) given sent → (sent ≡ []) ⊎ DoesNotRefuse (turn_by (exchange.Listener y)) → AllUntold sent
none_told y given sent held (inl none) = subst AllUntold (sym none) tt
none_told y given sent held (inr w) = listener_untold y given sent held w

module _ (c : SaslCall) (h : List Local) (k : HasExchange c h) (awaits : IsAwaiting c h k) (code : SaslCode) (payload : Option (List ℕ)) (events : List LinkEvent) (sent : List SaslBody)
    (framed : All HasSaslFrame sent) (out : wrote_of events ≡ said sent) (after coming : List ℕ) (reads : read_in h ≡ wrote_of events ++ after) (far_reads : read_of events ++ coming ≡ wrote_in h) where
  reads_said : read_in h ≡ said sent ++ after
  reads_said = reads ∙ ap (λ (u : List ℕ). u ++ after) out

  few_not : length (read_in h) < 8 → ⊥
  few_not few = omega (arith, few, ap length reads_said, said_enough sent after)

  -- the other end told it an outcome that refuses, which it has read
  told_not : TellsRefusal sent → AllUntold k.given → ⊥
  told_not t u = elim (takes_all c h k awaits) [
    | inl few ↦ few_not few
    | inr all ↦
        let m = all_taken (read_in h) after all.rest k.given sent framed all.none all.heard reads_said in
        untold_not k.given u (tells_more sent m.0 k.given m.1 t)
  ]

  -- the other end read an outcome that refuses, which this one did not send
  read_not : (bodies : List SaslBody) (rest : List ℕ) → Heard (read_of events) bodies rest → TellsRefusal bodies → AllUntold k.sent → ⊥
  read_not bodies rest f t u =
      let m = read_first (read_of events) rest (coming ++ k.out) k.after bodies k.sent f
      (said_to (read_of events) (wrote_in h) coming k.out k.after k.sent k.framed (behind_is (turn_by k.x ≡ Pass) k.after (bytes_of_all (sent_in h)) k.behind) k.wrote far_reads) in
      untold_not k.sent u (tells_more bodies m.0 k.sent m.1 t)

  beside_not : (x y : Authentication) → AreOpposedEnds x y → holds_by x k.given k.sent → (k.sent ≡ []) ⊎ DoesNotRefuse (turn_by x) → FailedBy y (SaslError code payload) events sent → ⊥
  beside_not exchange.Idle y o held w f = absurd o
  beside_not (exchange.Client x) exchange.Idle o held w f = absurd o
  beside_not (exchange.Client x) (exchange.Client y) o held w f = absurd o
  beside_not (exchange.Client x) (exchange.Listener y) o held w f = told_not (listener_tells y code payload f.read sent f.cause) (client_untold x k.given k.sent held)
  beside_not (exchange.Listener x) exchange.Idle o held w f = absurd o
  beside_not (exchange.Listener x) (exchange.Client y) o held w f =
      read_not f.read f.rest f.heard (client_reads y code payload f.read sent f.cause) (none_told x k.given k.sent held w)
  beside_not (exchange.Listener x) (exchange.Listener y) o held w f = absurd o

module _ (h far : List Local) (c d : SaslCall) (r : IsRestingWith c h) (o : AreOpposed c d) (reads : read_in h ≡ wrote_in far) (far_left : List ℕ) (far_reads : read_in far ++ far_left ≡ wrote_in h) where
  -- no end waits in the exchange of headers for another that was refused
  ended_not : (code : SaslCode) (payload : Option (List ℕ)) (later g : List Local) → far ≡ later ++ g → (y : Authentication) → MadeFor d y
      → HasEnding peer_mechanism true y (SaslError code payload) (link_in g) → ⊥
  ended_not code payload later g split y m i =
      let n : HasEndedSasl peer_mechanism y (SaslError code payload) (link_in g) i.cause = i.exchange in
      beside_not c h r.exchange r.awaits code payload (link_in g) n.sent n.framed n.told (wrote_in later) (read_in later ++ far_left)
      (reads ∙ ap (λ (u : List Local). wrote_in u) split ∙ ap wrote_of (link_in-append later g) ∙ wrote_of-append (link_in later) (link_in g))
      (read_before later g far_left (wrote_in h) (subst (λ (u : List Local). read_in u ++ far_left ≡ wrote_in h) split far_reads))
      r.exchange.x y (opposed_ends c d r.exchange.x y o r.exchange.made m) r.exchange.held (waits_so c h r.exchange r.awaits)
      (failed_by y code payload (link_in g) n.given n.sent i.cause n.about)

-- an open or accept with this layer that failed, and not for its user or password, began the exchange that ended so
by_call : (d : SaslCall) (call : Call) (e : NegotiationError) (events : List LinkEvent) → sasl_of call ≡ Some d → (e ≡ ScramError TextNotAllowed → ⊥)
    → ((y : Authentication) → MadeFor d y → HasEnding peer_mechanism true y e events → ⊥) → IsOpenCause call e events → ⊥
by_call d call e events is t k (not_allowed c asked n what) = t what
by_call d call e events is t k (in_opening layer y m n i) =
    let made : MadeIn (Some d) layer y = subst (λ (z : Option SaslCall). MadeIn z layer y) is m in
    k y made.1 (subst (λ (b : Bool). HasEnding peer_mechanism b y e events) made.0 i)

by_calls : (d : SaslCall) (calls : List (ℕ × Call)) (e : NegotiationError) (events : List LinkEvent) → layer_in calls ≡ Some d → (e ≡ ScramError TextNotAllowed → ⊥)
    → ((y : Authentication) → MadeFor d y → HasEnding peer_mechanism true y e events → ⊥) → OpenCauseIn calls e events → ⊥
by_calls d [] e events is t k c = c
by_calls d (call ∷ []) e events is t k c = by_call d call.1 e events is t k c
by_calls d (call ∷ earlier ∷ calls) e events is t k c = by_calls d (earlier ∷ calls) e events is t k c

-- ---- the reply of an end that was refused

refused_last : (h : List Local) → AllCaused h → (name : ℕ) (e : OpenError) → IsOpenRefusal name e (replied_in h) → LastReply h (open_failed name e)
refused_last h c name e (inl all) = last_reply h (pending name ∷ []) (open_failed name e) c all.0
refused_last h c name e (inr all) = last_reply h [] (open_failed name e) c all.0

comparable_fair : (c d : SaslCall) → AreComparable c d → (e : NegotiationError) → IsFairNegotiation (Some c) (Some d) e → e ≡ refused_with sasl.Auth
comparable_fair c d a (Memory b) f = absurd f
comparable_fair c d a (ProtocolHeaderMismatch h) (is, alone) = absurd alone
comparable_fair c d a NotImplemented (inl alone) = absurd alone
comparable_fair c d a NotImplemented (inr lacks) = absurd (has_mechanism c d a.same_mechanism lacks)
comparable_fair c d a (SaslError code payload) (k, q, other) = ap₂ (λ (i : SaslCode) (z : Option (List ℕ)). SaslError i z) k q
comparable_fair c d a (ScramError kind) (inl (k, outside)) = absurd (outside a.allowed)
comparable_fair c d a (ScramError kind) (inr (k, collision)) = absurd (a.apart collision)
comparable_fair c d a (Io kind) f = absurd f
comparable_fair c d a DecodeError f = absurd f
comparable_fair c d a IllegalState f = absurd f
comparable_fair c d a FramingError f = absurd (a.within f)

compared_fair : (near far : Option SaslCall) → BothAsk near far AreComparable → (e : NegotiationError) → IsFairNegotiation near far e → e ≡ refused_with sasl.Auth
compared_fair None far b e f = absurd b
compared_fair (Some c) None b e f = absurd b
compared_fair (Some c) (Some d) b e f = comparable_fair c d b e f

module _ (h far : List Local) (left far_left : List ℕ) (a : AreStill h far left far_left) (b : BothAsk (layer_in (made_in h)) (layer_in (made_in far)) AreComparable) (faced : FacedWhenTold h far) where
  -- its negotiation fails by an outcome alone
  told_so : (later g : List Local) (name : ℕ) (e : NegotiationError) → h ≡ later ++ Replied (open_failed name (failed.Negotiation e)) ∷ g → OpenCauseIn (made_in g) e (link_in g)
      → e ≡ refused_with sasl.Auth
  told_so later g name e split c =
      let told : Local = Replied (open_failed name (failed.Negotiation e)) in
      let k : FacedOnce g far = faced later g name e split in
      let calm : IsCalm (link_in g) = calm_before later (told ∷ g) (subst (λ (u : List Local). IsCalm (link_in u)) split a.calm) in
      let near : layer_in (made_in h) ≡ layer_in (made_in g) = layer_then h later (told ∷ g) split (caused_called (made_in g) e (link_in g) c) in
      let asks : BothAsk (layer_in (made_in g)) (layer_in (made_in far)) AreComparable = subst (λ (z : Option SaslCall). BothAsk z (layer_in (made_in far)) AreComparable) near b in
      elim k.begun as (λ _. e ≡ refused_with sasl.Auth) [
        | inl called ↦ compared_fair (layer_in (made_in g)) (layer_in (made_in k.before))
            (subst (λ (z : Option SaslCall). BothAsk (layer_in (made_in g)) z AreComparable) (layer_then far k.since k.before k.split called) asks)
            e (negotiation_fair g k.before calm k.faces e c)
        | inr none ↦ compared_fair (layer_in (made_in g)) (layer_in (made_in far)) asks e (silence_fair g k.before calm k.faces e none (layer_in (made_in far)) c)
      ]

  opens : (name : ℕ) (e : OpenError) → LastReply h (open_failed name e) → IsHonest (reply.OpenError e) → HasHeader h ⊎ (e ≡ failed.Negotiation (refused_with sasl.Auth))
  opens name (failed.Negotiation e) l k = inr (ap failed.Negotiation (told_so l.later l.before name e l.split l.caused))
  opens name (failed.TransportError e) l k = inl (carries h far left far_left a l.later l.before (open_failed name (failed.TransportError e)) e l.split k l.caused)
  opens name failed.RemoteClosed l k = absurd k
  opens name (failed.RemoteClosedWithError e) l k = absurd k
  opens name failed.IllegalState l k = absurd k

  turned_so : IsTurnedDown h → IsThroughOrRefused h
  turned_so (none, (name, e, r)) =
      let l = refused_last h a.answered.caused name e r in
      elim (opens name e l (refused_honestly h far left far_left a name e l)) [
        | inl t ↦ inl t
        | inr is ↦ inr (name, subst (λ (z : OpenError). IsOpenRefusal name z (replied_in h)) is r)
      ]

-- ---- two ends

compared_turned : (near far : Option SaslCall) → BothAsk near far AreComparable → BothAsk far near AreComparable
compared_turned None far b = absurd b
compared_turned (Some c) None b = absurd b
compared_turned (Some c) (Some d) b = record {
  same_mechanism = sym b.same_mechanism;
  allowed = b.far_allowed;
  far_allowed = b.allowed;
  within = b.far_within;
  far_within = b.within;
  apart = b.far_apart;
  far_apart = b.apart;
}

compared_still : (h far : List Local) (left far_left : List ℕ) → AreCompared h far left far_left → AreCompared far h far_left left
compared_still h far left far_left a = record {
  still = still_turned h far left far_left a.still;
  called = a.far_called;
  far_called = a.called;
  compared = compared_turned (layer_in (made_in h)) (layer_in (made_in far)) a.compared;
  faced = a.far_faced;
  far_faced = a.faced;
  few = λ v. a.few (vast_turned h far v);
}

-- it has written its AMQP header, was refused, or waits in the exchange of headers
stands_told : (h far : List Local) (left far_left : List ℕ) → AreCompared h far left far_left → Stands h left → IsThroughOrRefused h ⊎ (IsResting (layer_in (made_in h)) h × (left ≡ []))
stands_told h far left far_left a (uncalled m w) = absurd (was_called (made_in h) a.called m)
stands_told h far left far_left a (in_headers v r l) = inr (r, l)
stands_told h far left far_left a (behind r c l) = inl (inl (header_out h r.out))
stands_told h far left far_left a (parted c o w) = inl (inl (header_out h o))
stands_told h far left far_left a (refused s w) = inl (turned_so h far left far_left a.still a.compared a.faced (refused_called h a.still.answered a.called s w))
stands_told h far left far_left a (broken b) = inl (inl (broken_header h far (meets h far left far_left a.still) (meets_back h far left far_left a.still) b))
stands_told h far left far_left a (vast v) = absurd (a.few (inl v))

-- none waits there for one that was refused
rests_in : (near there : Option SaslCall) (h far : List Local) (left far_left : List ℕ) → AreStill h far left far_left → left ≡ [] → layer_in (made_in h) ≡ near → layer_in (made_in far) ≡ there
    → BothAsk near there AreComparable → IsResting near h → (name : ℕ) → LastReply far (open_failed name (failed.Negotiation (refused_with sasl.Auth))) → ⊥
rests_in None there h far left far_left a l e f b r name t = absurd b
rests_in (Some c) None h far left far_left a l e f b r name t = absurd b
rests_in (Some c) (Some d) h far left far_left a l e f b r name t =
    let told : Local = Replied (open_failed name (failed.Negotiation (refused_with sasl.Auth))) in
    let o : AreOpposed c d × AreOpposed d c = opposed (made_in h) (made_in far) c d a.kinds e f in
    let is : layer_in (made_in t.before) ≡ Some d =
    sym (layer_then far t.later (told ∷ t.before) t.split (caused_called (made_in t.before) (refused_with sasl.Auth) (link_in t.before) t.caused)) ∙ f in
    by_calls d (made_in t.before) (refused_with sasl.Auth) (link_in t.before) is (λ s. cc s)
    (ended_not h far c d r o.0 (read_all h far left far_left a l) far_left a.far_reads sasl.Auth None t.later (told ∷ t.before) t.split) t.caused

rests_not : (h far : List Local) (left far_left : List ℕ) → AreCompared h far left far_left → IsResting (layer_in (made_in h)) h → left ≡ [] → IsRefused far → ⊥
rests_not h far left far_left a r l (name, refusal) =
    rests_in (layer_in (made_in h)) (layer_in (made_in far)) h far left far_left a.still l refl refl a.compared r name
    (refused_last far a.still.far_answered.caused name (failed.Negotiation (refused_with sasl.Auth)) refusal)

told_of : (h far : List Local) (left far_left : List ℕ) → AreCompared h far left far_left → IsThroughOrRefused h ⊎ (IsResting (layer_in (made_in h)) h × (left ≡ []))
    → IsThroughOrRefused far ⊎ (IsResting (layer_in (made_in far)) far × (far_left ≡ [])) → IsThroughOrRefused h
told_of h far left far_left a (inl t) s = t
told_of h far left far_left a (inr (r, l)) (inl (inl t)) = absurd (header_unread h far (read_all h far left far_left a.still l) r t)
told_of h far left far_left a (inr (r, l)) (inl (inr t)) = absurd (rests_not h far left far_left a r l t)
told_of h far left far_left a (inr (r, l)) (inr (s, f)) = absurd (headers_do_not_wait h far (quiet h far left far_left a.still l f) r (inl s))

told : (h far : List Local) (left far_left : List ℕ) → AreCompared h far left far_left → IsThroughOrRefused h
told h far left far_left a =
    let b = compared_still h far left far_left a in
    told_of h far left far_left a (stands_told h far left far_left a a.still.stands) (stands_told far h far_left left b b.still.stands)

pub both_told : (h far : List Local) (left far_left : List ℕ) → AreCompared h far left far_left → IsThroughOrRefused h × IsThroughOrRefused far
both_told h far left far_left a = (told h far left far_left a, told far h far_left left (compared_still h far left far_left a))

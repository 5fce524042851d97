-- A call, a poll or a reply alone changes nothing of what an end holds.
use Rattle.std.proofs.Common.{◌≡◌, inl, inr, ℕ, List, [], ◌∷◌, ◌++◌, Bool, Option, Some, None, refl, sym, ap, ◌∙◌, subst}
use Rattle.std.proofs.lemmas.List.{append-nil, append_cancel_left}
use Rattle.amqp_wire.specs.Events.{LinkEvent, read_of, wrote_of}
use Rattle.amqp_transport.specs.declared.frames.Frame.{Frame}
use Rattle.amqp_transport.specs.declared.transport.Error.{Error as TransportFault}
use Rattle.amqp_engine.specs.declared.error.Error.{Error as ConnectionFault}
use Rattle.amqp_engine.specs.declared.error.Error.TheVariants as connection
use Rattle.amqp_engine.specs.Sentence.{Has as EngineHas}
use Rattle.amqp_engine.specs.State.{State}
use Rattle.amqp_opening.specs.declared.authentication.Authentication.{Authentication}
use Rattle.amqp_opening.specs.declared.opening.Stage.{Stage}
use Rattle.amqp_opening.specs.declared.opening.Stage.TheVariants as stage
use Rattle.amqp_opening.specs.Authentication.{peer_mechanism}
use Rattle.amqp_opening.specs.Opening.{Opened, HasOpening}
use Rattle.amqp_words.specs.declared.call.Call.{Call}
use Rattle.amqp_words.specs.declared.reply.NamedReply.{NamedReply}
use Rattle.amqp_peer.specs.declared.held.Held.{Held}
use Rattle.amqp_peer.specs.declared.held.Held.TheVariants.{Early, Late, Unopened, Moving}
use Rattle.amqp_peer.specs.declared.peer.Progress.{Progress}
use Rattle.amqp_peer.specs.declared.peer.Progress.TheVariants as progress
use Rattle.amqp_peer.specs.declared.prepared.Prepared.{Prepared}
use Rattle.amqp_engine.specs.Closers.{Closer, IsCloser}
use Rattle.amqp_peer.specs.Closers.{closer_in}
use Rattle.amqp_peer.specs.Beats.{beat_in, AllBeats}
use Rattle.amqp_peer.specs.Causes.{has_layer, IsLayerWritten, IsTail, IsQueued, BeginsWithOpen, StartsWithin, IsOther, IsRefusedAs, IsBrokenBy, AllCaused, EndsExchange}
use Rattle.amqp_peer.specs.Gated.{IsGatedIn}
use Rattle.amqp_peer.specs.History.{Local, Made, Polled, Replied, made_in, link_in, given_in, sent_in, since_in, Once}
use Rattle.amqp_peer.specs.Peering.{Peering, Has, HasIn, HasCalled, IsHeld, IsHeldAt, IsExchanging, IsRunning, IsUnmadeAt, IsUnmade, IsFaultIn, IsMadeIn, EarlyFault, LateFault, IsBrokenIn, IsBrokenHeld, HasNoFrames}
use Rattle.amqp_peer.specs.Prepared.{sasl_of}
use Rattle.amqp_peer.proofs.Faulty.{broken_more}
use Rattle.amqp_peer.proofs.Histories.{given_in-append, sent_in-append, once_more}
use Rattle.amqp_peer.proofs.Layers.{layer_same}
use Rattle.amqp_peer.proofs.Refusals.{silent_polled}
use Rattle.amqp_peer.proofs.Said.{IsAdded, has_said, said_added}

-- the same passed at the link, the same frames were read and queued
pub record Quiet (h h' : List Local) : Type 0 where
  pub calls : IsAdded (made_in h) (made_in h')
  pub link : link_in h' ≡ link_in h
  pub heard : given_in h' ≡ given_in h
  pub said : sent_in h' ≡ sent_in h
  pub since : since_in h' ≡ since_in h
  pub beat : beat_in h' ≡ beat_in h
  pub beats : AllBeats h → AllBeats h'
  pub closer : closer_in h' ≡ closer_in h
  pub es : List Local
  pub split : h' ≡ es ++ h

pub quiet_replied : (r : NamedReply) (h : List Local) → Quiet h (Replied r ∷ h)
quiet_replied r h = record { calls = inl refl; link = refl; heard = refl; said = refl; since = refl; beat = refl; beats = λ a. a; closer = refl; es = Replied r ∷ []; split = refl }

pub quiet_made : (at name : ℕ) (call : Call) (first : ℕ × Call) (h : List Local) → made_in h ≡ first ∷ [] → Quiet h (Made at name call ∷ h)
quiet_made at name call first h e =
    record { calls = inr (first, (name, call), e, ap (λ (u : List (ℕ × Call)). (name, call) ∷ u) e); link = refl; heard = refl; said = refl; since = refl; beat = refl; beats = λ a. a; closer = refl; es = Made at name call ∷ []; split = refl }

pub quiet_polled : (at : ℕ) (h : List Local) → Quiet h (Polled at ∷ h)
quiet_polled at h = record { calls = inl refl; link = refl; heard = refl; said = refl; since = refl; beat = refl; beats = λ a. a; closer = refl; es = Polled at ∷ []; split = refl }

-- the first call stays
added_layer : (calls calls' : List (ℕ × Call)) → IsAdded calls calls' → has_layer calls' ≡ has_layer calls
added_layer calls calls' (inl e) = ap has_layer e
added_layer calls calls' (inr (first, last, e, e')) = ap has_layer e' ∙ sym (ap has_layer e)

pub layer_quiet : (h h' : List Local) → Quiet h h' → has_layer (made_in h') ≡ has_layer (made_in h)
layer_quiet h h' q = added_layer (made_in h) (made_in h') q.calls

pub queued_quiet : (h h' : List Local) → Quiet h h' → IsQueued h → IsQueued h'
queued_quiet h h' q u =
    record {
      head = u.head;
      tail = u.tail;
      out = u.out;
      wrote = ap (λ (es : List LinkEvent). wrote_of es ++ u.out) q.link ∙ u.wrote;
      layer = subst (λ (b : Bool). IsLayerWritten b u.head) (sym (layer_quiet h h' q)) u.layer;
      talk = subst (λ (xs : List Frame). IsTail xs u.tail) (sym q.said) u.talk;
    }

once_quiet : (P : List Local → Type 0) (h h' : List Local) → Quiet h h' → Once P h → Once P h'
once_quiet P h h' q o = subst (λ (u : List Local). Once P u) (sym q.split) (once_more P q.es h o)

pub running_quiet : {L : Type 0} (call : Call) (s : State L) (h h' : List Local) → Quiet h h' → IsRunning call s h → IsRunning call s h'
running_quiet call s h h' q k =
    record {
      layer = k.layer;
      x = k.x;
      made = k.made;
      asked = layer_quiet h h' q ∙ k.asked;
      p = k.p;
      prepared = k.prepared;
      before = k.before;
      since = k.since;
      passed = q.link ∙ k.passed;
      arrived = k.arrived;
      unwritten = k.unwritten;
      intro = k.intro;
      runs = subst (λ (xs : List Frame). EngineHas k.unwritten k.arrived s (record { events = k.since; given = given_in h'; sent = xs })) (sym q.said)
          (subst (λ (xs : List Frame). EngineHas k.unwritten k.arrived s (record { events = k.since; given = xs; sent = sent_in h })) (sym q.heard) k.runs);
      began = once_quiet EndsExchange h h' q k.began;
      opens = subst BeginsWithOpen (sym q.said) k.opens;
      starts = subst (StartsWithin 512) (sym q.said) k.starts;
      says = has_said h' (made_in h') (given_in h) (sent_in h) refl q.heard q.said (said_added (made_in h) (made_in h') (given_in h) (sent_in h) q.calls k.says);
      idle = k.idle;
      own = k.own;
      start = k.start ∙ sym q.since;
      beat = k.beat ∙ sym q.beat;
      beats = q.beats k.beats;
      closer = subst (λ (c : Closer). IsCloser s.phase s.reason c) (sym q.closer) k.closer;
      calm = k.calm;
    }

exchanging_quiet : {L : Type 0} (call : Call) (o : Opened L Authentication) (p : Option Prepared) (h h' : List Local) → Quiet h h' → IsExchanging call o p h → IsExchanging call o p h'
exchanging_quiet call o p h h' q k =
    record { made = k.made; asked = layer_quiet h h' q ∙ k.asked; prepared = k.prepared; known = k.known; opening = subst (λ (es : List LinkEvent). HasOpening peer_mechanism o es) (sym q.link) k.opening; given = q.heard ∙ k.given; sent = q.said ∙ k.sent }

written_quiet : (call : Call) (h h' : List Local) → Quiet h h' → HasNoFrames call h → HasNoFrames call h'
written_quiet call h h' q w =
    record { written = subst (λ (es : List LinkEvent). IsGatedIn (sasl_of call) (wrote_of es) (read_of es)) (sym q.link) w.written; exchange = layer_same (sasl_of call) h h' q.link q.said w.exchange; queued = queued_quiet h h' q w.queued; given = q.heard ∙ w.given; sent = q.said ∙ w.sent }

early_quiet : {L : Type 0} (s : Stage) (call : Call) (o : Opened L Authentication) (p : Option Prepared) (h h' : List Local) → Quiet h h' → IsHeldAt s call o p h → IsHeldAt s call o p h'
early_quiet stage.Idle call o p h h' q k = absurd k
early_quiet stage.Negotiating call o p h h' q k = exchanging_quiet call o p h h' q k
early_quiet stage.Header call o p h h' q k = exchanging_quiet call o p h h' q k
early_quiet stage.Exchanged call o p h h' q k = exchanging_quiet call o p h h' q k
early_quiet stage.Ended call o p h h' q k = written_quiet call h h' q k

held_quiet : {L : Type 0} (call : Call) (held : Held L) (h h' : List Local) → Quiet h h' → IsHeld call held h → IsHeld call held h'
held_quiet call (Early o p) h h' q k = early_quiet o.stage call o p h h' q k
held_quiet call (Late s) h h' q k = running_quiet call s h h' q k
held_quiet call (Unopened c) h h' q k = written_quiet call h h' q k
held_quiet call Moving h h' q k = absurd k

pub called_quiet : {L : Type 0} (call : Call) (held : Held L) (h h' : List Local) → Quiet h h' → AllCaused h' → HasCalled call held h → HasCalled call held h'
called_quiet call held h h' q c k = record { holds = held_quiet call held h h' q k.holds; caused = c }

-- no frame was read or queued
no_more : (xs ys : List Frame) → xs ++ ys ≡ xs → ys ≡ []
no_more xs ys e = append_cancel_left xs ys [] (e ∙ sym (append-nil xs))

broken_by_quiet : (e : TransportFault) (h h' : List Local) → Quiet h h' → IsBrokenBy e h → IsBrokenBy e h'
broken_by_quiet e h h' q b =
    subst (λ (u : List Local). IsBrokenBy e u) (sym q.split)
    (broken_more e q.es h (no_more (given_in h) (given_in q.es) (sym (given_in-append q.es h) ∙ ap given_in (sym q.split) ∙ q.heard)) (no_more (sent_in h) (sent_in q.es) (sym (sent_in-append q.es h) ∙ ap sent_in (sym q.split) ∙ q.said)) b)

pub broken_quiet : {L : Type 0} (s : State L) (h h' : List Local) → Quiet h h' → IsBrokenIn s h → IsBrokenIn s h'
broken_quiet s h h' q f z = let b = f z in record { fault = b.fault; how = broken_by_quiet b.fault h h' q b.how }

early_fault_quiet : {L : Type 0} (e : ConnectionFault) (s : State L) (h h' : List Local) → Quiet h h' → EarlyFault e s h → EarlyFault e s h'
early_fault_quiet (connection.Memory a) s h h' q u = u
early_fault_quiet (connection.TransportError t) s h h' q u = (u.0, broken_by_quiet t h h' q u.1)
early_fault_quiet connection.IllegalState s h h' q u = once_quiet (λ g. IsOther (given_in g)) h h' q u
early_fault_quiet connection.NotImplemented s h h' q u = u
early_fault_quiet connection.NotFound s h h' q u = u
early_fault_quiet connection.RemoteClosed s h h' q u = u
early_fault_quiet (connection.RemoteClosedWithError x) s h h' q u = u

late_fault_quiet : {L : Type 0} (e : ConnectionFault) (s : State L) (h h' : List Local) → Quiet h h' → LateFault e s h → LateFault e s h'
late_fault_quiet (connection.Memory a) s h h' q u = u
late_fault_quiet (connection.TransportError t) s h h' q u = (u.0, broken_by_quiet t h h' q u.1)
late_fault_quiet connection.IllegalState s h h' q u = once_quiet (λ g. IsRefusedAs connection.IllegalState (given_in g)) h h' q u
late_fault_quiet connection.NotImplemented s h h' q u = once_quiet (λ g. IsRefusedAs connection.NotImplemented (given_in g)) h h' q u
late_fault_quiet connection.NotFound s h h' q u = once_quiet (λ g. IsRefusedAs connection.NotFound (given_in g)) h h' q u
late_fault_quiet connection.RemoteClosed s h h' q u = u
late_fault_quiet (connection.RemoteClosedWithError x) s h h' q u = u

pub fault_quiet : {L : Type 0} (fault : Option ConnectionFault) (s : State L) (h h' : List Local) → Quiet h h' → IsFaultIn fault s h → IsFaultIn fault s h'
fault_quiet None s h h' q f = f
fault_quiet (Some e) s h h' q f = (late_fault_quiet e s h h' q f.0, broken_quiet s h h' q f.1)

unmade_at_quiet : {L : Type 0} (fault : Option ConnectionFault) (s : State L) (h h' : List Local) → Quiet h h' → IsUnmadeAt fault s h → IsUnmadeAt fault s h'
unmade_at_quiet None s h h' q f = record { unheard = λ b. f.unheard (subst BeginsWithOpen q.heard b); kept = λ b. f.kept (subst IsOther q.heard b); sound = f.sound }
unmade_at_quiet (Some e) s h h' q f = (early_fault_quiet e s h h' q f.0, (λ z b. f.1.0 z (subst BeginsWithOpen q.heard b), broken_quiet s h h' q f.1.1))

pub unmade_quiet : {L : Type 0} (fault : Option ConnectionFault) (held : Held L) (h h' : List Local) → Quiet h h' → IsUnmade fault held h → IsUnmade fault held h'
unmade_quiet fault (Early o p) h h' q u = u
unmade_quiet fault (Late s) h h' q u = unmade_at_quiet fault s h h' q u
unmade_quiet fault (Unopened c) h h' q u = u
unmade_quiet fault Moving h h' q u = u

pub made_quiet : {L : Type 0} (fault : Option ConnectionFault) (held : Held L) (h h' : List Local) → Quiet h h' → IsMadeIn fault held h → IsMadeIn fault held h'
made_quiet fault (Early o p) h h' q u = u
made_quiet fault (Late s) h h' q u = (subst BeginsWithOpen (sym q.heard) u.0, fault_quiet fault s h h' q u.1)
made_quiet fault (Unopened c) h h' q u = u
made_quiet fault Moving h h' q u = u

broken_held_quiet : {L : Type 0} (held : Held L) (h h' : List Local) → Quiet h h' → IsBrokenHeld held h → IsBrokenHeld held h'
broken_held_quiet (Early o p) h h' q b = tt
broken_held_quiet (Late s) h h' q b = broken_quiet s h h' q b
broken_held_quiet (Unopened c) h h' q b = tt
broken_held_quiet Moving h h' q b = tt

-- a poll adds nothing by itself
has_polled_in : {L : Type 0} (p : Progress) (x : Peering L) (at : ℕ) (h : List Local) → HasIn p x h → HasIn p x (Polled at ∷ h)
has_polled_in progress.Idle x at h n =
    record { made = n.made; link = n.link; replied = n.replied; given = n.given; sent = n.sent; caused = n.caused; fault = n.fault; opening = n.opening; prepared = n.prepared; holds = n.holds; untouched = n.untouched }
has_polled_in progress.Opening x at h w =
    let q = quiet_polled at h in
    record { call = w.call; made = w.made; replied = w.replied; called = called_quiet w.call x.held h (Polled at ∷ h) q w.called.caused w.called; unmade = unmade_quiet x.fault x.held h (Polled at ∷ h) q w.unmade }
has_polled_in progress.Open x at h w =
    let q = quiet_polled at h in
    record { call = w.call; name = w.name; same = w.same; made = w.made; replied = w.replied; called = called_quiet w.call x.held h (Polled at ∷ h) q w.called.caused w.called; is_made = made_quiet x.fault x.held h (Polled at ∷ h) q w.is_made }
has_polled_in progress.Closing x at h w =
    let q = quiet_polled at h in
    record { call = w.call; name = w.name; error = w.error; made = w.made; replied = w.replied; called = called_quiet w.call x.held h (Polled at ∷ h) q w.called.caused w.called; is_made = made_quiet x.fault x.held h (Polled at ∷ h) q w.is_made; leaves = w.leaves }
has_polled_in progress.Over x at h (inl w) =
    inl (record { call = w.call; name = w.name; error = w.error; made = w.made; replied = w.replied; silent = λ t. silent_polled x.held at h (w.silent t); called = called_quiet w.call x.held h (Polled at ∷ h) (quiet_polled at h) w.called.caused w.called; done = w.done; broken = broken_held_quiet x.held h (Polled at ∷ h) (quiet_polled at h) w.broken })
has_polled_in progress.Over x at h (inr w) =
    inr (record { call = w.call; name = w.name; closing = w.closing; error = w.error; reply = w.reply; made = w.made; end = w.end; replied = w.replied; called = called_quiet w.call x.held h (Polled at ∷ h) (quiet_polled at h) w.called.caused w.called; done = w.done; broken = broken_held_quiet x.held h (Polled at ∷ h) (quiet_polled at h) w.broken })

pub has_polled : {L : Type 0} (x : Peering L) (at : ℕ) (h : List Local) → Has x h → Has x (Polled at ∷ h)
has_polled x at h p = has_polled_in x.progress x at h p

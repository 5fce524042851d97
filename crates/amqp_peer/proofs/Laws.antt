-- Laws of one end: what it says of its history, whatever the other end does.
use Rattle.std.proofs.Common.{◌≡◌, ◌↔◌, ◌<◌, ◌⊎◌, inl, inr, ℕ, List, [], ◌∷◌, ◌++◌, Bool, true, false, Option, Some, None, All, refl, sym, ap, ◌∙◌, subst}
use Rattle.std.proofs.lemmas.List.{append-nil}
use Rattle.std.proofs.lemmas.List.Elements.{All-nil}
use Rattle.amqp_wire.specs.Events.{wrote_of}
use Rattle.amqp_engine.specs.declared.error.Error.{Error as ConnectionFault}
use Rattle.amqp_engine.specs.declared.error.Error.TheVariants as connection
use Rattle.amqp_frames.specs.declared.shared.ConnectionStopReason.{ConnectionStopReason}
use Rattle.amqp_transport.specs.declared.frames.Frame.{Frame}
use Rattle.amqp_transport.specs.Stream.{IsPart}
use Rattle.amqp_engine.specs.Heard.{IsOver}
use Rattle.amqp_engine.specs.Phases.{is_stopped, has_failed}
use Rattle.amqp_engine.specs.Sentence.{Has as EngineHas, AllWithin, write_limit}
use Rattle.amqp_engine.specs.State.{State, IsFramed}
use Rattle.amqp_opening.specs.declared.authentication.Authentication.{Authentication}
use Rattle.amqp_opening.specs.declared.authentication.SaslCall.{SaslCall}
use Rattle.amqp_opening.specs.declared.opening.Stage.{Stage}
use Rattle.amqp_opening.specs.declared.opening.Stage.TheVariants as stage
use Rattle.amqp_opening.specs.Authentication.{peer_mechanism}
use Rattle.amqp_opening.specs.Opening.{Opened, IsUnderWay}
use Rattle.amqp_opening.proofs.Exchanges.{gated_later}
use Rattle.amqp_opening.proofs.Openings.{has_with_link as opening_with_link}
use Rattle.amqp_words.specs.declared.call.Call.{Call}
use Rattle.amqp_words.specs.declared.call.Call.TheVariants.{Close}
use Rattle.amqp_words.specs.declared.reply.Reply.{Reply}
use Rattle.amqp_words.specs.declared.reply.Reply.TheVariants as reply
use Rattle.amqp_words.specs.declared.reply.NamedReply.{NamedReply}
use Rattle.amqp_peer.specs.declared.held.Held.{Held}
use Rattle.amqp_peer.specs.declared.held.Held.TheVariants.{Early, Late, Unopened, Moving}
use Rattle.amqp_peer.specs.declared.peer.PeerKind.{PeerKind}
use Rattle.amqp_peer.specs.declared.peer.Progress.{Progress}
use Rattle.amqp_peer.specs.declared.peer.Progress.TheVariants as progress
use Rattle.amqp_peer.specs.declared.prepared.Prepared.{Prepared}
use Rattle.amqp_peer.specs.Calls.{IsFirstCall, IsClose, IsValidCall}
use Rattle.amqp_peer.specs.Beats.{AllBeats}
use Rattle.amqp_peer.specs.Causes.{prepared_in, AllCaused, IsQueued, IsTakenUp, IsTied, StartsWithin, IsLast, IsSpent, uncalled, answered, left, mistaken, broken}
use Rattle.amqp_peer.specs.Gated.{IsTalk, IsGatedIn, IsGated}
use Rattle.amqp_peer.specs.Held.{IsMidway, IsReadyWith, IsExchangedWith, IsExchanged, IsBusyWith, IsBusy, IsLeavingIn, IsActive, IsSorted, link_at, with_link}
use Rattle.amqp_peer.specs.History.{Local, made_in, link_in, given_in, sent_in, replied_in, read_in, wrote_in}
use Rattle.amqp_peer.specs.Peering.{Peering, fresh, link_of, with_link_of, Has, HasIn, HasCalled, IsHeld, IsHeldAt, IsKnown, IsExchanging, IsRunning, IsBrokenIn, IsBrokenHeld, IsUnmadeAt, IsUnmade, IsFaultIn, IsMadeIn, EarlyFault, LateFault, HasWritten, MayCall, MayCallIn}
use Rattle.amqp_peer.specs.Prepared.{sasl_of}
use Rattle.amqp_peer.specs.Said.{IsSaidFor, HasSaid}
use Rattle.amqp_peer.specs.Replies.{pending, connection as made_reply, open_failed, answered as answered_by, IsCloseEnd, AreReplies, IsConnected}
use Rattle.amqp_peer.proofs.Beats.{unsent_beats}
use Rattle.amqp_peer.proofs.Histories.{made_in-append as made_append, link_in-append as link_append, replied_in-append as replied_append}
use Rattle.amqp_peer.proofs.Answers.{over_in}
use Rattle.amqp_peer.proofs.Grows.{broken_unmade, broken_made}
use Rattle.amqp_peer.proofs.Hears.{mistaken_other}
use Rattle.amqp_peer.proofs.Refusals.{refusal_last, refusal_connects_not, silent_with}
use Rattle.amqp_peer.proofs.Written.{written_exchanging, written_running, queued_idle, queued_exchanging, queued_running, read_running}

-- histories, one after another
pub made_in-append : (es h : List Local) → made_in (es ++ h) ≡ made_in es ++ made_in h
made_in-append = made_append

pub link_in-append : (es h : List Local) → link_in (es ++ h) ≡ link_in es ++ link_in h
link_in-append = link_append

pub replied_in-append : (es h : List Local) → replied_in (es ++ h) ≡ replied_in h ++ replied_in es
replied_in-append = replied_append

-- an end at which nothing happened
pub has_fresh : {L : Type 0} (link : L) (kind : PeerKind) → Has (fresh link kind) []
has_fresh link kind =
    record { made = refl; link = refl; replied = refl; given = refl; sent = refl; caused = tt; fault = refl; opening = _; prepared = None; holds = refl; untouched = record { stage = refl; input = refl; output = refl; phase = refl } }

-- the replies that were taken out are no part of what it says
taken_in : {L : Type 0} (q : Progress) (p : Peering L) (h : List Local) → HasIn q p h → HasIn q (record p { replies = [] }) h
taken_in progress.Idle p h n =
    record { made = n.made; link = n.link; replied = n.replied; given = n.given; sent = n.sent; caused = n.caused; fault = n.fault; opening = n.opening; prepared = n.prepared; holds = n.holds; untouched = n.untouched }
taken_in progress.Opening p h w = record { call = w.call; made = w.made; replied = w.replied; called = w.called; unmade = w.unmade }
taken_in progress.Open p h w = record { call = w.call; name = w.name; same = w.same; made = w.made; replied = w.replied; called = w.called; is_made = w.is_made }
taken_in progress.Closing p h w = record { call = w.call; name = w.name; error = w.error; made = w.made; replied = w.replied; called = w.called; is_made = w.is_made; leaves = w.leaves }
taken_in progress.Over p h (inl w) = inl (record { call = w.call; name = w.name; error = w.error; made = w.made; replied = w.replied; silent = w.silent; called = w.called; done = w.done; broken = w.broken })
taken_in progress.Over p h (inr w) =
    inr (record { call = w.call; name = w.name; closing = w.closing; error = w.error; reply = w.reply; made = w.made; end = w.end; replied = w.replied; called = w.called; done = w.done; broken = w.broken })

pub has_taken : {L : Type 0} (p : Peering L) (h : List Local) → Has p h → Has (record p { replies = [] }) h
has_taken p h x = taken_in p.progress p h x

pub link_of-taken : {L : Type 0} (d : L) (p : Peering L) → link_of d (record p { replies = [] }) ≡ link_of d p
link_of-taken d p = refl

pub link_of-fresh : {L : Type 0} (d link : L) (kind : PeerKind) → link_of d (fresh link kind) ≡ link
link_of-fresh d link kind = refl

-- ---- neither is the link that it holds

link_at-with : {L : Type 0} (d : L) (held : Held L) (w : L) → link_at d (with_link held w) ≡ w
link_at-with d (Early o p) w = refl
link_at-with d (Late s) w = refl
link_at-with d (Unopened c) w = refl
link_at-with d Moving w = refl

pub link_of-with_link : {L : Type 0} (d : L) (p : Peering L) (w : L) → link_of d (with_link_of p w) ≡ w
link_of-with_link d p w = link_at-with d p.held w

exchanging_with : {L : Type 0} (call : Call) (o : Opened L Authentication) (p : Option Prepared) (w : L) (h : List Local) → IsExchanging call o p h → IsExchanging call (record o { negotiation = record o.negotiation { codec = record o.negotiation.codec { link = w } } }) p h
exchanging_with call o p w h k = record { made = k.made; asked = k.asked; prepared = k.prepared; known = k.known; opening = opening_with_link peer_mechanism o w (link_in h) k.opening; given = k.given; sent = k.sent }

early_with : {L : Type 0} (s : Stage) (call : Call) (o : Opened L Authentication) (p : Option Prepared) (w : L) (h : List Local) → IsHeldAt s call o p h → IsHeldAt s call (record o { negotiation = record o.negotiation { codec = record o.negotiation.codec { link = w } } }) p h
early_with stage.Idle call o p w h k = absurd k
early_with stage.Negotiating call o p w h k = exchanging_with call o p w h k
early_with stage.Header call o p w h k = exchanging_with call o p w h k
early_with stage.Exchanged call o p w h k = exchanging_with call o p w h k
early_with stage.Ended call o p w h k = k

engine_with : {L : Type 0} (before arrived : List ℕ) (s : State L) (w : L) (x : _) → EngineHas before arrived s x → EngineHas before arrived (record s { wire = record s.wire { codec = record s.wire.codec { link = w } } }) x
engine_with before arrived s w x k =
    record { out = k.out; joined = k.joined; said = k.said; heard = k.heard; limited = record { told = k.limited.told; least = k.limited.least; first = k.limited.first; reads = k.limited.reads }; sized = k.sized; framed = k.framed; bounded = record { reads = k.bounded.reads; writes = k.bounded.writes } }

running_with : {L : Type 0} (call : Call) (s : State L) (w : L) (h : List Local) → IsRunning call s h → IsRunning call (record s { wire = record s.wire { codec = record s.wire.codec { link = w } } }) h
running_with call s w h k =
    record {
      layer = k.layer;
      x = k.x;
      made = k.made;
      asked = k.asked;
      p = k.p;
      prepared = k.prepared;
      before = k.before;
      since = k.since;
      passed = k.passed;
      arrived = k.arrived;
      unwritten = k.unwritten;
      intro = k.intro;
      runs = engine_with k.unwritten k.arrived s w (record { events = k.since; given = given_in h; sent = sent_in h }) k.runs;
      began = k.began;
      opens = k.opens;
      starts = k.starts;
      says = k.says;
      idle = k.idle;
      own = k.own;
      start = k.start;
      beat = k.beat;
      beats = k.beats;
      closer = k.closer;
      calm = k.calm;
    }

held_with : {L : Type 0} (call : Call) (held : Held L) (w : L) (h : List Local) → IsHeld call held h → IsHeld call (with_link held w) h
held_with call (Early o p) w h k = early_with o.stage call o p w h k
held_with call (Late s) w h k = running_with call s w h k
held_with call (Unopened c) w h k = k
held_with call Moving w h k = absurd k

called_with : {L : Type 0} (call : Call) (held : Held L) (w : L) (h : List Local) → HasCalled call held h → HasCalled call (with_link held w) h
called_with call held w h c = record { holds = held_with call held w h c.holds; caused = c.caused }

early_fault_with : {L : Type 0} (e : ConnectionFault) (s : State L) (w : L) (h : List Local) → EarlyFault e s h → EarlyFault e (record s { wire = record s.wire { codec = record s.wire.codec { link = w } } }) h
early_fault_with (connection.Memory a) s w h u = u
early_fault_with (connection.TransportError t) s w h u = u
early_fault_with connection.IllegalState s w h u = u
early_fault_with connection.NotImplemented s w h u = u
early_fault_with connection.NotFound s w h u = u
early_fault_with connection.RemoteClosed s w h u = u
early_fault_with (connection.RemoteClosedWithError x) s w h u = u

late_fault_with : {L : Type 0} (e : ConnectionFault) (s : State L) (w : L) (h : List Local) → LateFault e s h → LateFault e (record s { wire = record s.wire { codec = record s.wire.codec { link = w } } }) h
late_fault_with (connection.Memory a) s w h u = u
late_fault_with (connection.TransportError t) s w h u = u
late_fault_with connection.IllegalState s w h u = u
late_fault_with connection.NotImplemented s w h u = u
late_fault_with connection.NotFound s w h u = u
late_fault_with connection.RemoteClosed s w h u = u
late_fault_with (connection.RemoteClosedWithError x) s w h u = u

unmade_at_with : {L : Type 0} (fault : Option ConnectionFault) (s : State L) (w : L) (h : List Local) → IsUnmadeAt fault s h → IsUnmadeAt fault (record s { wire = record s.wire { codec = record s.wire.codec { link = w } } }) h
unmade_at_with None s w h u = record { unheard = u.unheard; kept = u.kept; sound = u.sound }
unmade_at_with (Some e) s w h u = (early_fault_with e s w h u.0, u.1)

unmade_with : {L : Type 0} (fault : Option ConnectionFault) (held : Held L) (w : L) (h : List Local) → IsUnmade fault held h → IsUnmade fault (with_link held w) h
unmade_with fault (Early o p) w h u = u
unmade_with fault (Late s) w h u = unmade_at_with fault s w h u
unmade_with fault (Unopened c) w h u = u
unmade_with fault Moving w h u = absurd u

fault_with : {L : Type 0} (fault : Option ConnectionFault) (s : State L) (w : L) (h : List Local) → IsFaultIn fault s h → IsFaultIn fault (record s { wire = record s.wire { codec = record s.wire.codec { link = w } } }) h
fault_with None s w h u = u
fault_with (Some e) s w h u = (late_fault_with e s w h u.0, u.1)

made_with : {L : Type 0} (fault : Option ConnectionFault) (held : Held L) (w : L) (h : List Local) → IsMadeIn fault held h → IsMadeIn fault (with_link held w) h
made_with fault (Early o p) w h u = u
made_with fault (Late s) w h u = (u.0, fault_with fault s w h u.1)
made_with fault (Unopened c) w h u = u
made_with fault Moving w h u = absurd u

leaves_with : {L : Type 0} (held : Held L) (w : L) → IsLeavingIn held → IsLeavingIn (with_link held w)
leaves_with (Early o p) w l = l
leaves_with (Late s) w l = l
leaves_with (Unopened c) w l = l
leaves_with Moving w l = l

busy_early : {L : Type 0} (o : Opened L Authentication) (p : Option Prepared) (w : L) → IsBusyWith (record o { negotiation = record o.negotiation { codec = record o.negotiation.codec { link = w } } }) p → IsBusyWith o p
busy_early o None w b = b
busy_early o (Some p) w b = b

busy_with : {L : Type 0} (held : Held L) (w : L) → IsBusy (with_link held w) → IsBusy held
busy_with (Early o p) w b = busy_early o p w b
busy_with (Late s) w b = b
busy_with (Unopened c) w b = b
busy_with Moving w b = b

broken_with : {L : Type 0} (held : Held L) (w : L) (h : List Local) → IsBrokenHeld held h → IsBrokenHeld (with_link held w) h
broken_with (Early o p) w h b = tt
broken_with (Late s) w h b = b
broken_with (Unopened c) w h b = tt
broken_with Moving w h b = tt

with_in : {L : Type 0} (q : Progress) (p : Peering L) (w : L) (h : List Local) → HasIn q p h → HasIn q (with_link_of p w) h
with_in {L} progress.Idle p w h n =
    record {
      made = n.made;
      link = n.link;
      replied = n.replied;
      given = n.given;
      sent = n.sent;
      caused = n.caused;
      fault = n.fault;
      opening = record n.opening { negotiation = record n.opening.negotiation { codec = record n.opening.negotiation.codec { link = w } } };
      prepared = n.prepared;
      holds = ap (λ (x : Held L). with_link x w) n.holds;
      untouched = record { stage = n.untouched.stage; input = n.untouched.input; output = n.untouched.output; phase = n.untouched.phase };
    }
with_in progress.Opening p w h x = record { call = x.call; made = x.made; replied = x.replied; called = called_with x.call p.held w h x.called; unmade = unmade_with p.fault p.held w h x.unmade }
with_in progress.Open p w h x = record { call = x.call; name = x.name; same = x.same; made = x.made; replied = x.replied; called = called_with x.call p.held w h x.called; is_made = made_with p.fault p.held w h x.is_made }
with_in progress.Closing p w h x =
    record { call = x.call; name = x.name; error = x.error; made = x.made; replied = x.replied; called = called_with x.call p.held w h x.called; is_made = made_with p.fault p.held w h x.is_made; leaves = leaves_with p.held w x.leaves }
with_in progress.Over p w h (inl x) =
    inl (record { call = x.call; name = x.name; error = x.error; made = x.made; replied = x.replied; silent = λ t. silent_with p.held w h (x.silent t); called = called_with x.call p.held w h x.called; done = λ b. x.done (busy_with p.held w b); broken = broken_with p.held w h x.broken })
with_in progress.Over p w h (inr x) =
    inr (record { call = x.call; name = x.name; closing = x.closing; error = x.error; reply = x.reply; made = x.made; end = x.end; replied = x.replied; called = called_with x.call p.held w h x.called; done = λ b. x.done (busy_with p.held w b); broken = broken_with p.held w h x.broken })

pub has_with_link : {L : Type 0} (p : Peering L) (w : L) (h : List Local) → Has p h → Has (with_link_of p w) h
has_with_link p w h x = with_in p.progress p w h x

pub may_with_link : {L : Type 0} (p : Peering L) (w : L) (name : ℕ) (call : Call) → MayCall p name call → MayCall (with_link_of p w) name call
may_with_link p w name call m = m

-- ---- nor does the link tell whether the headers are exchanged

exchanged_early : {L : Type 0} (o : Opened L Authentication) (p : Option Prepared) (w : L) → IsExchangedWith (record o { negotiation = record o.negotiation { codec = record o.negotiation.codec { link = w } } }) p → IsExchangedWith o p
exchanged_early o None w e = e
exchanged_early o (Some p) w e = e

exchanged_with : {L : Type 0} (held : Held L) (w : L) → IsExchanged (with_link held w) → IsExchanged held
exchanged_with (Early o p) w e = exchanged_early o p w e
exchanged_with (Late s) w e = e
exchanged_with (Unopened c) w e = e
exchanged_with Moving w e = e

pub exchanged_with_link : {L : Type 0} (p : Peering L) (w : L) → (IsExchanged p.held → ⊥) → IsExchanged (with_link_of p w).held → ⊥
exchanged_with_link p w n e = n (exchanged_with p.held w e)

pub fresh_not_exchanged : {L : Type 0} (link : L) (kind : PeerKind) → IsExchanged (fresh link kind).held → ⊥
fresh_not_exchanged link kind e = e

-- ---- a call may be made exactly where it is valid

not_connected : (n : ℕ) → IsConnected (pending n ∷ []) → ⊥
not_connected n (inl e) = absurd (cc e)
not_connected n (inr e) = e

may_one : (q : Progress) (kind : PeerKind) (last n name : ℕ) (first call : Call) (made : List (ℕ × Call)) (replied : List NamedReply) → made ≡ (n, first) ∷ [] → (MayCallIn q kind last name call → IsClose call × IsConnected replied × (n < name)) → (IsClose call × IsConnected replied × (n < name) → MayCallIn q kind last name call)
    → MayCallIn q kind last name call ↔ IsValidCall kind made replied name call
may_one q kind last n name first call made replied e f g = subst (λ (cs : List (ℕ × Call)). MayCallIn q kind last name call ↔ IsValidCall kind cs replied name call) (sym e) (f, g)

may_none : (kind : PeerKind) (n m name : ℕ) (first last call : Call) (made : List (ℕ × Call)) (replied : List NamedReply) → made ≡ (m, last) ∷ (n, first) ∷ [] → ⊥ ↔ IsValidCall kind made replied name call
may_none kind n m name first last call made replied e = subst (λ (cs : List (ℕ × Call)). ⊥ ↔ IsValidCall kind cs replied name call) (sym e) (λ z. z, λ z. z)

may_in : {L : Type 0} (q : Progress) (p : Peering L) (name : ℕ) (call : Call) (h : List Local) → HasIn q p h → MayCallIn q p.kind p.name name call ↔ IsValidCall p.kind (made_in h) (replied_in h) name call
may_in progress.Idle p name call h x = subst (λ (cs : List (ℕ × Call)). IsFirstCall p.kind call ↔ IsValidCall p.kind cs (replied_in h) name call) (sym x.made) (λ m. m, λ m. m)
may_in progress.Opening p name call h x =
    may_one progress.Opening p.kind p.name p.name name x.call call (made_in h) (replied_in h) x.made (λ m. absurd m) (λ v. not_connected p.name (subst IsConnected x.replied v.1))
may_in progress.Open p name call h x =
    may_one progress.Open p.kind p.name x.name name x.call call (made_in h) (replied_in h) x.made
    (λ m. (m.0, subst IsConnected (sym x.replied) (inr (inl refl)), subst (λ (n : ℕ). n < name) x.same m.1)) (λ v. (v.0, subst (λ (n : ℕ). n < name) (sym x.same) v.2))
may_in progress.Closing p name call h x = may_none p.kind x.name p.name name x.call (Close x.error) call (made_in h) (replied_in h) x.made
may_in progress.Over p name call h (inl x) =
    may_one progress.Over p.kind p.name x.name name x.call call (made_in h) (replied_in h) x.made (λ m. absurd m) (λ v. refusal_connects_not x.name x.error (replied_in h) x.replied v.1)
may_in progress.Over p name call h (inr x) = may_none p.kind x.name x.closing name x.call (Close x.error) call (made_in h) (replied_in h) x.made

pub may_law : {L : Type 0} (p : Peering L) (name : ℕ) (call : Call) (h : List Local) → Has p h → MayCall p name call ↔ IsValidCall p.kind (made_in h) (replied_in h) name call
may_law p name call h x = may_in p.progress p name call h x

-- ---- the replies are those that the calls may have

replies_as : (cs : List (ℕ × Call)) (made : List (ℕ × Call)) (replied : List NamedReply) → made ≡ cs → AreReplies cs replied → AreReplies made replied
replies_as cs made replied e r = subst (λ (u : List (ℕ × Call)). AreReplies u replied) (sym e) r

replies_in : {L : Type 0} (q : Progress) (p : Peering L) (h : List Local) → HasIn q p h → AreReplies (made_in h) (replied_in h)
replies_in progress.Idle p h x = replies_as [] (made_in h) (replied_in h) x.made x.replied
replies_in progress.Opening p h x = replies_as ((p.name, x.call) ∷ []) (made_in h) (replied_in h) x.made (inl x.replied)
replies_in progress.Open p h x = replies_as ((x.name, x.call) ∷ []) (made_in h) (replied_in h) x.made (inr (inl x.replied))
replies_in progress.Closing p h x =
    replies_as ((p.name, Close x.error) ∷ (x.name, x.call) ∷ []) (made_in h) (replied_in h) x.made (inl x.replied)
replies_in progress.Over p h (inl x) = replies_as ((x.name, x.call) ∷ []) (made_in h) (replied_in h) x.made (inr (inr (x.error, x.replied)))
replies_in progress.Over p h (inr x) = replies_as ((x.closing, Close x.error) ∷ (x.name, x.call) ∷ []) (made_in h) (replied_in h) x.made (inr (x.reply, x.end, x.replied))

pub replies_law : {L : Type 0} (p : Peering L) (h : List Local) → Has p h → AreReplies (made_in h) (replied_in h)
replies_law p h x = replies_in p.progress p h x

-- ---- nothing but the SASL layer is written before the check holds, and then a conversation

written_early : {L : Type 0} (s : Stage) (call : Call) (o : Opened L Authentication) (p : Option Prepared) (h : List Local) → IsHeldAt s call o p h → HasWritten call h
written_early stage.Idle call o p h k = absurd k
written_early stage.Negotiating call o p h k = written_exchanging call o p h k
written_early stage.Header call o p h k = written_exchanging call o p h k
written_early stage.Exchanged call o p h k = written_exchanging call o p h k
written_early stage.Ended call o p h k = k.written

written_held : {L : Type 0} (call : Call) (held : Held L) (h : List Local) → IsHeld call held h → HasWritten call h
written_held call (Early o p) h k = written_early o.stage call o p h k
written_held call (Late s) h k = written_running call s h k
written_held call (Unopened c) h k = k.written
written_held call Moving h k = absurd k

gated_one : (n : ℕ) (call : Call) (h : List Local) → made_in h ≡ (n, call) ∷ [] → HasWritten call h → IsGated (made_in h) (wrote_in h) (read_in h)
gated_one n call h e w = subst (λ (cs : List (ℕ × Call)). IsGated cs (wrote_in h) (read_in h)) (sym e) w

gated_two : (n m : ℕ) (call last : Call) (h : List Local) → made_in h ≡ (m, last) ∷ (n, call) ∷ [] → HasWritten call h → IsGated (made_in h) (wrote_in h) (read_in h)
gated_two n m call last h e w = subst (λ (cs : List (ℕ × Call)). IsGated cs (wrote_in h) (read_in h)) (sym e) w

gated_in : {L : Type 0} (q : Progress) (p : Peering L) (h : List Local) → HasIn q p h → IsGated (made_in h) (wrote_in h) (read_in h)
gated_in progress.Idle p h x = subst (λ (cs : List (ℕ × Call)). IsGated cs (wrote_in h) (read_in h)) (sym x.made) (ap wrote_of x.link)
gated_in progress.Opening p h x = gated_one p.name x.call h x.made (written_held x.call p.held h x.called.holds)
gated_in progress.Open p h x = gated_one x.name x.call h x.made (written_held x.call p.held h x.called.holds)
gated_in progress.Closing p h x = gated_two x.name p.name x.call (Close x.error) h x.made (written_held x.call p.held h x.called.holds)
gated_in progress.Over p h (inl x) = gated_one x.name x.call h x.made (written_held x.call p.held h x.called.holds)
gated_in progress.Over p h (inr x) = gated_two x.name x.closing x.call (Close x.error) h x.made (written_held x.call p.held h x.called.holds)

pub gated_law : {L : Type 0} (p : Peering L) (h : List Local) → Has p h → IsGated (made_in h) (wrote_in h) (read_in h)
gated_law p h x = gated_in p.progress p h x

-- what is read later changes nothing of it
gated_more_in : (c : Option SaslCall) (wrote read later : List ℕ) → IsGatedIn c wrote read → IsGatedIn c wrote (read ++ later)
gated_more_in None wrote read later g = g
gated_more_in (Some c) wrote read later g = gated_later IsTalk c wrote read later g

pub gated_more : (cs : List (ℕ × Call)) (wrote read later : List ℕ) → IsGated cs wrote read → IsGated cs wrote (read ++ later)
gated_more [] wrote read later g = g
gated_more (c ∷ []) wrote read later g = gated_more_in (sasl_of c.1) wrote read later g
gated_more (c ∷ d ∷ cs) wrote read later g = gated_more (d ∷ cs) wrote read later g

-- ---- each reply has its cause

caused_in : {L : Type 0} (q : Progress) (p : Peering L) (h : List Local) → HasIn q p h → AllCaused h
caused_in progress.Idle p h x = x.caused
caused_in progress.Opening p h x = x.called.caused
caused_in progress.Open p h x = x.called.caused
caused_in progress.Closing p h x = x.called.caused
caused_in progress.Over p h (inl x) = x.called.caused
caused_in progress.Over p h (inr x) = x.called.caused

pub causes_law : {L : Type 0} (p : Peering L) (h : List Local) → Has p h → AllCaused h
causes_law p h x = caused_in p.progress p h x

-- ---- the frames are those of the bytes

tied_none : (h : List Local) → given_in h ≡ [] → sent_in h ≡ [] → IsQueued h → IsTied h
tied_none h g s q =
    record {
      heard = inl g;
      said = q;
      framed = subst (λ (xs : List Frame). All IsFramed xs) (sym s) (All-nil IsFramed);
      sized = subst (λ (xs : List Frame). AllWithin (write_limit (given_in h)) xs) (sym s) tt;
      starts = subst (StartsWithin 512) (sym s) tt;
    }

tied_running : {L : Type 0} (call : Call) (s : State L) (h : List Local) → IsRunning call s h → IsTied h
tied_running call s h k =
    record {
      heard = inr (s.wire.codec.input ++ [], read_running call s h [] k);
      said = queued_running call s h k;
      framed = k.runs.framed;
      sized = subst (λ (n : ℕ). AllWithin n (sent_in h)) (k.runs.limited.told ∙ k.runs.bounded.writes) k.runs.sized;
      starts = k.starts;
    }

sent_early : {L : Type 0} (s : Stage) (call : Call) (o : Opened L Authentication) (p : Option Prepared) (h : List Local) → IsHeldAt s call o p h → sent_in h ≡ []
sent_early stage.Idle call o p h k = absurd k
sent_early stage.Negotiating call o p h k = k.sent
sent_early stage.Header call o p h k = k.sent
sent_early stage.Exchanged call o p h k = k.sent
sent_early stage.Ended call o p h k = k.sent

tied_early : {L : Type 0} (s : Stage) (call : Call) (o : Opened L Authentication) (p : Option Prepared) (h : List Local) → IsHeldAt s call o p h → IsTied h
tied_early stage.Idle call o p h k = absurd k
tied_early stage.Negotiating call o p h k = tied_none h k.given k.sent (queued_exchanging call o p h k)
tied_early stage.Header call o p h k = tied_none h k.given k.sent (queued_exchanging call o p h k)
tied_early stage.Exchanged call o p h k = tied_none h k.given k.sent (queued_exchanging call o p h k)
tied_early stage.Ended call o p h k = tied_none h k.given k.sent k.queued

tied_held : {L : Type 0} (call : Call) (held : Held L) (h : List Local) → IsHeld call held h → IsTied h
tied_held call (Early o p) h k = tied_early o.stage call o p h k
tied_held call (Late s) h k = tied_running call s h k
tied_held call (Unopened c) h k = tied_none h k.given k.sent k.queued
tied_held call Moving h k = absurd k

tied_in : {L : Type 0} (q : Progress) (p : Peering L) (h : List Local) → HasIn q p h → IsTied h
tied_in progress.Idle p h x = tied_none h x.given x.sent (queued_idle h x.made x.link x.sent)
tied_in progress.Opening p h x = tied_held x.call p.held h x.called.holds
tied_in progress.Open p h x = tied_held x.call p.held h x.called.holds
tied_in progress.Closing p h x = tied_held x.call p.held h x.called.holds
tied_in progress.Over p h (inl x) = tied_held x.call p.held h x.called.holds
tied_in progress.Over p h (inr x) = tied_held x.call p.held h x.called.holds

pub tied_law : {L : Type 0} (p : Peering L) (h : List Local) → Has p h → IsTied h
tied_law p h x = tied_in p.progress p h x

-- ---- what an end says

-- no frame was queued
said_none : (h : List Local) → sent_in h ≡ [] → HasSaid h
said_none h s = inl s

said_held : {L : Type 0} (call : Call) (held : Held L) (h : List Local) → IsHeld call held h → HasSaid h
said_held call (Early o p) h k = said_none h (sent_early o.stage call o p h k)
said_held call (Late s) h k = k.says
said_held call (Unopened c) h k = said_none h k.sent
said_held call Moving h k = absurd k

said_in : {L : Type 0} (q : Progress) (p : Peering L) (h : List Local) → HasIn q p h → HasSaid h
said_in progress.Idle p h x = said_none h x.sent
said_in progress.Opening p h x = said_held x.call p.held h x.called.holds
said_in progress.Open p h x = said_held x.call p.held h x.called.holds
said_in progress.Closing p h x = said_held x.call p.held h x.called.holds
said_in progress.Over p h (inl x) = said_held x.call p.held h x.called.holds
said_in progress.Over p h (inr x) = said_held x.call p.held h x.called.holds

pub said_law : {L : Type 0} (p : Peering L) (h : List Local) → Has p h → IsSaidFor (prepared_in (made_in h)) (made_in h) (given_in h) (sent_in h)
said_law p h x = said_in p.progress p h x

-- and each whole frame was taken, where it has sorted all that it read
taken_up_held : {L : Type 0} (at : ℕ) (call : Call) (held : Held L) (h : List Local) → IsHeld call held h → IsActive held → IsSorted at held → IsTakenUp h
taken_up_held at call (Early o p) h k a s = inl (sent_early o.stage call o p h k)
taken_up_held at call (Late s) h k a rest = inr (s.wire.codec.input ++ [], read_running call s h [] k, subst IsPart (sym (append-nil s.wire.codec.input)) rest.0.part)
taken_up_held at call (Unopened c) h k a s = inl k.sent
taken_up_held at call Moving h k a s = absurd k

taken_up_in : {L : Type 0} (at : ℕ) (q : Progress) (p : Peering L) (h : List Local) → HasIn q p h → IsActive p.held → IsSorted at p.held → IsTakenUp h
taken_up_in at progress.Idle p h x a s = inl x.sent
taken_up_in at progress.Opening p h x a s = taken_up_held at x.call p.held h x.called.holds a s
taken_up_in at progress.Open p h x a s = taken_up_held at x.call p.held h x.called.holds a s
taken_up_in at progress.Closing p h x a s = taken_up_held at x.call p.held h x.called.holds a s
taken_up_in at progress.Over p h (inl x) a s = taken_up_held at x.call p.held h x.called.holds a s
taken_up_in at progress.Over p h (inr x) a s = taken_up_held at x.call p.held h x.called.holds a s

pub taken_up_law : {L : Type 0} (at : ℕ) (p : Peering L) (h : List Local) → Has p h → IsActive p.held → IsSorted at p.held → IsTakenUp h
taken_up_law at p h x a s = taken_up_in at p.progress p h x a s

-- ---- an end goes on, or says why it does not

spent_over : (reason : ConnectionStopReason) (h : List Local) → IsOver reason (given_in h) → IsSpent h
spent_over reason h (inl o) = left (record { front = o.front; channel = o.channel; last = o.last; is = o.is })
spent_over reason h (inr (inl o)) = mistaken (mistaken_other reason (given_in h) o)
spent_over reason h (inr (inr o)) = left (record { front = o.front; channel = o.channel; last = o.last; is = o.is })

running_spent_at : {L : Type 0} (stopped failed : Bool) (call : Call) (s : State L) (h : List Local) → is_stopped s.phase ≡ stopped → has_failed s.phase ≡ failed → IsRunning call s h → IsBrokenIn s h → (is_stopped s.phase ≡ false) ⊎ IsSpent h
running_spent_at false failed call s h e f k b = inl e
running_spent_at true false call s h e f k b = inr (spent_over s.reason h (over_in s.phase s.reason (given_in h) e f k.runs.heard))
running_spent_at true true call s h e f k b = inr (broken (b f))

running_spent : {L : Type 0} (call : Call) (s : State L) (h : List Local) → IsRunning call s h → IsBrokenIn s h → (is_stopped s.phase ≡ false) ⊎ IsSpent h
running_spent call s h k b = running_spent_at (is_stopped s.phase) (has_failed s.phase) call s h refl refl k b

pub known_at : {L : Type 0} (s : Stage) (call : Call) (o : Opened L Authentication) (p : Option Prepared) (h : List Local) → IsMidway s → IsHeldAt s call o p h → IsKnown p
known_at stage.Idle call o p h m k = absurd m
known_at stage.Negotiating call o p h m k = k.known
known_at stage.Header call o p h m k = k.known
known_at stage.Exchanged call o p h m k = k.known
known_at stage.Ended call o p h m k = absurd m

way_at : {L : Type 0} (s : Stage) (o : Opened L Authentication) → o.stage ≡ s → IsMidway s → (o.stage ≡ stage.Exchanged → ⊥) → IsUnderWay o.stage
way_at stage.Idle o e m n = absurd m
way_at stage.Negotiating o e m n = subst IsUnderWay (sym e) tt
way_at stage.Header o e m n = subst IsUnderWay (sym e) tt
way_at stage.Exchanged o e m n = absurd (n e)
way_at stage.Ended o e m n = absurd m

pub ready_at : {L : Type 0} (o : Opened L Authentication) (p : Option Prepared) → IsMidway o.stage → IsKnown p → (IsExchangedWith o p → ⊥) → IsReadyWith o p
ready_at o None m k n = k
ready_at o (Some p) m k n = way_at o.stage o refl m n

waiting_spent : {L : Type 0} (call : Call) (fault : Option ConnectionFault) (held : Held L) (h : List Local) → IsHeld call held h → IsUnmade fault held h → (IsExchanged held → ⊥) → IsActive held ⊎ IsSpent h
waiting_spent call fault (Early o p) h k u n = inl (ready_at o p u.1 (known_at o.stage call o p h u.1 k) n)
waiting_spent call fault (Late s) h k u n = running_spent call s h k (broken_unmade fault s h u)
waiting_spent call fault (Unopened c) h k u n = absurd u
waiting_spent call fault Moving h k u n = absurd u

made_spent : {L : Type 0} (call : Call) (fault : Option ConnectionFault) (held : Held L) (h : List Local) → IsHeld call held h → IsMadeIn fault held h → IsActive held ⊎ IsSpent h
made_spent call fault (Early o p) h k u = absurd u
made_spent call fault (Late s) h k u = running_spent call s h k (broken_made fault s h u.1)
made_spent call fault (Unopened c) h k u = absurd u
made_spent call fault Moving h k u = absurd u

close_last : (r : Reply) → IsCloseEnd r → IsLast r
close_last reply.Pending e = e
close_last reply.Connection e = e
close_last reply.Closed e = tt
close_last (reply.OpenError x) e = tt
close_last (reply.ConnectionError x) e = tt

spent_in : {L : Type 0} (q : Progress) (p : Peering L) (h : List Local) → HasIn q p h → (IsExchanged p.held → ⊥) → IsActive p.held ⊎ IsSpent h
spent_in progress.Idle p h x n = inr (uncalled x.made)
spent_in progress.Opening p h x n = waiting_spent x.call p.fault p.held h x.called.holds x.unmade n
spent_in progress.Open p h x n = made_spent x.call p.fault p.held h x.called.holds x.is_made
spent_in progress.Closing p h x n = made_spent x.call p.fault p.held h x.called.holds x.is_made
spent_in progress.Over p h (inl x) n = let last = refusal_last x.name x.error (replied_in h) x.replied in inr (answered last.0 (open_failed x.name x.error) last.1 tt)
spent_in progress.Over p h (inr x) n = elim x.replied [
  | inl e ↦ inr (answered (pending x.name ∷ made_reply x.name ∷ pending x.closing ∷ []) (answered_by x.closing x.reply) e (close_last x.reply x.end))
  | inr e ↦ inr (answered (pending x.name ∷ made_reply x.name ∷ []) (answered_by x.closing x.reply) e (close_last x.reply x.end))
]

pub spent_law : {L : Type 0} (p : Peering L) (h : List Local) → Has p h → (IsExchanged p.held → ⊥) → IsActive p.held ⊎ IsSpent h
spent_law p h x n = spent_in p.progress p h x n

-- ---- each empty frame was queued by a beat that was due

beats_held : {L : Type 0} (call : Call) (held : Held L) (h : List Local) → IsHeld call held h → AllBeats h
beats_held call (Early o p) h k = unsent_beats h (sent_early o.stage call o p h k)
beats_held call (Late s) h k = k.beats
beats_held call (Unopened c) h k = unsent_beats h k.sent
beats_held call Moving h k = absurd k

beats_of : {L : Type 0} (q : Progress) (p : Peering L) (h : List Local) → HasIn q p h → AllBeats h
beats_of progress.Idle p h x = unsent_beats h x.sent
beats_of progress.Opening p h x = beats_held x.call p.held h x.called.holds
beats_of progress.Open p h x = beats_held x.call p.held h x.called.holds
beats_of progress.Closing p h x = beats_held x.call p.held h x.called.holds
beats_of progress.Over p h (inl x) = beats_held x.call p.held h x.called.holds
beats_of progress.Over p h (inr x) = beats_held x.call p.held h x.called.holds

pub beats_law : {L : Type 0} (p : Peering L) (h : List Local) → Has p h → AllBeats h
beats_law p h x = beats_of p.progress p h x

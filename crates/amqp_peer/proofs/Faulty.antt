-- Why the transport of a connection failed, in words of its history.
use Rattle.std.proofs.Common.{◌≡◌, ◌≤◌, inl, inr, ℕ, List, [], ◌∷◌, ◌++◌, length, Some, refl, sym, ap, ◌∙◌, subst, append_assoc, arith}
use Rattle.std.proofs.lemmas.List.{append-nil}
use Rattle.amqp_wire.specs.declared.link.Link.{Ghosts}
use Rattle.amqp_wire.specs.declared.link.Held.TheVariants.{Failed as FailedWrite}
use Rattle.amqp_wire.specs.declared.link.Stop.TheVariants.{End as EndStop, Failed}
use Rattle.amqp_wire.specs.declared.link.IoKind.TheVariants.{Fault, End}
use Rattle.amqp_wire.specs.Events.{LinkEvent, NotRead, NotWritten, Includes, HasFailed, read_of}
use Rattle.amqp_wire.proofs.Events.{includes_left}
use Rattle.amqp_transport.specs.declared.frames.Frame.{Frame}
use Rattle.amqp_transport.specs.declared.transport.Error.{Error as TransportFault}
use Rattle.amqp_transport.specs.declared.transport.Error.TheVariants as fault
use Rattle.amqp_transport.specs.Clocks.{HasElapsed}
use Rattle.amqp_transport.specs.Kinds.{amqp_spells}
use Rattle.amqp_transport.specs.Stream.{Joined}
use Rattle.amqp_engine.proofs.Owed.{owes_little}
use Rattle.amqp_engine.specs.Faults.{IsFault}
use Rattle.amqp_engine.specs.Sentence.{Ran, read_limit}
use Rattle.amqp_engine.specs.State.{State}
use Rattle.amqp_words.specs.declared.call.Call.{Call}
use Rattle.amqp_peer.specs.declared.prepared.Prepared.{Prepared}
use Rattle.amqp_peer.specs.Causes.{prepared_in, has_layer, idle_with, largest_of, IsLayerRead, IsReadTo, BeginsWithOpen, EndsExchange, HasIdled, TransportCause, IsRecent, IsBrokenBy}
use Rattle.amqp_peer.specs.History.{Local, made_in, link_in, latest_in, given_in, sent_in, moment_in, since_in, at_link}
use Rattle.amqp_peer.specs.Peering.{IsRunning}
use Rattle.amqp_peer.specs.Prepared.{prepared_of}
use Rattle.amqp_peer.proofs.Histories.{made_in-keeps, link_in-append, link_in-at, latest_in-inside, moment_in-inside, inside-at, given_in-append, given_in-at, sent_in-append, once_more}
use Rattle.amqp_peer.proofs.Moved.{moved, passed, made_after, link_after, given_after, sent_after, since_parts, begins_more}
use Rattle.amqp_peer.proofs.Written.{read_running}

failed_more : (es fs : List LinkEvent) → HasFailed es → HasFailed (es ++ fs)
failed_more es fs (inl a) = inl (includes_left es fs (NotRead Failed) a)
failed_more es fs (inr a) = inr (includes_left es fs (NotWritten FailedWrite) a)

-- ---- the end of a run in which no frame was read

given_none : {L : Type 0} {link : Ghosts L} {s s' : State L} (h : List Local) (r : Ran link s s') → r.given ≡ [] → given_in (moved r ++ h) ≡ given_in h
given_none h r none = given_after h (passed r) ∙ ap (λ (u : List Frame). given_in h ++ u) none ∙ append-nil (given_in h)

-- the idle time had passed
idled : {L : Type 0} {link : Ghosts L} (at : ℕ) (call : Call) (s s' : State L) (h : List Local) (r : Ran link s s') → IsRunning call s h → prepared_in (made_in h) ≡ prepared_of call → moment_in h ≡ at → r.given ≡ [] → HasElapsed s.wire.clock at → HasIdled (moved r ++ h)
idled at call s s' h r k prep m none e =
    let i : idle_with (prepared_in (made_in (moved r ++ h))) ≡ s.wire.clock.idle = ap (λ (cs : List (ℕ × Call)). idle_with (prepared_in cs)) (made_after h (passed r)) ∙ ap idle_with (prep ∙ k.prepared) ∙ sym k.idle in
    let now : moment_in (moved r ++ h) ≡ at = moment_in-inside (moved r) h (passed r).inside ∙ m in
    let since : since_in (moved r ++ h) ≡ since_in h = since_parts r.events r.given r.queued h none in
    record {
      began = once_more EndsExchange (moved r) h k.began;
      opens = subst BeginsWithOpen (sym (sent_after h (passed r))) (begins_more (sent_in h) r.queued k.opens);
      runs = omega (arith, i, e.runs);
      passed = omega (arith, i, e.passed, k.start, since, now);
    }

-- what is not taken up of what was read
read_same : (h h' : List Local) (rest : List ℕ) → made_in h' ≡ made_in h → link_in h' ≡ link_in h → given_in h' ≡ given_in h → IsReadTo h rest → IsReadTo h' rest
read_same h h' rest m l g t =
    record {
      head = t.head;
      behind = t.behind;
      read = ap read_of l ∙ t.read;
      layer = subst (λ (cs : List (ℕ × Call)). IsLayerRead (has_layer cs) t.head) (sym m) t.layer;
      joined = subst (λ (xs : List Frame). Joined 0 amqp_spells t.behind xs rest) (sym g) t.joined;
    }

read_after : {L : Type 0} {link : Ghosts L} (call : Call) (s s' : State L) (h : List Local) (r : Ran link s s') → IsRunning call s h → r.given ≡ [] → IsReadTo (moved r ++ h) (s.wire.codec.input ++ read_of r.events)
read_after call s s' h r k none =
    read_same (at_link r.events ++ h) (moved r ++ h) (s.wire.codec.input ++ read_of r.events) (made_after h (passed r) ∙ sym (made_in-keeps (at_link r.events) h (inside-at r.events)))
    (link_after h (passed r) ∙ sym (link_in-append (at_link r.events) h ∙ ap (λ (u : List LinkEvent). u ++ link_in h) (link_in-at r.events)))
    (given_after h (passed r) ∙ ap (λ (u : List Frame). given_in h ++ u) (none ∙ sym (given_in-at r.events)) ∙ sym (given_in-append (at_link r.events) h)) (read_running call s h r.events k)

-- the limit of it
limit_after : {L : Type 0} {link : Ghosts L} (call : Call) (s s' : State L) (h : List Local) (r : Ran link s s') → IsRunning call s h → prepared_in (made_in h) ≡ prepared_of call → r.given ≡ []
    → s.wire.codec.decoder ≡ read_limit (largest_of (prepared_in (made_in (moved r ++ h)))) (given_in (moved r ++ h))
limit_after call s s' h r k prep none =
    let own : largest_of (prepared_in (made_in (moved r ++ h))) ≡ s.settings.largest_read = ap (λ (cs : List (ℕ × Call)). largest_of (prepared_in cs)) (made_after h (passed r)) ∙ ap largest_of (prep ∙ k.prepared) ∙ sym k.own in
    k.runs.bounded.reads ∙ sym (ap (λ (n : ℕ). read_limit n (given_in (moved r ++ h))) own ∙ ap (λ (u : List Frame). read_limit s.settings.largest_read u) (given_none h r none))

-- a call was made before it
pub called_by : (cs : List (ℕ × Call)) (p : Prepared) → prepared_in cs ≡ Some p → 1 ≤ length cs
called_by [] p e = absurd (cc e)
called_by (c ∷ cs) p e = omega arith

called_after : {L : Type 0} {link : Ghosts L} (call : Call) (s s' : State L) (h : List Local) (r : Ran link s s') → IsRunning call s h → prepared_in (made_in h) ≡ prepared_of call → 1 ≤ length (made_in (moved r ++ h))
called_after call s s' h r k prep = called_by (made_in (moved r ++ h)) k.p (ap prepared_in (made_after h (passed r)) ∙ prep ∙ k.prepared)

-- the link failed in it, or its input ended
failed_after : {L : Type 0} {link : Ghosts L} {s s' : State L} (P : List LinkEvent → Type 0) (h : List Local) (r : Ran link s s') → ((es fs : List LinkEvent) → P es → P (es ++ fs)) → P r.events → P (link_in (moved r ++ h)) × P (latest_in (moved r ++ h))
failed_after P h r more c =
    (subst P (sym (link_after h (passed r))) (more r.events (link_in h) c), subst P (sym (latest_in-inside (moved r) h (passed r).inside ∙ ap (λ (u : List LinkEvent). u ++ latest_in h) (passed r).link)) (more r.events (latest_in h) c))

-- ---- why the transport failed

broken_at : (e : TransportFault) (h : List Local) → TransportCause e h → IsRecent e h → IsBrokenBy e h
broken_at e h c n = record { later = []; earlier = h; split = refl; cause = c; recent = n; still = (refl, refl) }

pub broken_after : {L : Type 0} (link : Ghosts L) (at : ℕ) (call : Call) (s s' : State L) (h : List Local) (r : Ran link s s') (t : TransportFault) → IsRunning call s h → prepared_in (made_in h) ≡ prepared_of call → moment_in h ≡ at → r.given ≡ [] → IsFault at s r.events t → IsBrokenBy t (moved r ++ h)
broken_after link at call s s' h r (fault.Memory a) k prep m none c = absurd c
broken_after link at call s s' h r (fault.Io Fault) k prep m none c = let f = failed_after HasFailed h r failed_more c in broken_at (fault.Io Fault) (moved r ++ h) f.0 f.1
broken_after link at call s s' h r (fault.Io End) k prep m none c =
    let f = failed_after (λ (es : List LinkEvent). Includes es (NotRead EndStop)) h r (λ es fs i. includes_left es fs (NotRead EndStop) i) c in broken_at (fault.Io End) (moved r ++ h) f.0 f.1
broken_after link at call s s' h r fault.IdleTimeoutElapsed k prep m none c = broken_at fault.IdleTimeoutElapsed (moved r ++ h) (idled at call s s' h r k prep m none c) tt
broken_after link at call s s' h r fault.DecodeError k prep m none c =
    broken_at fault.DecodeError (moved r ++ h) (record { limit = s.wire.codec.decoder; rest = s.wire.codec.input ++ read_of r.events; is_limit = limit_after call s s' h r k prep none; read = read_after call s s' h r k none; unspelled = c }) tt
broken_after link at call s s' h r fault.NotImplemented k prep m none c =
    broken_at fault.NotImplemented (moved r ++ h) (record { limit = s.wire.codec.decoder; rest = s.wire.codec.input ++ read_of r.events; is_limit = limit_after call s s' h r k prep none; read = read_after call s s' h r k none; foreign = c }) tt
broken_after link at call s s' h r fault.FramingError k prep m none (inl c) =
    broken_at fault.FramingError (moved r ++ h) (inl (record { called = called_after call s s' h r k prep; limit = s.wire.codec.decoder; rest = s.wire.codec.input ++ read_of r.events; is_limit = limit_after call s s' h r k prep none; read = read_after call s s' h r k none; refused = c })) tt
broken_after link at call s s' h r fault.FramingError k prep m none (inr c) = absurd (owes_little s k.runs.limited c)

-- a frame of the end's own was too large, and then nothing was read or queued
pub broken_large : (es h : List Local) → TransportCause fault.FramingError h → given_in es ≡ [] → sent_in es ≡ [] → IsBrokenBy fault.FramingError (es ++ h)
broken_large es h c g s = record { later = es; earlier = h; split = refl; cause = c; recent = tt; still = (g, s) }

-- it stays the cause while no frame is read or queued
pub broken_more : (e : TransportFault) (es h : List Local) → given_in es ≡ [] → sent_in es ≡ [] → IsBrokenBy e h → IsBrokenBy e (es ++ h)
broken_more e es h g s b =
    record {
      later = es ++ b.later;
      earlier = b.earlier;
      split = ap (λ (u : List Local). es ++ u) b.split ∙ sym (append_assoc es b.later b.earlier);
      cause = b.cause;
      recent = b.recent;
      still = (given_in-append es b.later ∙ ap (λ (u : List Frame). u ++ given_in es) b.still.0 ∙ g, sent_in-append es b.later ∙ ap (λ (u : List Frame). u ++ sent_in es) b.still.1 ∙ s);
    }

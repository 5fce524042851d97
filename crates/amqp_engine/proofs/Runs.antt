-- Each thing that an engine does is a run, and runs follow one another.
use Rattle.std.proofs.Common.{◌≡◌, ◌≤◌, inl, inr, ℕ, List, [], ◌∷◌, ◌++◌, true, false, Result, Ok, Err, refl, sym, ap, ◌∙◌, subst, append_assoc, arith}
use Rattle.std.proofs.Math.Path.{ap₂}
use Rattle.std.proofs.lemmas.Bool.{cases_lt}
use Rattle.std.proofs.lemmas.List.{append-nil}
use Rattle.std.proofs.lemmas.List.Elements.{All-nil, All-cons, All-append}
use Rattle.std.proofs.lemmas.Grind.{flat_map-append}
use Rattle.amqp_wire.specs.declared.link.Link.{Ghosts}
use Rattle.amqp_wire.specs.Codec.{Codec}
use Rattle.amqp_wire.specs.Events.{LinkEvent, Went, read_of, wrote_of}
use Rattle.amqp_wire.proofs.Events.{went_then, read_of-append, wrote_of-append}
use Rattle.amqp_transport.specs.declared.frames.Frame.{Frame}
use Rattle.amqp_transport.specs.declared.idle_clock.IdleClock.{IdleClock}
use Rattle.amqp_transport.specs.declared.transport.Error.{Error as TransportFault}
use Rattle.amqp_transport.specs.declared.transport.Flush.{Flush}
use Rattle.amqp_transport.specs.declared.transport.Next.{Next}
use Rattle.amqp_transport.specs.declared.transport.Next.TheVariants as next
use Rattle.amqp_transport.specs.Causes.{clock_after}
use Rattle.amqp_transport.specs.Kinds.{amqp_spells}
use Rattle.amqp_transport.specs.Stream.{Joined, Grew, frames_of}
use Rattle.amqp_transport.specs.Wire.{Wire, FlushedTo}
use Rattle.amqp_engine.specs.declared.phase.Phase.{Phase}
use Rattle.amqp_engine.specs.declared.phase.Phase.TheVariants as p
use Rattle.amqp_transport.specs.amqp_frames.declared.shared.ConnectionStopReason.{ConnectionStopReason}
use Rattle.amqp_engine.specs.declared.connection.Settings.{Settings}
use Rattle.amqp_engine.specs.Calls.{IsTooLarge}
use Rattle.amqp_engine.specs.Heard.{IsHeard}
use Rattle.amqp_engine.specs.Phases.{is_stopped, has_failed}
use Rattle.amqp_engine.specs.State.{State, bytes_of, queueing, failing, failed_reason, IsFramed}
use Rattle.amqp_engine.specs.Sentence.{Ran, IsSaid, IsCalm, bytes_of_all, size_of_frame, AllWithin, IsLimited, IsBounded, HasStopped}
use Rattle.amqp_engine.proofs.Hearing.{heard_failed}
use Rattle.amqp_engine.proofs.Said.{said_failed}
use Rattle.amqp_engine.proofs.Bounds.{SameBounds, same_bounds, bounded_same, bounded_none}
use Rattle.amqp_engine.proofs.Writes.{write_events, went_writes, writes_of, writes_read}

-- what stays where a frame is read, or nothing, and the phase moves on
pub record Beside {L : Type 0} (old new : State L) : Type 0 where
  pub link : new.wire.codec.link ≡ old.wire.codec.link
  pub input : new.wire.codec.input ≡ old.wire.codec.input
  pub output : new.wire.codec.output ≡ old.wire.codec.output
  pub clock : new.wire.clock ≡ old.wire.clock
  pub kept : new.wire.kept ≡ old.wire.kept
  pub said : (sent : List Frame) → IsSaid old.phase sent → IsSaid new.phase sent
  pub stays : is_stopped old.phase ≡ true → HasStopped old new []
  pub limits : IsLimited old → IsLimited new × (old.wire.codec.encoder ≤ new.wire.codec.encoder)
  pub own : new.settings.largest_read ≡ old.settings.largest_read

-- what a run does not see: nothing was heard, either
pub record Alike {L : Type 0} (old new : State L) : Type 0 where
  pub beside : Beside old new
  pub heard : (before : List Frame) → IsHeard old.phase old.reason before → IsHeard new.phase new.reason before
  pub calm : IsCalm old → IsCalm new
  pub bounds : SameBounds old new

pub beside_refl : {L : Type 0} (s : State L) → Beside s s
beside_refl s =
    record {
      link = refl;
      input = refl;
      output = refl;
      clock = refl;
      kept = refl;
      said = λ sent i. i;
      stays = λ e. record { phase = e; reason = refl; none = refl };
      limits = λ l. (l, omega arith);
      own = refl;
    }

pub alike_refl : {L : Type 0} (s : State L) → Alike s s
alike_refl s = record { beside = beside_refl s; heard = λ before h. h; calm = λ c. c; bounds = same_bounds s }

pub alike_same : {L : Type 0} (old new : State L) → new ≡ old → Alike old new
alike_same {L} old new e = subst (λ (t : State L). Alike old t) (sym e) (alike_refl old)

-- an end that had not stopped goes on to another phase, with a reason for its stop
pub beside_moves : {L : Type 0} (s : State L) (q : Phase) (reason : ConnectionStopReason) → ((sent : List Frame) → IsSaid s.phase sent → IsSaid q sent) → (q ≡ p.OpenSent → ⊥) → is_stopped s.phase ≡ false → Beside s (record s { phase = q; reason = reason })
beside_moves s q reason i n e =
    record {
      link = refl;
      input = refl;
      output = refl;
      clock = refl;
      kept = refl;
      said = i;
      stays = λ f. absurd (cc (e, f));
      limits = λ l. (record { told = l.told; least = l.least; reads = l.reads; first = λ f. absurd (n f) }, omega arith);
      own = refl;
    }

not_open_sent : p.Failed ≡ p.OpenSent → ⊥
not_open_sent e = absurd (cc e)

failing_from : {L : Type 0} (q : Phase) (s : State L) → s.phase ≡ q → is_stopped q ≡ true → failed_reason q s.reason ≡ s.reason
failing_from p.Ended s e f = refl
failing_from p.Failed s e f = refl
failing_from p.OpenSent s e f = absurd (cc f)
failing_from p.Opened s e f = absurd (cc f)
failing_from p.CloseReceived s e f = absurd (cc f)
failing_from p.Refused s e f = absurd (cc f)
failing_from (p.Rejected why) s e f = absurd (cc f)
failing_from p.CloseSent s e f = absurd (cc f)
failing_from p.Discarding s e f = absurd (cc f)

pub beside_failing : {L : Type 0} (s : State L) → Beside s (failing s)
beside_failing s =
    record {
      link = refl;
      input = refl;
      output = refl;
      clock = refl;
      kept = refl;
      said = λ sent i. said_failed s.phase sent i;
      stays = λ f. record { phase = refl; reason = failing_from s.phase s refl f; none = refl };
      limits = λ l. (record { told = l.told; least = l.least; reads = l.reads; first = λ f. absurd (not_open_sent f) }, omega arith);
      own = refl;
    }

pub calm_failing : {L : Type 0} (s : State L) → IsCalm (failing s)
calm_failing s f = absurd (cc f)

pub alike_failing : {L : Type 0} (old new : State L) → new ≡ failing old → Alike old new
alike_failing {L} old new e =
    subst (λ (t : State L). Alike old t) (sym e) (record { beside = beside_failing old; heard = λ before h. heard_failed old.phase old.reason before h; calm = λ c. calm_failing old; bounds = record { reads = refl; writes = refl; own = refl } })

-- a run by these events, with these frames given and queued
pub record RanBy {L : Type 0} (link : Ghosts L) (old : State L) (events : List LinkEvent) (given queued : List Frame) (new : State L) : Type 0 where
  pub run : Ran link old new
  pub events_is : run.events ≡ events
  pub given_is : run.given ≡ given
  pub queued_is : run.queued ≡ queued

joined_none : (bytes : List ℕ) (frames : List Frame) (from to : List ℕ) → to ≡ from → Joined 0 amqp_spells bytes frames from → Joined 0 amqp_spells (bytes ++ []) (frames ++ []) to
joined_none bytes frames from to e j =
    subst (λ (u : List ℕ). Joined 0 amqp_spells (bytes ++ []) (frames ++ []) u) (sym e)
    (subst (λ (u : List ℕ). Joined 0 amqp_spells u (frames ++ []) from) (sym (append-nil bytes))
    (subst (λ (xs : List Frame). Joined 0 amqp_spells bytes xs from) (sym (append-nil frames)) j))

said_none : (q : Phase) (sent : List Frame) → IsSaid q sent → IsSaid q (sent ++ [])
said_none q sent s = subst (λ (xs : List Frame). IsSaid q xs) (sym (append-nil sent)) s

pub heard_none : (q : Phase) (reason : ConnectionStopReason) (before : List Frame) → IsHeard q reason before → IsHeard q reason (before ++ [])
heard_none q reason before h = subst (λ (xs : List Frame). IsHeard q reason xs) (sym (append-nil before)) h

-- nothing was read, written or queued
pub none_by : {L : Type 0} (link : Ghosts L) (old new : State L) → Alike old new → RanBy link old [] [] [] new
none_by {L} link old new a =
    record {
      run = record {
        events = [];
        queued = [];
        given = [];
        went = a.beside.link;
        goes_out = append-nil old.wire.codec.output ∙ sym a.beside.output;
        joined = λ bytes frames j. joined_none bytes frames old.wire.codec.input new.wire.codec.input a.beside.input j;
        said = λ sent s. said_none new.phase sent (a.beside.said sent s);
        heard = λ before h. heard_none new.phase new.reason before (a.heard before h);
        idle = ap (λ (c : IdleClock). c.idle) a.beside.clock;
        since = λ e. ap (λ (c : IdleClock). c.since) a.beside.clock;
        calm = a.calm;
        stays = a.beside.stays;
        limits = λ l. let m = a.beside.limits l in (m.0, m.1, tt);
        framed = All-nil IsFramed;
        bounds = λ before h k. bounded_none new before (bounded_same old new before a.bounds k);
        own = a.beside.own;
      };
      events_is = refl;
      given_is = refl;
      queued_is = refl;
    }

pub ran_none : {L : Type 0} (link : Ghosts L) (old new : State L) → Alike old new → Ran link old new
ran_none link old new a = (none_by link old new a).run

-- a frame that is not too large is within the limit
pub within : (limit : ℕ) (x : Frame) → (IsTooLarge limit x → ⊥) → size_of_frame x ≤ limit
within limit x n = elim (cases_lt limit (size_of_frame x)) [ inl a ↦ absurd (n (inl a)) | inr c ↦ omega arith ]

pub within_more : (m n : ℕ) (xs : List Frame) → m ≤ n → AllWithin m xs → AllWithin n xs
within_more m n [] e a = tt
within_more m n (x ∷ xs) e a = (omega (arith, e, a.0), within_more m n xs e a.1)

pub within_append : (n : ℕ) (xs ys : List Frame) → AllWithin n xs → AllWithin n ys → AllWithin n (xs ++ ys)
within_append n [] ys a c = c
within_append n (x ∷ xs) ys a c = (a.0, within_append n xs ys a.1 c)

both_none : (xs ys : List Frame) → xs ++ ys ≡ [] → (xs ≡ []) × (ys ≡ [])
both_none [] ys e = (refl, e)
both_none (x ∷ xs) ys e = absurd (cc e)

-- one run after another
pub ran_then : {L : Type 0} (link : Ghosts L) (a b c : State L) → Ran link a b → Ran link b c → Ran link a c
ran_then link a b c m n =
    record {
      events = n.events ++ m.events;
      queued = m.queued ++ n.queued;
      given = m.given ++ n.given;
      went = went_then link a.wire.codec.link b.wire.codec.link c.wire.codec.link m.events n.events m.went n.went;
      goes_out = ap (λ (u : List ℕ). a.wire.codec.output ++ u) (flat_map-append bytes_of m.queued n.queued)
          ∙ sym (append_assoc a.wire.codec.output (bytes_of_all m.queued) (bytes_of_all n.queued))
          ∙ ap (λ (u : List ℕ). u ++ bytes_of_all n.queued) m.goes_out
          ∙ append_assoc (wrote_of m.events) b.wire.codec.output (bytes_of_all n.queued)
          ∙ ap (λ (u : List ℕ). wrote_of m.events ++ u) n.goes_out
          ∙ sym (append_assoc (wrote_of m.events) (wrote_of n.events) c.wire.codec.output)
          ∙ ap (λ (u : List ℕ). u ++ c.wire.codec.output) (sym (wrote_of-append n.events m.events));
      joined = λ bytes frames j. subst (λ (u : List ℕ). Joined 0 amqp_spells u (frames ++ (m.given ++ n.given)) c.wire.codec.input)
          (append_assoc bytes (read_of m.events) (read_of n.events) ∙ ap (λ (u : List ℕ). bytes ++ u) (sym (read_of-append n.events m.events)))
          (subst (λ (xs : List Frame). Joined 0 amqp_spells ((bytes ++ read_of m.events) ++ read_of n.events) xs c.wire.codec.input) (append_assoc frames m.given n.given)
          (n.joined (bytes ++ read_of m.events) (frames ++ m.given) (m.joined bytes frames j)));
      said = λ sent s. subst (λ (xs : List Frame). IsSaid c.phase xs) (append_assoc sent m.queued n.queued) (n.said (sent ++ m.queued) (m.said sent s));
      heard = λ before h. subst (λ (xs : List Frame). IsHeard c.phase c.reason xs) (append_assoc before m.given n.given) (n.heard (before ++ m.given) (m.heard before h));
      idle = n.idle ∙ m.idle;
      since = λ e. let none = both_none m.given n.given e in n.since none.1 ∙ m.since none.0;
      calm = λ k. n.calm (m.calm k);
      stays = λ e.
          let f = m.stays e in
          let h = n.stays f.phase in
          record { phase = h.phase; reason = h.reason ∙ f.reason; none = ap (λ (xs : List Frame). xs ++ n.queued) f.none ∙ h.none };
      limits = λ l.
          let f = m.limits l in
          let h = n.limits f.0 in
          let both : a.wire.codec.encoder ≤ c.wire.codec.encoder = omega (arith, f.1, h.1) in
          (h.0, both, within_append c.wire.codec.encoder m.queued n.queued (within_more b.wire.codec.encoder c.wire.codec.encoder m.queued h.1 f.2) h.2);
      framed = All-append IsFramed m.queued n.queued m.framed n.framed;
      bounds = λ before h k. subst (λ (xs : List Frame). IsBounded c xs) (append_assoc before m.given n.given) (n.bounds (before ++ m.given) (m.heard before h) (m.bounds before h k));
      own = n.own ∙ m.own;
    }

pub then_by : {L : Type 0} (link : Ghosts L) (a b c : State L) (es fs : List LinkEvent) (gs hs qs rs : List Frame) → RanBy link a es gs qs b → RanBy link b fs hs rs c → RanBy link a (fs ++ es) (gs ++ hs) (qs ++ rs) c
unfolding ran_then
then_by link a b c es fs gs hs qs rs m n =
    record {
      run = ran_then link a b c m.run n.run;
      events_is = ap₂ (λ (u v : List LinkEvent). u ++ v) n.events_is m.events_is;
      given_is = ap₂ (λ (u v : List Frame). u ++ v) m.given_is n.given_is;
      queued_is = ap₂ (λ (u v : List Frame). u ++ v) m.queued_is n.queued_is;
    }

-- a run by what is told of it
pub by_itself : {L : Type 0} (link : Ghosts L) (old new : State L) (r : Ran link old new) → RanBy link old r.events r.given r.queued new
by_itself link old new r = record { run = r; events_is = refl; given_is = refl; queued_is = refl }

-- what may follow where a frame is queued
pub record CanFollow {L : Type 0} (old : State L) (x : Frame) (after : State L) : Type 0 where
  pub wire : after.wire ≡ (queueing old x).wire
  pub settings : after.settings ≡ old.settings
  pub said : (sent : List Frame) → IsSaid old.phase sent → IsSaid after.phase (sent ++ x ∷ [])
  pub heard : (before : List Frame) → IsHeard old.phase old.reason before → IsHeard after.phase after.reason before
  pub live : is_stopped old.phase ≡ false
  pub phase : after.phase ≡ p.OpenSent → ⊥

pub not_failed : (q : Phase) → is_stopped q ≡ false → has_failed q ≡ false
not_failed p.OpenSent e = refl
not_failed p.Opened e = refl
not_failed p.CloseReceived e = refl
not_failed p.Refused e = refl
not_failed (p.Rejected why) e = refl
not_failed p.CloseSent e = refl
not_failed p.Discarding e = refl
not_failed p.Ended e = refl
not_failed p.Failed e = absurd (cc e)

-- a frame was queued
pub put_by : {L : Type 0} (link : Ghosts L) (old new : State L) (x : Frame) → CanFollow old x new → size_of_frame x ≤ old.wire.codec.encoder → IsFramed x → RanBy link old [] [] (x ∷ []) new
put_by {L} link old new x f fits spells =
    let lim : new.wire.codec.encoder ≡ old.wire.codec.encoder = ap (λ (w : Wire L). w.codec.encoder) f.wire in
    let reads : new.wire.codec.decoder ≡ old.wire.codec.decoder = ap (λ (w : Wire L). w.codec.decoder) f.wire in
    let own : new.settings.largest_read ≡ old.settings.largest_read = ap (λ (t : Settings). t.largest_read) f.settings in
    record {
      run = record {
        events = [];
        queued = x ∷ [];
        given = [];
        went = ap (λ (w : Wire L). w.codec.link) f.wire;
        goes_out = ap (λ (u : List ℕ). old.wire.codec.output ++ u) (append-nil (bytes_of x)) ∙ sym (ap (λ (w : Wire L). w.codec.output) f.wire);
        joined = λ bytes frames j. joined_none bytes frames old.wire.codec.input new.wire.codec.input (ap (λ (w : Wire L). w.codec.input) f.wire) j;
        said = f.said;
        heard = λ before h. heard_none new.phase new.reason before (f.heard before h);
        idle = ap (λ (w : Wire L). w.clock.idle) f.wire;
        since = λ e. ap (λ (w : Wire L). w.clock.since) f.wire;
        calm = λ k n. ap (λ (w : Wire L). w.kept) f.wire ∙ k (not_failed old.phase f.live);
        stays = λ e. absurd (cc (f.live, e));
        limits = λ l. (
          record { told = ap (λ (t : Settings). t.largest_written) f.settings ∙ l.told ∙ sym lim; least = omega (arith, lim, l.least); reads = omega (arith, reads, l.reads); first = λ e. absurd (f.phase e) },
          omega (arith, lim),
          (omega (arith, lim, fits), tt),
        );
        framed = All-cons IsFramed x [] spells (All-nil IsFramed);
        bounds = λ before h k. bounded_none new before (bounded_same old new before (record { reads = reads; writes = lim; own = own }) k);
        own = own;
      };
      events_is = refl;
      given_is = refl;
      queued_is = refl;
    }

idle_after : {X : Type 0} (answer : Result (Next X) TransportFault) (at : ℕ) (c : IdleClock) → (clock_after answer at c).idle ≡ c.idle
idle_after (Ok (next.Frame x)) at c = refl
idle_after (Ok next.Pending) at c = refl
idle_after (Ok next.Ended) at c = refl
idle_after (Err e) at c = refl

since_after : {X : Type 0} (answer : Result (Next X) TransportFault) (at : ℕ) (c : IdleClock) → frames_of answer ≡ [] → (clock_after answer at c).since ≡ c.since
since_after (Ok (next.Frame x)) at c e = absurd (cc e)
since_after (Ok next.Pending) at c e = refl
since_after (Ok next.Ended) at c e = refl
since_after (Err e) at c n = refl

-- bytes were read, and a frame given or not
pub read_by : {L : Type 0} (link : Ghosts L) (at : ℕ) (old : State L) (wire : Wire L) (answer : Result (Next Frame) TransportFault) (new : State L) (g : Grew link 0 amqp_spells old.wire at answer wire) → Beside (record old { wire = wire }) new → ((before : List Frame) → IsHeard old.phase old.reason before → IsHeard new.phase new.reason (before ++ frames_of answer)) → (IsCalm old → IsCalm new) → ((before : List Frame) → IsHeard old.phase old.reason before → IsBounded old before → IsBounded new (before ++ frames_of answer)) → RanBy link old g.events (frames_of answer) [] new
read_by {L} link at old wire answer new g b heard calm bounds =
    let lim : wire.codec.encoder ≡ old.wire.codec.encoder = ap (λ (l : ℕ × ℕ). l.1) g.limits in
    let reads : wire.codec.decoder ≡ old.wire.codec.decoder = ap (λ (l : ℕ × ℕ). l.0) g.limits in
    record {
      run = record {
        events = g.events;
        queued = [];
        given = frames_of answer;
        went = subst (λ (l : L). Went link old.wire.codec.link g.events l) (sym b.link) g.went;
        goes_out = append-nil old.wire.codec.output ∙ sym g.output ∙ sym b.output ∙ ap (λ (u : List ℕ). u ++ new.wire.codec.output) (sym g.silent);
        joined = λ bytes frames j. subst (λ (u : List ℕ). Joined 0 amqp_spells (bytes ++ read_of g.events) (frames ++ frames_of answer) u) (sym b.input) (g.grows bytes frames j);
        said = λ sent s. said_none new.phase sent (b.said sent s);
        heard = heard;
        idle = ap (λ (c : IdleClock). c.idle) (b.clock ∙ g.clock) ∙ idle_after answer at old.wire.clock;
        since = λ e. ap (λ (c : IdleClock). c.since) (b.clock ∙ g.clock) ∙ since_after answer at old.wire.clock e;
        calm = calm;
        stays = λ e. let f = b.stays e in record { phase = f.phase; reason = f.reason; none = f.none };
        limits = λ l.
            let m = b.limits (record { told = l.told ∙ sym lim; least = omega (arith, lim, l.least); reads = omega (arith, reads, l.reads); first = λ f. lim ∙ l.first f }) in
            (m.0, omega (arith, lim, m.1), tt);
        framed = All-nil IsFramed;
        bounds = bounds;
        own = b.own;
      };
      events_is = refl;
      given_is = refl;
      queued_is = refl;
    }

-- bytes were written
pub flushed_by : {L : Type 0} (link : Ghosts L) (old : State L) (wire : Wire L) (answer : Result Flush TransportFault) (f : FlushedTo link old.wire answer wire) → RanBy link old (write_events f.flushed.bytes f.held) [] [] (record old { wire = wire })
flushed_by {L} link old wire answer f =
    let same : wire ≡ record old.wire { codec = record old.wire.codec { link = wire.codec.link; output = wire.codec.output } } = f.rest ∙ ap (λ (c : Codec L). record old.wire { codec = c }) f.flushed.rest in
    let lim : wire.codec.encoder ≡ old.wire.codec.encoder = ap (λ (w : Wire L). w.codec.encoder) same in
    let reads : wire.codec.decoder ≡ old.wire.codec.decoder = ap (λ (w : Wire L). w.codec.decoder) same in
    record {
      run = record {
        events = write_events f.flushed.bytes f.held;
        queued = [];
        given = [];
        went = went_writes link old.wire.codec.link wire.codec.link f.flushed.bytes f.held f.flushed.writes;
        goes_out = append-nil old.wire.codec.output ∙ f.flushed.out ∙ ap (λ (u : List ℕ). u ++ wire.codec.output) (sym (writes_of f.flushed.bytes f.held));
        joined = λ bytes frames j. subst (λ (u : List ℕ). Joined 0 amqp_spells (bytes ++ u) (frames ++ []) wire.codec.input) (sym (writes_read f.flushed.bytes f.held))
            (joined_none bytes frames old.wire.codec.input wire.codec.input (ap (λ (w : Wire L). w.codec.input) same) j);
        said = λ sent s. said_none old.phase sent s;
        heard = λ before h. heard_none old.phase old.reason before h;
        idle = ap (λ (w : Wire L). w.clock.idle) same;
        since = λ e. ap (λ (w : Wire L). w.clock.since) same;
        calm = λ k n. ap (λ (w : Wire L). w.kept) same ∙ k n;
        stays = λ e. record { phase = e; reason = refl; none = refl };
        limits = λ l. (record { told = l.told ∙ sym lim; least = omega (arith, lim, l.least); reads = omega (arith, reads, l.reads); first = λ e. lim ∙ l.first e }, omega (arith, lim), tt);
        framed = All-nil IsFramed;
        bounds = λ before h k. bounded_none (record old { wire = wire }) before (bounded_same old (record old { wire = wire }) before (record { reads = reads; writes = lim; own = refl }) k);
        own = refl;
      };
      events_is = refl;
      given_is = refl;
      queued_is = refl;
    }

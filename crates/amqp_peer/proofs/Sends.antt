-- A frame of a session is given to the connection, in words of histories.
use Rattle.std.proofs.Common.{◌≡◌, inl, inr, ℕ, List, [], ◌∷◌, ◌++◌, Bool, true, false, Option, Result, Ok, Err, refl, sym, ap, ◌∙◌, subst}
use Rattle.amqp_wire.specs.declared.link.Link.{Ghosts}
use Rattle.amqp_wire.specs.Events.{LinkEvent}
use Rattle.amqp_frames.specs.declared.body.FrameBody.{FrameBody}
use Rattle.amqp_frames.specs.declared.body.FrameBody.TheVariants as b
use Rattle.amqp_frames.specs.Session.{of_session}
use Rattle.amqp_transport.specs.declared.frames.Frame.{Frame}
use Rattle.amqp_transport.specs.declared.heart_beat.HeartBeat.{HeartBeat}
use Rattle.amqp_transport.specs.declared.transport.Error.TheVariants as transport
use Rattle.amqp_engine.specs.declared.error.Error.{Error as ConnectionFault}
use Rattle.amqp_engine.specs.declared.error.Error.TheVariants as connection
use Rattle.amqp_engine.specs.declared.phase.Phase.{Phase}
use Rattle.amqp_engine.specs.declared.phase.Phase.TheVariants as p
use Rattle.amqp_engine.specs.Beats.{IsBeat, IsDueFor, beat_said}
use Rattle.amqp_engine.specs.Calls.{IsTooLarge, Puts}
use Rattle.amqp_engine.specs.Channels.{Channels, said_in, said_all}
use Rattle.amqp_engine.specs.Closers.{Closer, This, closer_by, IsCloser, KeepsCloser}
use Rattle.amqp_engine.specs.Faults.{AllOwed}
use Rattle.amqp_engine.specs.Phases.{has_failed, is_open, hears}
use Rattle.amqp_engine.specs.State.{State, sending, failing}
use Rattle.amqp_engine.proofs.Closers.{keeps_failing}
use Rattle.amqp_engine.proofs.Runs.{RanBy}
use Rattle.amqp_engine.proofs.Said.{session_is_inner}
use Rattle.amqp_engine.proofs.Steps.{queued_of, puts_by, inner_follows, is_open_only}
use Rattle.amqp_words.specs.declared.call.Call.{Call}
use Rattle.amqp_peer.specs.declared.held.Held.{Held}
use Rattle.amqp_peer.specs.declared.held.Held.TheVariants.{Early, Late, Unopened, Moving}
use Rattle.amqp_peer.specs.Causes.{TransportCause, in_session}
use Rattle.amqp_peer.specs.Handed.{Sent}
use Rattle.amqp_peer.specs.Hearing.{hears_in, IsOpenIn, channels_in}
use Rattle.amqp_peer.specs.Held.{IsSound, IsLeaving, link_at}
use Rattle.amqp_peer.specs.History.{Local, link_in, moment_in, made_in}
use Rattle.amqp_peer.specs.Passing.{IsPassed, IsUnpassable, PassesIf, PassesLate, Passes}
use Rattle.amqp_peer.specs.Peering.{Peering, Has, IsRunning, IsUnmadeAt}
use Rattle.amqp_peer.specs.Runs.{first_fault}
use Rattle.amqp_peer.proofs.Beats.{IsTimed}
use Rattle.amqp_peer.proofs.Grows.{moves_in, fault_same, broken_same, unheard_of, opened_heard}
use Rattle.amqp_peer.proofs.Moved.{moved, passed}
use Rattle.amqp_peer.proofs.Said.{IsDue}
use Rattle.amqp_peer.proofs.Starts.{large_fault, large_breaks}

-- ---- a frame of a session is no beat, and no Close

session_undue : (body : FrameBody) (at : ℕ) (beat : HeartBeat) → of_session body ≡ true → IsDueFor body at beat × (beat ≡ beat_said body at beat)
session_undue (b.Open x) at beat t = absurd (cc t)
session_undue (b.Close x) at beat t = absurd (cc t)
session_undue b.Empty at beat t = absurd (cc t)
session_undue (b.Begin x) at beat t = (tt, refl)
session_undue (b.Attach x) at beat t = (tt, refl)
session_undue (b.Flow x) at beat t = (tt, refl)
session_undue (b.Transfer x y) at beat t = (tt, refl)
session_undue (b.Disposition x) at beat t = (tt, refl)
session_undue (b.Detach x) at beat t = (tt, refl)
session_undue (b.End x) at beat t = (tt, refl)

session_closes : (body : FrameBody) (c : Closer) → of_session body ≡ true → closer_by This body c ≡ c
session_closes (b.Open x) c t = absurd (cc t)
session_closes (b.Close x) c t = absurd (cc t)
session_closes b.Empty c t = absurd (cc t)
session_closes (b.Begin x) c t = refl
session_closes (b.Attach x) c t = refl
session_closes (b.Flow x) c t = refl
session_closes (b.Transfer x y) c t = refl
session_closes (b.Disposition x) c t = refl
session_closes (b.Detach x) c t = refl
session_closes (b.End x) c t = refl

-- ---- runs of the connection

sends_by : {L : Type 0} (link : Ghosts L) (s s' : State L) (x : Frame) (result : Result Unit ConnectionFault) → s.phase ≡ p.Opened → of_session x.body ≡ true → Puts s x (sending s x) tt result s' → RanBy link s [] [] (queued_of x result) s'
sends_by link s s' x result o t q = puts_by link s x (sending s x) tt result s' (inner_follows s x (sending s x) o refl refl refl refl (session_is_inner x.body t)) q

queued_timed : {L : Type 0} (link : Ghosts L) (at : ℕ) (s s' : State L) (x : Frame) (by : RanBy link s [] [] (x ∷ []) s') → of_session x.body ≡ true → s' ≡ sending s x → IsTimed at s by.run.given by.run.queued s'
queued_timed {L} link at s s' x by t n =
    let k = session_undue x.body at s.beat t in
    let keeps : KeepsCloser s [] (x ∷ []) s' = λ c i.
    subst (λ (z : State L). IsCloser z.phase z.reason (closer_by This x.body c)) (sym n) (subst (λ (d : Closer). IsCloser s.phase s.reason d) (sym (session_closes x.body c t)) i) in
    record {
      moment = inl (by.given_is, ap (λ (z : State L). z.wire.clock.since) n);
      beat = subst (λ (gs : List Frame). IsBeat at s gs by.run.queued s') (sym by.given_is) (subst (λ (qs : List Frame). IsBeat at s [] qs s') (sym by.queued_is) (k.0, ap (λ (z : State L). z.beat) n ∙ k.1));
      closer = subst (λ (gs : List Frame). KeepsCloser s gs by.run.queued s') (sym by.given_is) (subst (λ (qs : List Frame). KeepsCloser s [] qs s') (sym by.queued_is) keeps);
    }

failed_timed : {L : Type 0} (link : Ghosts L) (at : ℕ) (s s' : State L) (by : RanBy link s [] [] [] s') → s' ≡ failing s → IsTimed at s by.run.given by.run.queued s'
failed_timed {L} link at s s' by n =
    record {
      moment = inl (by.given_is, ap (λ (z : State L). z.wire.clock.since) n);
      beat = subst (λ (gs : List Frame). IsBeat at s gs by.run.queued s') (sym by.given_is) (subst (λ (qs : List Frame). IsBeat at s [] qs s') (sym by.queued_is) (ap (λ (z : State L). z.beat) n));
      closer = subst (λ (gs : List Frame). KeepsCloser s gs by.run.queued s') (sym by.given_is) (subst (λ (qs : List Frame). KeepsCloser s [] qs s') (sym by.queued_is) (keeps_failing s s s' n));
    }

-- ---- histories

queued_due : (calls : List (ℕ × Call)) (x : Frame) (queued : List Frame) (q : Phase) → q ≡ p.Opened → of_session x.body ≡ true → queued ≡ x ∷ [] → IsDue calls q queued
queued_due calls x queued q o t e = inr (inr (x, o, t, e))

none_due : (calls : List (ℕ × Call)) (queued : List Frame) (q : Phase) → queued ≡ [] → IsDue calls q queued
none_due calls queued q e = inl (subst (AllOwed q) (sym e) tt)

-- where it is too large
sent_large : {L : Type 0} (call : Call) (s : State L) (h : List Local) (x : Frame) → IsRunning call s h → of_session x.body ≡ true → IsTooLarge s.wire.codec.encoder x → TransportCause transport.FramingError h
sent_large call s h x k t l = inr (record { began = k.began; limit = s.wire.codec.encoder; x = x; is_limit = k.runs.bounded.writes; own = in_session x t; large = l })

not_unmade : {L : Type 0} (call : Call) (fault : Option ConnectionFault) (s : State L) (h : List Local) → IsRunning call s h → s.phase ≡ p.Opened → IsUnmadeAt fault s h → ⊥
not_unmade call fault s h k o u = unheard_of fault s h u (ap has_failed o) (opened_heard call s h k o)

sent_has : {L : Type 0} (link : Ghosts L) (old : Peering L) (s s' : State L) (x : Frame) (h : List Local) (by : RanBy link s [] [] (x ∷ []) s') → old.held ≡ Late s → s.phase ≡ p.Opened → of_session x.body ≡ true → s' ≡ sending s x → Has old h → Has (record old { held = Late s' }) (moved by.run ++ h)
sent_has {L} link old s s' x h by e o t n k =
    let same : s'.phase ≡ s.phase = ap (λ (z : State L). z.phase) n in
    moves_in link (moment_in h) old.progress old s s' old.fault h by.run (queued_timed link (moment_in h) s s' x by t n) (queued_due (made_in h) x by.run.queued s.phase o t by.queued_is) refl e
    (λ call r prep u. absurd (not_unmade call old.fault s h r o u))
    (λ call r prep g f. fault_same old.fault s s' h by.run (λ z. by.given_is) same f)
    (λ call r prep g. broken_same s s' h by.run (λ z. by.given_is) same g) (λ l. subst IsLeaving (sym same) l) k

too_large_has : {L : Type 0} (link : Ghosts L) (old : Peering L) (s s' : State L) (x : Frame) (h : List Local) (by : RanBy link s [] [] [] s') → old.held ≡ Late s → s.phase ≡ p.Opened → of_session x.body ≡ true → IsTooLarge s.wire.codec.encoder x → s' ≡ failing s → Has old h
    → Has (record old { held = Late s'; fault = first_fault old.fault (connection.TransportError transport.FramingError) }) (moved by.run ++ h)
too_large_has {L} link old s s' x h by e o t l n k =
    moves_in link (moment_in h) old.progress old s s' (first_fault old.fault (connection.TransportError transport.FramingError)) h by.run (failed_timed link (moment_in h) s s' by n) (none_due (made_in h) by.run.queued s.phase by.queued_is) refl e
    (λ call r prep u. absurd (not_unmade call old.fault s h r o u))
    (λ call r prep g i. large_fault old.fault s s' h by.run n by.given_is by.queued_is (sent_large call s h x r t l) i)
    (λ call r prep g. large_breaks s s' h by.run by.given_is by.queued_is (sent_large call s h x r t l)) (λ i. absurd (subst IsLeaving o i)) k

events_silent : {L : Type 0} {link : Ghosts L} {s s' : State L} (es : List LinkEvent) (gs qs : List Frame) (by : RanBy link s es gs qs s') → link_in (moved by.run) ≡ es
events_silent es gs qs by = (passed by.run).link ∙ by.events_is

-- ---- what becomes of it

-- it was queued
sent_queued : {L : Type 0} (link : Ghosts L) (old : Peering L) (s s' : State L) (x : Frame) (by : RanBy link s [] [] (x ∷ []) s') → old.held ≡ Late s → s.phase ≡ p.Opened → of_session x.body ≡ true → s' ≡ sending s x → Sent link x old (record old { held = Late s' })
sent_queued {L} link old s s' x by e o t n =
    let r = by.run in
    let same : s'.phase ≡ s.phase = ap (λ (z : State L). z.phase) n in
    record {
      events = moved r;
      inside = (passed r).inside;
      silent = events_silent [] [] (x ∷ []) by;
      deaf = (passed r).heard ∙ by.given_is;
      mute = (passed r).silent;
      said = inl ((passed r).said ∙ by.queued_is, subst (λ (y : Held L). IsOpenIn y) (sym e) o);
      opens = λ f z. same ∙ o;
      session = t;
      listens = λ z. ap hears_in e ∙ ap hears o;
      channels = ap (λ (z : State L). z.channels) n ∙ ap (λ (c : Channels). said_in c x) (sym (ap channels_in e)) ∙ ap (said_all (channels_in old.held)) (sym ((passed r).said ∙ by.queued_is));
      replies = refl;
      kind = refl;
      stays = λ z. subst (λ (y : Held L). IsSound y) (sym e) (ap has_failed o);
      link_is = λ d. ap (λ (z : State L). z.wire.codec.link) n ∙ sym (ap (link_at d) e);
      grows = λ h k. sent_has link old s s' x h by e o t n k;
    }

-- it was too large
sent_fails : {L : Type 0} (link : Ghosts L) (old : Peering L) (s s' : State L) (x : Frame) (by : RanBy link s [] [] [] s') → old.held ≡ Late s → s.phase ≡ p.Opened → of_session x.body ≡ true → IsTooLarge s.wire.codec.encoder x → s' ≡ failing s
    → Sent link x old (record old { held = Late s'; fault = first_fault old.fault (connection.TransportError transport.FramingError) })
sent_fails {L} link old s s' x by e o t l n =
    let r = by.run in
    let failed : s'.phase ≡ p.Failed = ap (λ (z : State L). z.phase) n in
    record {
      events = moved r;
      inside = (passed r).inside;
      silent = events_silent [] [] [] by;
      deaf = (passed r).heard ∙ by.given_is;
      mute = (passed r).silent;
      said = inr ((passed r).said ∙ by.queued_is, λ z. absurd (cc (z, failed)));
      opens = λ f z. absurd (cc (z, ap hears failed));
      session = t;
      listens = λ z. ap hears_in e ∙ ap hears o;
      channels = ap (λ (z : State L). z.channels) n ∙ sym (ap channels_in e) ∙ ap (said_all (channels_in old.held)) (sym ((passed r).said ∙ by.queued_is));
      replies = refl;
      kind = refl;
      stays = λ z. subst (λ (y : Held L). IsSound y) (sym e) (ap has_failed o);
      link_is = λ d. ap (λ (z : State L). z.wire.codec.link) n ∙ sym (ap (link_at d) e);
      grows = λ h k. too_large_has link old s s' x h by e o t l n k;
    }

-- the connection is not open
sent_kept : {L : Type 0} (link : Ghosts L) (old : Peering L) (s : State L) (x : Frame) → old.held ≡ Late s → is_open s.phase ≡ false → of_session x.body ≡ true → Sent link x old old
sent_kept {L} link old s x e o t =
    record {
      events = [];
      inside = tt;
      silent = refl;
      deaf = refl;
      mute = refl;
      said = inr (refl, λ z. absurd (cc (o, ap is_open (subst (λ (y : Held L). IsOpenIn y) e z))));
      opens = λ f z. f z;
      session = t;
      listens = λ z. z;
      channels = refl;
      replies = refl;
      kind = refl;
      stays = λ z. z;
      link_is = λ d. refl;
      grows = λ h k. k;
    }

passed_queued : {L : Type 0} (link : Ghosts L) (old new : Peering L) (s : State L) (x : Frame) (u : Unit {0}) → old.held ≡ Late s → s.phase ≡ p.Opened → of_session x.body ≡ true → IsPassed s x old new → Sent link x old new
passed_queued {L} link old new s x u e o t k =
    subst (λ (z : Peering L). Sent link x old z) (sym k.is) (sent_queued link old s (sending s x) x (sends_by link s (sending s x) x (Ok u) o t (refl, k.fits, refl, k.framed)) e o t refl)

passed_fails : {L : Type 0} (link : Ghosts L) (old new : Peering L) (s : State L) (x : Frame) → old.held ≡ Late s → s.phase ≡ p.Opened → of_session x.body ≡ true → IsUnpassable s x old new → Sent link x old new
passed_fails {L} link old new s x e o t k =
    subst (λ (z : Peering L). Sent link x old z) (sym k.is) (sent_fails link old s (failing s) x (sends_by link s (failing s) x (Err (connection.TransportError transport.FramingError)) o t (k.large, refl)) e o t k.large refl)

sent_if : {L : Type 0} (i : Bool) (link : Ghosts L) (old new : Peering L) (s : State L) (x : Frame) → is_open s.phase ≡ i → old.held ≡ Late s → of_session x.body ≡ true → PassesIf i s x old new → Sent link x old new
sent_if true link old new s x i e t (inl k) = passed_queued link old new s x tt e (is_open_only s.phase i) t k
sent_if true link old new s x i e t (inr k) = passed_fails link old new s x e (is_open_only s.phase i) t k
sent_if {L} false link old new s x i e t k = subst (λ (z : Peering L). Sent link x old z) (sym k) (sent_kept link old s x e i t)

sent_held : {L : Type 0} (link : Ghosts L) (held : Held L) (old new : Peering L) (x : Frame) → old.held ≡ held → of_session x.body ≡ true → PassesLate held x old new → Sent link x old new
sent_held link (Early o q) old new x e t k = absurd k
sent_held link (Late s) old new x e t k = sent_if (is_open s.phase) link old new s x refl e t k
sent_held link (Unopened c) old new x e t k = absurd k
sent_held link Moving old new x e t k = absurd k

pub sent_passes : {L : Type 0} (link : Ghosts L) (x : Frame) (old new : Peering L) → of_session x.body ≡ true → Passes x old new → Sent link x old new
sent_passes link x old new t k = sent_held link old.held old new x refl t k

-- Each call is a run.
use Rattle.std.proofs.Common.{arith, ◌≡◌, ℕ, List, [], ◌∷◌, ◌++◌, Bool, true, false, Option, Some, None, Result, Ok, Err, refl, sym, ap, ◌∙◌, subst}
use Rattle.amqp_wire.specs.declared.link.Link.{Ghosts}
use Rattle.amqp_composites.specs.declared.error.Error.{Error as AmqpError}
use Rattle.amqp_transport.specs.amqp_frames.declared.body.FrameBody.{FrameBody}
use Rattle.amqp_transport.specs.amqp_frames.declared.body.FrameBody.TheVariants as b
use Rattle.amqp_transport.specs.amqp_frames.Session.{of_session}
use Rattle.amqp_transport.specs.declared.frames.Frame.{Frame}
use Rattle.amqp_transport.specs.declared.transport.Error.{Error as TransportFault}
use Rattle.amqp_transport.specs.declared.transport.Error.TheVariants as fault
use Rattle.amqp_transport.specs.declared.transport.Flush.{Flush}
use Rattle.amqp_transport.specs.declared.transport.Next.{Next}
use Rattle.amqp_transport.specs.declared.transport.Next.TheVariants as next
use Rattle.amqp_transport.specs.Causes.{kept_after}
use Rattle.amqp_transport.specs.Kinds.{no_frame, amqp_spells}
use Rattle.amqp_transport.specs.Stream.{Grew, frames_of}
use Rattle.amqp_transport.specs.Wire.{Wire}
use Rattle.amqp_transport.specs.amqp_performatives.declared.open.Open.{Open}
use Rattle.amqp_transport.specs.amqp_frames.declared.shared.ConnectionStopReason.{ConnectionStopReason}
use Rattle.amqp_engine.specs.declared.phase.Rejection.{Rejection}
use Rattle.amqp_engine.specs.declared.phase.Rejection.TheVariants as rejection
use Rattle.amqp_engine.specs.declared.engine.EngineStep.{EngineStep}
use Rattle.amqp_engine.specs.declared.error.Error.{Error}
use Rattle.amqp_engine.specs.declared.error.Error.TheVariants as error
use Rattle.amqp_engine.specs.declared.phase.Phase.{Phase}
use Rattle.amqp_engine.specs.declared.phase.Phase.TheVariants as p
use Rattle.amqp_engine.specs.Phases.{has_failed, is_open, is_stopped, kind_of, IsInner}
use Rattle.amqp_engine.specs.State.{State, queueing, sending, failing, failed_reason, closing, close_frame, close_phase, entered, beating, remote_reason, answered_reason}
use Rattle.amqp_engine.specs.declared.sessions.Plan.{Plan}
use Rattle.amqp_engine.specs.declared.sessions.Plan.TheVariants as plan
use Rattle.amqp_engine.specs.declared.error.AllocSessionError.{AllocSessionError}
use Rattle.amqp_engine.specs.declared.error.AllocSessionError.TheVariants as alloc
use Rattle.amqp_engine.specs.Channels.{Channels, taken_in}
use Rattle.amqp_engine.specs.Machine.{received, awaited, arrived, outlasted, admitted, plan_of}
use Rattle.amqp_engine.specs.Calls.{Puts, After, AfterFlush, failing_by, FlushesIf, Flushes, SendsIf, Sends, with_channels, Allocates}
use Rattle.amqp_engine.specs.Heard.{IsHeard, IsGreeted, IsOver}
use Rattle.amqp_engine.specs.Sentence.{Ran, IsCalm, IsSaid, IsBegun, IsClosed, IsBounded}
use Rattle.amqp_engine.proofs.Said.{said_closing, closed_push, begun_push, session_is_inner}
use Rattle.amqp_engine.proofs.Runs.{Alike, Beside, RanBy, CanFollow, beside_refl, beside_moves, beside_failing, calm_failing, alike_same, alike_failing, within, heard_none, none_by, put_by, flushed_by, ran_none, ran_then}
use Rattle.amqp_engine.proofs.Hearing.{IsListening, heard_received, heard_failed, heard_closing}
use Rattle.amqp_engine.proofs.Bounds.{SameBounds, bounded_same, bounded_none, bounded_received}

pub in_phase : {L : Type 0} (old : State L) (q : Phase) (sent : List Frame) → old.phase ≡ q → IsSaid old.phase sent → IsSaid q sent
in_phase old q sent e s = subst (λ (r : Phase). IsSaid r sent) e s

pub heard_in : {L : Type 0} (old : State L) (q : Phase) (before : List Frame) → old.phase ≡ q → IsHeard old.phase old.reason before → IsHeard q old.reason before
heard_in old q before e h = subst (λ (r : Phase). IsHeard r old.reason before) e h

opened_not : p.Opened ≡ p.OpenSent → ⊥
opened_not e = absurd (cc e)

received_not : p.CloseReceived ≡ p.OpenSent → ⊥
received_not e = absurd (cc e)

refused_not : p.Refused ≡ p.OpenSent → ⊥
refused_not e = absurd (cc e)

rejected_not : {why : Rejection} → p.Rejected why ≡ p.OpenSent → ⊥
rejected_not e = absurd (cc e)

ended_not : p.Ended ≡ p.OpenSent → ⊥
ended_not e = absurd (cc e)

closing_not : (y : Option AmqpError) → close_phase y ≡ p.OpenSent → ⊥
closing_not None e = absurd (cc e)
closing_not (Some y) e = absurd (cc e)

pub ran_same : {L : Type 0} (link : Ghosts L) (old new : State L) → new ≡ old → Ran link old new
ran_same link old new e = ran_none link old new (alike_same old new e)

-- the frame where it was queued
abbrev pub queued_of : {A : Type 0} → Frame → Result A Error → List Frame
queued_of x (Ok v) = x ∷ []
queued_of x (Err e) = []

-- a frame was queued, or refused
pub puts_by : {L A : Type 0} (link : Ghosts L) (old : State L) (x : Frame) (after : State L) (value : A) (result : Result A Error) (new : State L) → CanFollow old x after → Puts old x after value result new → RanBy link old [] [] (queued_of x result) new
puts_by {L} link old x after value (Ok v) new f q = subst (λ (t : State L). RanBy link old [] [] (x ∷ []) t) (sym q.2) (put_by link old after x f (within old.wire.codec.encoder x q.1) q.3)
puts_by link old x after value (Err (error.Memory a)) new f q = none_by link old new (alike_same old new q)
puts_by link old x after value (Err (error.TransportError fault.FramingError)) new f q = none_by link old new (alike_failing old new q.1)
puts_by link old x after value (Err (error.TransportError (fault.Memory a))) new f q = absurd q
puts_by link old x after value (Err (error.TransportError (fault.Io k))) new f q = absurd q
puts_by link old x after value (Err (error.TransportError fault.IdleTimeoutElapsed)) new f q = absurd q
puts_by link old x after value (Err (error.TransportError fault.DecodeError)) new f q = absurd q
puts_by link old x after value (Err (error.TransportError fault.NotImplemented)) new f q = absurd q
puts_by link old x after value (Err error.IllegalState) new f q = absurd q
puts_by link old x after value (Err error.NotImplemented) new f q = absurd q
puts_by link old x after value (Err error.NotFound) new f q = absurd q
puts_by link old x after value (Err error.RemoteClosed) new f q = absurd q
puts_by link old x after value (Err (error.RemoteClosedWithError y)) new f q = absurd q

alike_failing_by : {L : Type 0} (old new : State L) (e : TransportFault) → new ≡ failing_by e old → Alike old new
alike_failing_by old new (fault.Memory a) e = alike_same old new e
alike_failing_by old new (fault.Io k) e = alike_failing old new e
alike_failing_by old new fault.IdleTimeoutElapsed e = alike_failing old new e
alike_failing_by old new fault.DecodeError e = alike_failing old new e
alike_failing_by old new fault.NotImplemented e = alike_failing old new e
alike_failing_by old new fault.FramingError e = alike_failing old new e

-- the peer's Open was read
beside_entered : {L : Type 0} (at : ℕ) (s : State L) (y : Open) → s.phase ≡ p.OpenSent → Beside s (entered at s y)
beside_entered at s y e =
    record {
      link = refl;
      input = refl;
      output = refl;
      clock = refl;
      kept = refl;
      said = λ sent i. in_phase s p.OpenSent sent e i;
      stays = λ f. let g : is_stopped s.phase ≡ false = ap is_stopped e in absurd (cc (f, g));
      limits = λ l.
          let old : s.wire.codec.encoder ≡ 512 = l.first e in
          (record { told = omega arith; least = omega arith; reads = omega arith; first = λ f. absurd (opened_not f) }, omega (arith, old));
      own = refl;
    }

awaited_moves : {L : Type 0} (s : State L) (q : Phase) (reason : ConnectionStopReason) → s.phase ≡ p.OpenSent → ((sent : List Frame) → IsBegun sent → IsSaid q sent) → (q ≡ p.OpenSent → ⊥) → Beside s (record s { phase = q; reason = reason })
awaited_moves s q reason e i n = beside_moves s q reason (λ sent j. i sent (in_phase s p.OpenSent sent e j)) n (ap is_stopped e)

beside_awaited : {L : Type 0} (at : ℕ) (s : State L) (body : FrameBody) → s.phase ≡ p.OpenSent → Beside s (awaited at s body)
beside_awaited at s (b.Open y) e = beside_entered at s y e
beside_awaited at s (b.Close y) e = awaited_moves s p.CloseReceived (remote_reason y.error) e (λ sent i. i) received_not
beside_awaited at s b.Empty e = awaited_moves s p.Refused s.reason e (λ sent i. i) refused_not
beside_awaited at s (b.Begin y) e = awaited_moves s p.Refused s.reason e (λ sent i. i) refused_not
beside_awaited at s (b.Attach y) e = awaited_moves s p.Refused s.reason e (λ sent i. i) refused_not
beside_awaited at s (b.Flow y) e = awaited_moves s p.Refused s.reason e (λ sent i. i) refused_not
beside_awaited at s (b.Transfer y z) e = awaited_moves s p.Refused s.reason e (λ sent i. i) refused_not
beside_awaited at s (b.Disposition y) e = awaited_moves s p.Refused s.reason e (λ sent i. i) refused_not
beside_awaited at s (b.Detach y) e = awaited_moves s p.Refused s.reason e (λ sent i. i) refused_not
beside_awaited at s (b.End y) e = awaited_moves s p.Refused s.reason e (λ sent i. i) refused_not

-- only the channels change
beside_channels : {L : Type 0} (s : State L) (c : Channels) → Beside s (with_channels s c)
beside_channels s c =
    record {
      link = refl;
      input = refl;
      output = refl;
      clock = refl;
      kept = refl;
      said = λ sent i. i;
      stays = λ e. record { phase = e; reason = refl; none = refl };
      limits = λ l. (record { told = l.told; least = l.least; reads = l.reads; first = l.first }, omega arith);
      own = refl;
    }

pub alike_channels : {L : Type 0} (s : State L) (c : Channels) → Alike s (with_channels s c)
alike_channels s c = record { beside = beside_channels s c; heard = λ before h. h; calm = λ k. k; bounds = record { reads = refl; writes = refl; own = refl } }

arrived_moves : {L : Type 0} (s : State L) (q : Phase) (reason : ConnectionStopReason) → s.phase ≡ p.Opened → ((sent : List Frame) → IsBegun sent → IsSaid q sent) → (q ≡ p.OpenSent → ⊥) → Beside s (record s { phase = q; reason = reason })
arrived_moves s q reason e i n = beside_moves s q reason (λ sent j. i sent (in_phase s p.Opened sent e j)) n (ap is_stopped e)

beside_admitted : {L : Type 0} (s : State L) (x : Frame) (q : Plan) → s.phase ≡ p.Opened → Beside s (admitted q s x)
beside_admitted s x (plan.Reject why) e = arrived_moves s (p.Rejected why) s.reason e (λ sent i. i) rejected_not
beside_admitted s x plan.Deliver e = beside_channels s (taken_in plan.Deliver s.channels x)
beside_admitted s x plan.Answer e = beside_channels s (taken_in plan.Answer s.channels x)
beside_admitted s x plan.End e = beside_channels s (taken_in plan.End s.channels x)
beside_admitted s x plan.Ask e = beside_channels s (taken_in plan.Ask s.channels x)

beside_arrived : {L : Type 0} (s : State L) (x : Frame) (body : FrameBody) → s.phase ≡ p.Opened → Beside s (arrived s x body)
beside_arrived s x (b.Open y) e = arrived_moves s (p.Rejected rejection.IllegalState) s.reason e (λ sent i. i) rejected_not
beside_arrived s x (b.Close y) e = arrived_moves s p.CloseReceived (remote_reason y.error) e (λ sent i. i) received_not
beside_arrived s x b.Empty e = beside_refl s
beside_arrived s x (b.Begin y) e = beside_admitted s x (plan_of s x) e
beside_arrived s x (b.Attach y) e = beside_admitted s x (plan_of s x) e
beside_arrived s x (b.Flow y) e = beside_admitted s x (plan_of s x) e
beside_arrived s x (b.Transfer y z) e = beside_admitted s x (plan_of s x) e
beside_arrived s x (b.Disposition y) e = beside_admitted s x (plan_of s x) e
beside_arrived s x (b.Detach y) e = beside_admitted s x (plan_of s x) e
beside_arrived s x (b.End y) e = beside_admitted s x (plan_of s x) e

beside_outlasted : {L : Type 0} (s : State L) (body : FrameBody) → ((sent : List Frame) → IsSaid s.phase sent → IsClosed sent) → is_stopped s.phase ≡ false → Beside s (outlasted s body)
beside_outlasted s (b.Close y) i e = beside_moves s p.Ended (answered_reason s.reason y.error) i ended_not e
beside_outlasted s (b.Open y) i e = beside_refl s
beside_outlasted s b.Empty i e = beside_refl s
beside_outlasted s (b.Begin y) i e = beside_refl s
beside_outlasted s (b.Attach y) i e = beside_refl s
beside_outlasted s (b.Flow y) i e = beside_refl s
beside_outlasted s (b.Transfer y z) i e = beside_refl s
beside_outlasted s (b.Disposition y) i e = beside_refl s
beside_outlasted s (b.Detach y) i e = beside_refl s
beside_outlasted s (b.End y) i e = beside_refl s

beside_received : {L : Type 0} (q : Phase) (at : ℕ) (s : State L) (x : Frame) → s.phase ≡ q → Beside s (received q at s x)
beside_received p.OpenSent at s x e = beside_awaited at s x.body e
beside_received p.Opened at s x e = beside_arrived s x x.body e
beside_received p.CloseSent at s x e = beside_outlasted s x.body (λ sent i. in_phase s p.CloseSent sent e i) (ap is_stopped e)
beside_received p.Discarding at s x e = beside_outlasted s x.body (λ sent i. in_phase s p.Discarding sent e i) (ap is_stopped e)
beside_received p.CloseReceived at s x e = beside_refl s
beside_received p.Refused at s x e = beside_refl s
beside_received (p.Rejected why) at s x e = beside_refl s
beside_received p.Ended at s x e = beside_refl s
beside_received p.Failed at s x e = beside_refl s

beside_failing_by : {L : Type 0} (s : State L) (e : TransportFault) → Beside s (failing_by e s)
beside_failing_by s (fault.Memory a) = beside_refl s
beside_failing_by s (fault.Io k) = beside_failing s
beside_failing_by s fault.IdleTimeoutElapsed = beside_failing s
beside_failing_by s fault.DecodeError = beside_failing s
beside_failing_by s fault.NotImplemented = beside_failing s
beside_failing_by s fault.FramingError = beside_failing s

-- what a poll of the transport leaves to be known of the engine
pub record Reached {L : Type 0} (old s new : State L) (given : List Frame) : Type 0 where
  pub beside : Beside s new
  pub heard : (before : List Frame) → IsHeard old.phase old.reason before → IsHeard new.phase new.reason (before ++ given)
  pub calm : IsCalm old → IsCalm new
  pub bounds : (before : List Frame) → IsHeard old.phase old.reason before → IsBounded old before → IsBounded new (before ++ given)

reached_is : {L : Type 0} (old s new after : State L) (given : List Frame) → new ≡ after → Reached old s after given → Reached old s new given
reached_is {L} old s new after given e r = subst (λ (t : State L). Reached old s t given) (sym e) r

pub listening_holds : (q : Phase) → IsListening q → has_failed q ≡ false
listening_holds p.OpenSent l = refl
listening_holds p.Opened l = refl
listening_holds p.CloseReceived l = refl
listening_holds p.Refused l = refl
listening_holds (p.Rejected why) l = refl
listening_holds p.CloseSent l = refl
listening_holds p.Discarding l = refl
listening_holds p.Ended l = refl
listening_holds p.Failed l = absurd l

reached_failing : {L : Type 0} (old s : State L) → s.phase ≡ old.phase → s.reason ≡ old.reason → SameBounds old s → Reached old s (failing s) []
reached_failing {L} old s q r same =
    record {
      beside = beside_failing s;
      heard = λ before h. heard_none p.Failed (failed_reason s.phase s.reason) before (heard_failed s.phase s.reason before
          (subst (λ (z : Phase). IsHeard z s.reason before) (sym q) (subst (λ (z : ConnectionStopReason). IsHeard old.phase z before) (sym r) h)));
      calm = λ c. calm_failing s;
      bounds = λ before h k. bounded_none (failing s) before (bounded_same old (failing s) before (record { reads = same.reads; writes = same.writes; own = same.own }) k);
    }

reached_still : {L : Type 0} (old : State L) (wire : Wire L) → wire.kept ≡ old.wire.kept → SameBounds old (record old { wire = wire }) → Reached old (record old { wire = wire }) (record old { wire = wire }) []
reached_still old wire k same =
    record {
      beside = beside_refl (record old { wire = wire });
      heard = λ before h. heard_none old.phase old.reason before h;
      calm = λ c f. k ∙ c f;
      bounds = λ before h b. bounded_none (record old { wire = wire }) before (bounded_same old (record old { wire = wire }) before same b);
    }

reached_by : {L : Type 0} (old : State L) (wire : Wire L) (e : TransportFault) → wire.kept ≡ kept_after {X = Frame} (Err e) old.wire.kept → SameBounds old (record old { wire = wire }) → Reached old (record old { wire = wire }) (failing_by e (record old { wire = wire })) []
reached_by old wire (fault.Memory a) k same = reached_still old wire k same
reached_by old wire (fault.Io i) k same = reached_failing old (record old { wire = wire }) refl refl same
reached_by old wire fault.IdleTimeoutElapsed k same = reached_failing old (record old { wire = wire }) refl refl same
reached_by old wire fault.DecodeError k same = reached_failing old (record old { wire = wire }) refl refl same
reached_by old wire fault.NotImplemented k same = reached_failing old (record old { wire = wire }) refl refl same
reached_by old wire fault.FramingError k same = reached_failing old (record old { wire = wire }) refl refl same

-- a poll of the transport leaves the limits
same_polled : {L : Type 0} (link : Ghosts L) (at : ℕ) (old : State L) (wire : Wire L) (answer : Result (Next Frame) TransportFault) → Grew link 0 amqp_spells old.wire at answer wire → SameBounds old (record old { wire = wire })
same_polled link at old wire answer g = record { reads = ap (λ (l : ℕ × ℕ). l.0) g.limits; writes = ap (λ (l : ℕ × ℕ). l.1) g.limits; own = refl }

pub reached : {L : Type 0} (link : Ghosts L) (at : ℕ) (old : State L) (wire : Wire L) (answer : Result (Next Frame) TransportFault) (result : Result EngineStep Error) (new : State L) → IsListening old.phase → Grew link 0 amqp_spells old.wire at answer wire → After at (record old { wire = wire }) answer result new → Reached old (record old { wire = wire }) new (frames_of answer)
reached {L} link at old wire (Ok (next.Frame x)) result new l g a =
    let s : State L = record old { wire = wire } in
    let b = beside_received old.phase at s x refl in
    reached_is old s new (received old.phase at s x) (x ∷ []) a.1
    (record {
      beside = b;
      heard = λ before h. heard_received old.phase at s before x refl l h;
      calm = λ c f. b.kept ∙ g.kept ∙ c (listening_holds old.phase l);
      bounds = λ before h k. bounded_received old.phase at s before x l h (bounded_same old s before (same_polled link at old wire (Ok (next.Frame x)) g) k);
    })
reached link at old wire (Ok next.Pending) result new l g a = reached_is old (record old { wire = wire }) new (record old { wire = wire }) [] a.1 (reached_still old wire g.kept (same_polled link at old wire (Ok next.Pending) g))
reached link at old wire (Ok next.Ended) result new l g a = reached_is old (record old { wire = wire }) new _ [] a.1 (reached_failing old (record old { wire = wire }) refl refl (same_polled link at old wire (Ok next.Ended) g))
reached link at old wire (Err e) result new l g a = reached_is old (record old { wire = wire }) new _ [] a.1 (reached_by old wire e g.kept (same_polled link at old wire (Err e) g))

-- a frame between Open and Close
pub inner_follows : {L : Type 0} (old : State L) (x : Frame) (after : State L) → old.phase ≡ p.Opened → after.wire ≡ (queueing old x).wire → after.settings ≡ old.settings → after.phase ≡ old.phase → after.reason ≡ old.reason → IsInner (kind_of x.body) → CanFollow old x after
inner_follows old x after e w set q r i =
    record {
      wire = w;
      settings = set;
      said = λ sent s. subst (λ (r : Phase). IsSaid r (sent ++ x ∷ [])) (sym (q ∙ e)) (begun_push sent x i (in_phase old p.Opened sent e s));
      heard = λ before h. subst (λ (z : Phase). IsHeard z after.reason before) (sym q) (subst (λ (z : ConnectionStopReason). IsHeard old.phase z before) (sym r) h);
      live = ap is_stopped e;
      phase = λ f. opened_not (sym (q ∙ e) ∙ f);
    }

pub beats_follow : {L : Type 0} (old : State L) (at : ℕ) → old.phase ≡ p.Opened → CanFollow old no_frame (beating old no_frame at)
beats_follow old at e = inner_follows old no_frame (beating old no_frame at) e refl refl refl refl tt

-- a Close that answers what was read
pub answers_follow : {L : Type 0} (old : State L) → ((sent : List Frame) → IsSaid old.phase sent → IsBegun sent) → ((before : List Frame) → IsHeard old.phase old.reason before → IsOver old.reason before) → is_stopped old.phase ≡ false → CanFollow old (close_frame None) (record (queueing old (close_frame None)) { phase = p.Ended })
answers_follow old i o live =
    record { wire = refl; settings = refl; said = λ sent s. closed_push sent (close_frame None) tt (i sent s); heard = o; live = live; phase = ended_not }

-- a Close of this end
pub closes_follow : {L : Type 0} (old : State L) (y : Option AmqpError) → ((sent : List Frame) → IsSaid old.phase sent → IsBegun sent) → ((before : List Frame) → IsHeard old.phase old.reason before → IsGreeted before) → is_stopped old.phase ≡ false → CanFollow old (close_frame y) (closing old y)
closes_follow old y i g live =
    record {
      wire = refl;
      settings = refl;
      said = λ sent s. said_closing y (sent ++ close_frame y ∷ []) (closed_push sent (close_frame y) tt (i sent s));
      heard = λ before h. heard_closing y before (g before h);
      live = live;
      phase = closing_not y;
    }

alike_flush : {L : Type 0} (s : State L) (answer : Result Flush TransportFault) (result : Result Flush Error) (new : State L) → AfterFlush s answer result new → Alike s new
alike_flush s (Ok f) result new a = alike_same s new a.1
alike_flush s (Err e) result new a = alike_failing_by s new e a.1

flushes_if : {L : Type 0} (b : Bool) (link : Ghosts L) (old : State L) (result : Result Flush Error) (new : State L) → FlushesIf b link old result new → Ran link old new
flushes_if true link old result new f = ran_same link old new f.1
flushes_if false link old result new w =
    ran_then link old (record old { wire = w.wire }) new (flushed_by link old w.wire w.answer w.flushed).run (ran_none link (record old { wire = w.wire }) new (alike_flush (record old { wire = w.wire }) w.answer result new w.does))

pub ran_flushes : {L : Type 0} (link : Ghosts L) (old : State L) (result : Result Flush Error) (new : State L) → Flushes link old result new → Ran link old new
ran_flushes link old result new f = flushes_if (has_failed old.phase) link old result new f

pub is_open_only : (q : Phase) → is_open q ≡ true → q ≡ p.Opened
is_open_only p.Opened e = refl
is_open_only p.OpenSent e = absurd (cc e)
is_open_only p.CloseReceived e = absurd (cc e)
is_open_only p.Refused e = absurd (cc e)
is_open_only (p.Rejected why) e = absurd (cc e)
is_open_only p.CloseSent e = absurd (cc e)
is_open_only p.Discarding e = absurd (cc e)
is_open_only p.Ended e = absurd (cc e)
is_open_only p.Failed e = absurd (cc e)

-- a Close of this end while the connection is open
pub open_follows : {L : Type 0} (old : State L) (y : Option AmqpError) → old.phase ≡ p.Opened → CanFollow old (close_frame y) (closing old y)
open_follows old y e =
    closes_follow old y (λ sent s. in_phase old p.Opened sent e s) (λ before h. (heard_in old p.Opened before e h).0) (ap is_stopped e)

ran_session : {L : Type 0} (q : Phase) (link : Ghosts L) (old : State L) (x : Frame) (result : Result Unit Error) (new : State L) → old.phase ≡ q → of_session x.body ≡ true → SendsIf (is_open q) old x (sending old x) result new → Ran link old new
ran_session p.Opened link old x result new e o a = (puts_by link old x (sending old x) tt result new (inner_follows old x (sending old x) e refl refl refl refl (session_is_inner x.body o)) a).run
ran_session p.OpenSent link old x result new e o a = ran_same link old new a.1
ran_session p.CloseReceived link old x result new e o a = ran_same link old new a.1
ran_session p.Refused link old x result new e o a = ran_same link old new a.1
ran_session (p.Rejected why) link old x result new e o a = ran_same link old new a.1
ran_session p.CloseSent link old x result new e o a = ran_same link old new a.1
ran_session p.Discarding link old x result new e o a = ran_same link old new a.1
ran_session p.Ended link old x result new e o a = ran_same link old new a.1
ran_session p.Failed link old x result new e o a = ran_same link old new a.1

pub ran_sends : {L : Type 0} (link : Ghosts L) (old : State L) (x : Frame) (result : Result Unit Error) (new : State L) → of_session x.body ≡ true → Sends old x (sending old x) result new → Ran link old new
ran_sends link old x result new o a = ran_session old.phase link old x result new refl o a

-- only the channels changed
pub ran_channels : {L : Type 0} (link : Ghosts L) (old new : State L) (c : Channels) → new ≡ with_channels old c → Ran link old new
ran_channels {L} link old new c e = ran_none link old new (subst (λ (s : State L). Alike old s) (sym e) (alike_channels old c))

pub ran_allocates : {L : Type 0} (link : Ghosts L) (old : State L) (result : Result ℕ AllocSessionError) (new : State L) → Allocates old result new → Ran link old new
ran_allocates link old (Ok channel) new a = ran_channels link old new _ a.2
ran_allocates link old (Err alloc.ChannelMaxReached) new a = ran_same link old new a.1
ran_allocates link old (Err (alloc.Memory e)) new a = ran_same link old new a

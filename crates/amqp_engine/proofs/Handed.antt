-- What a frame that was read makes of the channels.
use Rattle.std.proofs.Common.{◌≡◌, [], ◌∷◌, ℕ, List, Bool, true, false, Result, Ok, Err, refl, sym, ap, ◌∙◌, subst}
use Rattle.amqp_transport.specs.amqp_frames.declared.body.FrameBody.{FrameBody}
use Rattle.amqp_transport.specs.amqp_frames.declared.body.FrameBody.TheVariants as b
use Rattle.amqp_transport.specs.amqp_frames.Session.{of_session}
use Rattle.amqp_transport.specs.declared.frames.Frame.{Frame}
use Rattle.amqp_transport.specs.declared.transport.Error.{Error as TransportFault}
use Rattle.amqp_transport.specs.declared.transport.Error.TheVariants as fault
use Rattle.amqp_transport.specs.declared.transport.Next.{Next}
use Rattle.amqp_transport.specs.declared.transport.Next.TheVariants as next
use Rattle.amqp_transport.specs.Stream.{frames_of}
use Rattle.amqp_transport.specs.Wire.{Wire}
use Rattle.amqp_engine.specs.declared.engine.EngineStep.{EngineStep}
use Rattle.amqp_engine.specs.declared.error.Error.{Error}
use Rattle.amqp_engine.specs.declared.phase.Phase.{Phase}
use Rattle.amqp_engine.specs.declared.phase.Phase.TheVariants as p
use Rattle.amqp_engine.specs.Phases.{is_open, hears}
use Rattle.amqp_engine.specs.Machine.{received, answer_to, plan_of, admitted, admitted_answer, awaited, awaited_answer, arrived, arrived_answer, outlasted}
use Rattle.amqp_engine.specs.State.{State, failing}
use Rattle.amqp_engine.specs.Calls.{After, failing_by}
use Rattle.amqp_engine.specs.declared.sessions.Plan.{Plan}
use Rattle.amqp_engine.specs.declared.sessions.Plan.TheVariants as plan
use Rattle.amqp_engine.specs.Outcomes.{channels_by, IsAdmitted, IsHanded, IsIdle}

session_admitted : {L : Type 0} (s : State L) (x : Frame) → is_open s.phase ≡ true → of_session x.body ≡ true → IsAdmitted s x (admitted (plan_of s x) s x)
session_admitted s x o t = record { channels = rw (o, t) refl; phase = λ i j. refl; opening = λ i h. absurd (cc (i, o)) }

-- another frame
other_admitted : {L : Type 0} (s : State L) (x : Frame) (new : State L) → of_session x.body ≡ false → new.channels ≡ s.channels → IsAdmitted s x new
other_admitted {L} s x new t c = record { channels = c ∙ other_by (is_open s.phase); phase = λ i j. absurd (cc (j, t)); opening = λ i h. t }
  where
    other_by : (o : Bool) → s.channels ≡ channels_by o (of_session x.body) (plan_of s x) s.channels x
    other_by true = rw t refl
    other_by false = refl

-- any frame where it is not open
closed_admitted : {L : Type 0} (s : State L) (x : Frame) (new : State L) → is_open s.phase ≡ false → new.channels ≡ s.channels → (hears new.phase ≡ true → of_session x.body ≡ false) → IsAdmitted s x new
closed_admitted s x new o c n = record { channels = rw o c; phase = λ i j. absurd (cc (i, o)); opening = λ i h. n h }

arrived_admitted : {L : Type 0} (s : State L) (x : Frame) (body : FrameBody) → x.body ≡ body → is_open s.phase ≡ true → IsAdmitted s x (arrived s x body)
arrived_admitted s x (b.Open y) e o = other_admitted s x (arrived s x (b.Open y)) (ap of_session e) refl
arrived_admitted s x (b.Close y) e o = other_admitted s x (arrived s x (b.Close y)) (ap of_session e) refl
arrived_admitted s x b.Empty e o = other_admitted s x (arrived s x b.Empty) (ap of_session e) refl
arrived_admitted s x (b.Begin y) e o = session_admitted s x o (ap of_session e)
arrived_admitted s x (b.Attach y) e o = session_admitted s x o (ap of_session e)
arrived_admitted s x (b.Flow y) e o = session_admitted s x o (ap of_session e)
arrived_admitted s x (b.Transfer y z) e o = session_admitted s x o (ap of_session e)
arrived_admitted s x (b.Disposition y) e o = session_admitted s x o (ap of_session e)
arrived_admitted s x (b.Detach y) e o = session_admitted s x o (ap of_session e)
arrived_admitted s x (b.End y) e o = session_admitted s x o (ap of_session e)

awaited_channels : {L : Type 0} (at : ℕ) (s : State L) (body : FrameBody) → (awaited at s body).channels ≡ s.channels
awaited_channels at s (b.Open y) = refl
awaited_channels at s (b.Close y) = refl
awaited_channels at s b.Empty = refl
awaited_channels at s (b.Begin y) = refl
awaited_channels at s (b.Attach y) = refl
awaited_channels at s (b.Flow y) = refl
awaited_channels at s (b.Transfer y z) = refl
awaited_channels at s (b.Disposition y) = refl
awaited_channels at s (b.Detach y) = refl
awaited_channels at s (b.End y) = refl

outlasted_channels : {L : Type 0} (s : State L) (body : FrameBody) → (outlasted s body).channels ≡ s.channels
outlasted_channels s (b.Open y) = refl
outlasted_channels s (b.Close y) = refl
outlasted_channels s b.Empty = refl
outlasted_channels s (b.Begin y) = refl
outlasted_channels s (b.Attach y) = refl
outlasted_channels s (b.Flow y) = refl
outlasted_channels s (b.Transfer y z) = refl
outlasted_channels s (b.Disposition y) = refl
outlasted_channels s (b.Detach y) = refl
outlasted_channels s (b.End y) = refl

outlasted_listens : {L : Type 0} (s : State L) (body : FrameBody) → hears (outlasted s body).phase ≡ true → hears s.phase ≡ true
outlasted_listens s (b.Open y) h = h
outlasted_listens s (b.Close y) h = absurd (cc h)
outlasted_listens s b.Empty h = h
outlasted_listens s (b.Begin y) h = h
outlasted_listens s (b.Attach y) h = h
outlasted_listens s (b.Flow y) h = h
outlasted_listens s (b.Transfer y z) h = h
outlasted_listens s (b.Disposition y) h = h
outlasted_listens s (b.Detach y) h = h
outlasted_listens s (b.End y) h = h

awaited_hears : {L : Type 0} (at : ℕ) (s : State L) (body : FrameBody) → hears (awaited at s body).phase ≡ true → of_session body ≡ false
awaited_hears at s (b.Open y) h = refl
awaited_hears at s (b.Close y) h = refl
awaited_hears at s b.Empty h = refl
awaited_hears at s (b.Begin y) h = absurd (cc h)
awaited_hears at s (b.Attach y) h = absurd (cc h)
awaited_hears at s (b.Flow y) h = absurd (cc h)
awaited_hears at s (b.Transfer y z) h = absurd (cc h)
awaited_hears at s (b.Disposition y) h = absurd (cc h)
awaited_hears at s (b.Detach y) h = absurd (cc h)
awaited_hears at s (b.End y) h = absurd (cc h)

admitted_received : {L : Type 0} (q : Phase) (at : ℕ) (s : State L) (x : Frame) → s.phase ≡ q → IsAdmitted s x (received q at s x)
admitted_received p.OpenSent at s x e = closed_admitted s x (awaited at s x.body) (ap is_open e) (awaited_channels at s x.body) (awaited_hears at s x.body)
admitted_received p.Opened at s x e = arrived_admitted s x x.body refl (ap is_open e)
admitted_received p.CloseSent at s x e = closed_admitted s x (outlasted s x.body) (ap is_open e) (outlasted_channels s x.body) (λ h. absurd (cc (outlasted_listens s x.body h, ap hears e)))
admitted_received p.Discarding at s x e = closed_admitted s x (outlasted s x.body) (ap is_open e) (outlasted_channels s x.body) (λ h. absurd (cc (outlasted_listens s x.body h, ap hears e)))
admitted_received p.CloseReceived at s x e = closed_admitted s x s (ap is_open e) refl (λ h. absurd (cc (h, ap hears e)))
admitted_received p.Refused at s x e = closed_admitted s x s (ap is_open e) refl (λ h. absurd (cc (h, ap hears e)))
admitted_received (p.Rejected why) at s x e = closed_admitted s x s (ap is_open e) refl (λ h. absurd (cc (h, ap hears e)))
admitted_received p.Ended at s x e = closed_admitted s x s (ap is_open e) refl (λ h. absurd (cc (h, ap hears e)))
admitted_received p.Failed at s x e = closed_admitted s x s (ap is_open e) refl (λ h. absurd (cc (h, ap hears e)))

listens_received : {L : Type 0} (q : Phase) (at : ℕ) (s : State L) (x : Frame) → s.phase ≡ q → hears (received q at s x).phase ≡ true → hears s.phase ≡ true
listens_received p.OpenSent at s x e h = ap hears e
listens_received p.Opened at s x e h = ap hears e
listens_received p.CloseSent at s x e h = outlasted_listens s x.body h
listens_received p.Discarding at s x e h = outlasted_listens s x.body h
listens_received p.CloseReceived at s x e h = h
listens_received p.Refused at s x e h = h
listens_received (p.Rejected why) at s x e h = h
listens_received p.Ended at s x e h = h
listens_received p.Failed at s x e h = h

-- what the channels and the phase are after this
pub record Hands {L : Type 0} (old : State L) (given : List Frame) (new : State L) : Type 0 where
  pub handed : IsHanded old given new
  pub listens : hears new.phase ≡ true → hears old.phase ≡ true

-- no work is told of where no frame was given
planned_works : (q : Plan) → IsIdle (admitted_answer q) → ⊥
planned_works plan.Deliver i = i
planned_works plan.Answer i = i
planned_works plan.End i = i
planned_works plan.Ask i = i
planned_works (plan.Reject why) i = i

arrived_works : (q : Plan) (body : FrameBody) → IsIdle (arrived_answer q body) → ⊥
arrived_works q (b.Open y) i = i
arrived_works q (b.Close y) i = i
arrived_works q b.Empty i = i
arrived_works q (b.Begin y) i = planned_works q i
arrived_works q (b.Attach y) i = planned_works q i
arrived_works q (b.Flow y) i = planned_works q i
arrived_works q (b.Transfer y z) i = planned_works q i
arrived_works q (b.Disposition y) i = planned_works q i
arrived_works q (b.Detach y) i = planned_works q i
arrived_works q (b.End y) i = planned_works q i

awaited_works : (body : FrameBody) → IsIdle (awaited_answer body) → ⊥
awaited_works (b.Open y) i = i
awaited_works (b.Close y) i = i
awaited_works b.Empty i = i
awaited_works (b.Begin y) i = i
awaited_works (b.Attach y) i = i
awaited_works (b.Flow y) i = i
awaited_works (b.Transfer y z) i = i
awaited_works (b.Disposition y) i = i
awaited_works (b.Detach y) i = i
awaited_works (b.End y) i = i

answer_works : {L : Type 0} (q : Phase) (s : State L) (x : Frame) → IsIdle (answer_to q s x) → ⊥
answer_works p.OpenSent s x i = awaited_works x.body i
answer_works p.Opened s x i = arrived_works (plan_of s x) x.body i
answer_works p.CloseSent s x i = i
answer_works p.Discarding s x i = i
answer_works p.CloseReceived s x i = i
answer_works p.Refused s x i = i
answer_works (p.Rejected why) s x i = i
answer_works p.Ended s x i = i
answer_works p.Failed s x i = i

pub idles_after : {L : Type 0} (at : ℕ) (s : State L) (answer : Result (Next Frame) TransportFault) (result : Result EngineStep Error) (new : State L) → After at s answer result new → IsIdle result → frames_of answer ≡ []
idles_after at s (Ok (next.Frame x)) result new a i = absurd (answer_works s.phase s x (subst IsIdle a.0 i))
idles_after at s (Ok next.Pending) result new a i = refl
idles_after at s (Ok next.Ended) result new a i = refl
idles_after at s (Err e) result new a i = refl

pub hands_same : {L : Type 0} (old new : State L) → new ≡ old → Hands old [] new
hands_same {L} old new e = subst (λ (t : State L). Hands old [] t) (sym e) (record { handed = refl; listens = λ h. h })

pub hands_failing : {L : Type 0} (old new : State L) → new ≡ failing old → Hands old [] new
hands_failing {L} old new e = subst (λ (t : State L). Hands old [] t) (sym e) (record { handed = refl; listens = λ h. absurd (cc h) })

-- where the channels stay and the phase does not come to hear
pub hands_beside : {L : Type 0} (old after new : State L) → after.channels ≡ old.channels → (hears after.phase ≡ true → hears old.phase ≡ true) → new ≡ after → Hands old [] new
hands_beside {L} old after new c l e = subst (λ (t : State L). Hands old [] t) (sym e) (record { handed = c; listens = l })

hands_by : {L : Type 0} (old new : State L) (e : TransportFault) → new ≡ failing_by e old → Hands old [] new
hands_by old new (fault.Memory a) e = hands_same old new e
hands_by old new (fault.Io k) e = hands_failing old new e
hands_by old new fault.IdleTimeoutElapsed e = hands_failing old new e
hands_by old new fault.DecodeError e = hands_failing old new e
hands_by old new fault.NotImplemented e = hands_failing old new e
hands_by old new fault.FramingError e = hands_failing old new e

pub hands_after : {L : Type 0} (at : ℕ) (s : State L) (answer : Result (Next Frame) TransportFault) (result : Result EngineStep Error) (new : State L) → After at s answer result new → Hands s (frames_of answer) new
hands_after {L} at s (Ok (next.Frame x)) result new a =
    subst (λ (t : State L). Hands s (x ∷ []) t) (sym a.1) (record { handed = admitted_received s.phase at s x refl; listens = λ h. listens_received s.phase at s x refl h })
hands_after at s (Ok next.Pending) result new a = hands_same s new a.1
hands_after at s (Ok next.Ended) result new a = hands_failing s new a.1
hands_after at s (Err e) result new a = hands_by s new e a.1

-- the link, the input and the output are no part of it
pub hands_wire : {L : Type 0} (old : State L) (wire : Wire L) (given : List Frame) (new : State L) → Hands (record old { wire = wire }) given new → Hands old given new
hands_wire old wire [] new h = record { handed = h.handed; listens = h.listens }
hands_wire old wire (x ∷ []) new h = record { handed = record { channels = h.handed.channels; phase = h.handed.phase; opening = h.handed.opening }; listens = h.listens }
hands_wire old wire (x ∷ y ∷ xs) new h = absurd h.handed

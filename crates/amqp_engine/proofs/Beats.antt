-- What a step makes of the heartbeat, and that the idle time has not passed where nothing came.
use Rattle.std.proofs.Common.{◌≡◌, inl, inr, [], ◌∷◌, ℕ, List, Option, Some, None, Result, Ok, Err, false, refl, sym, ap, ◌∙◌, subst}
use Rattle.amqp_transport.specs.amqp_frames.declared.body.FrameBody.{FrameBody}
use Rattle.amqp_transport.specs.amqp_frames.declared.body.FrameBody.TheVariants as b
use Rattle.amqp_wire.specs.declared.link.Link.{Ghosts}
use Rattle.amqp_wire.specs.declared.link.Stop.{Stop}
use Rattle.amqp_wire.specs.declared.link.Stop.TheVariants.{Empty, End as EndStop, Failed}
use Rattle.amqp_wire.specs.declared.link.IoKind.TheVariants.{Fault}
use Rattle.amqp_wire.specs.declared.frame.Front.{Front}
use Rattle.amqp_wire.specs.declared.frame.Front.TheVariants as front
use Rattle.amqp_transport.specs.declared.frames.Frame.{Frame}
use Rattle.amqp_transport.specs.declared.transport.Error.{Error as TransportFault}
use Rattle.amqp_transport.specs.declared.transport.Error.TheVariants as fault
use Rattle.amqp_transport.specs.declared.transport.Next.{Next}
use Rattle.amqp_transport.specs.declared.transport.Next.TheVariants as next
use Rattle.amqp_transport.specs.Clocks.{HasElapsed}
use Rattle.amqp_transport.specs.Kinds.{amqp_spells}
use Rattle.amqp_transport.specs.Stream.{frames_of}
use Rattle.amqp_transport.specs.Wire.{Wire, Answered, Ends, Waits, Polled, PolledAt}
use Rattle.amqp_engine.specs.declared.engine.EngineStep.{EngineStep}
use Rattle.amqp_engine.specs.declared.error.Error.{Error}
use Rattle.amqp_engine.specs.declared.phase.Phase.{Phase}
use Rattle.amqp_engine.specs.declared.phase.Phase.TheVariants as p
use Rattle.amqp_engine.specs.Phases.{has_failed}
use Rattle.amqp_engine.specs.Machine.{received, awaited, arrived, outlasted}
use Rattle.amqp_engine.specs.State.{State}
use Rattle.amqp_engine.specs.Calls.{After, failing_by}
use Rattle.amqp_engine.specs.Beats.{begun_by, beat_read, IsBeat}

awaited_beat : {L : Type 0} (at : ℕ) (s : State L) (body : FrameBody) → (awaited at s body).beat ≡ begun_by body at s.beat
awaited_beat at s (b.Open y) = refl
awaited_beat at s (b.Close y) = refl
awaited_beat at s b.Empty = refl
awaited_beat at s (b.Begin y) = refl
awaited_beat at s (b.Attach y) = refl
awaited_beat at s (b.Flow y) = refl
awaited_beat at s (b.Transfer y z) = refl
awaited_beat at s (b.Disposition y) = refl
awaited_beat at s (b.Detach y) = refl
awaited_beat at s (b.End y) = refl

arrived_beat : {L : Type 0} (s : State L) (x : Frame) (body : FrameBody) → (arrived s x body).beat ≡ s.beat
arrived_beat s x (b.Open y) = refl
arrived_beat s x (b.Close y) = refl
arrived_beat s x b.Empty = refl
arrived_beat s x (b.Begin y) = refl
arrived_beat s x (b.Attach y) = refl
arrived_beat s x (b.Flow y) = refl
arrived_beat s x (b.Transfer y z) = refl
arrived_beat s x (b.Disposition y) = refl
arrived_beat s x (b.Detach y) = refl
arrived_beat s x (b.End y) = refl

outlasted_beat : {L : Type 0} (s : State L) (body : FrameBody) → (outlasted s body).beat ≡ s.beat
outlasted_beat s (b.Open y) = refl
outlasted_beat s (b.Close y) = refl
outlasted_beat s b.Empty = refl
outlasted_beat s (b.Begin y) = refl
outlasted_beat s (b.Attach y) = refl
outlasted_beat s (b.Flow y) = refl
outlasted_beat s (b.Transfer y z) = refl
outlasted_beat s (b.Disposition y) = refl
outlasted_beat s (b.Detach y) = refl
outlasted_beat s (b.End y) = refl

received_beat : {L : Type 0} (q : Phase) (at : ℕ) (s : State L) (x : Frame) → (received q at s x).beat ≡ beat_read q x.body at s.beat
received_beat p.OpenSent at s x = awaited_beat at s x.body
received_beat p.Opened at s x = arrived_beat s x x.body
received_beat p.CloseSent at s x = outlasted_beat s x.body
received_beat p.Discarding at s x = outlasted_beat s x.body
received_beat p.CloseReceived at s x = refl
received_beat p.Refused at s x = refl
received_beat (p.Rejected why) at s x = refl
received_beat p.Ended at s x = refl
received_beat p.Failed at s x = refl

failing_beat : {L : Type 0} (s new : State L) (e : TransportFault) → new ≡ failing_by e s → new.beat ≡ s.beat
failing_beat {L} s new (fault.Memory a) e = ap (λ (t : State L). t.beat) e
failing_beat {L} s new (fault.Io k) e = ap (λ (t : State L). t.beat) e
failing_beat {L} s new fault.IdleTimeoutElapsed e = ap (λ (t : State L). t.beat) e
failing_beat {L} s new fault.DecodeError e = ap (λ (t : State L). t.beat) e
failing_beat {L} s new fault.NotImplemented e = ap (λ (t : State L). t.beat) e
failing_beat {L} s new fault.FramingError e = ap (λ (t : State L). t.beat) e

pub beat_after : {L : Type 0} (at : ℕ) (s : State L) (answer : Result (Next Frame) TransportFault) (result : Result EngineStep Error) (new : State L) → has_failed s.phase ≡ false → After at s answer result new → IsBeat at s (frames_of answer) [] new
beat_after {L} at s (Ok (next.Frame x)) result new f a = (f, ap (λ (t : State L). t.beat) a.1 ∙ received_beat s.phase at s x)
beat_after {L} at s (Ok next.Pending) result new f a = ap (λ (t : State L). t.beat) a.1
beat_after {L} at s (Ok next.Ended) result new f a = ap (λ (t : State L). t.beat) a.1
beat_after at s (Err e) result new f a = failing_beat s new e a.1

-- the link, the input and the output are no part of it
pub beat_wire : {L : Type 0} (at : ℕ) (old : State L) (wire : Wire L) (given queued : List Frame) (new : State L) → IsBeat at (record old { wire = wire }) given queued new → IsBeat at old given queued new
beat_wire at old wire [] [] new h = h
beat_wire at old wire [] (x ∷ []) new h = h
beat_wire at old wire [] (x ∷ y ∷ xs) new h = absurd h
beat_wire at old wire (x ∷ []) [] new h = h
beat_wire at old wire (x ∷ []) (y ∷ ys) new h = absurd h
beat_wire at old wire (x ∷ y ∷ xs) queued new h = absurd h

-- ---- the idle time

ends_not : {L X : Type 0} (old : Wire L) (input : List ℕ) (new : Wire L) → old.codec.input ≡ input → Ends {X = X} old (Ok next.Pending) new → ⊥
ends_not old [] new e n = absurd (cc (n.whole e).0)
ends_not old (x ∷ xs) new e n = absurd (cc (n.cut (λ z. absurd (cc (sym e ∙ z)))).error)

waits_unelapsed : {L X : Type 0} (at : ℕ) (old new : Wire L) → Waits {X = X} at old (Ok next.Pending) old (Ok next.Pending) new → HasElapsed new.clock at → ⊥
waits_unelapsed {L} at old new w h =
    let n : HasElapsed old.clock at → ⊥ = λ z. absurd (cc (w.idle z).error) in
    n (subst (λ (v : Wire L). HasElapsed v.clock at) (w.other n).1 h)

failed_waits_not : {L X : Type 0} (at : ℕ) (old after new : Wire L) → Waits {X = X} at old (Err (fault.Io Fault)) after (Ok next.Pending) new → ⊥
failed_waits_not at old after new w = let n : HasElapsed old.clock at → ⊥ = λ z. absurd (cc (w.idle z).error) in absurd (cc (w.other n).0)

answered_unelapsed : {L X : Type 0} (spells : ℕ → List ℕ → X → Type 0) (f : Front) (stop : Option Stop) (at : ℕ) (old new : Wire L) → Answered spells f stop at old (Ok next.Pending) new → HasElapsed new.clock at → ⊥
answered_unelapsed spells (front.Whole size start channel) stop at old new a h = a
answered_unelapsed spells front.Refused stop at old new a h = absurd (cc a.error)
answered_unelapsed spells front.Foreign stop at old new a h = absurd (cc a.error)
answered_unelapsed spells front.Partial (Some EndStop) at old new a h = ends_not old old.codec.input new refl a
answered_unelapsed spells front.Partial (Some Empty) at old new a h = waits_unelapsed at old new a h
answered_unelapsed spells front.Partial (Some Failed) at old new a h = absurd (failed_waits_not at old _ new a)
answered_unelapsed spells front.Partial None at old new a h = a

polled_unelapsed : {L : Type 0} (kept : Option TransportFault) (link : Ghosts L) (at : ℕ) (old new : Wire L) → PolledAt kept link 0 amqp_spells old at (Ok next.Pending) new → HasElapsed new.clock at → ⊥
polled_unelapsed (Some e) link at old new q h = absurd (cc q.0)
polled_unelapsed None link at old new (inl a) h = answered_unelapsed amqp_spells a.front a.stop at (record old { codec = a.fed }) new a.answer h
polled_unelapsed None link at old new (inr m) h = absurd m.0

-- nothing is there only where the idle time has not passed
pub pending_unelapsed : {L : Type 0} (link : Ghosts L) (at : ℕ) (old new : Wire L) (answer : Result (Next Frame) TransportFault) → answer ≡ Ok next.Pending → Polled link 0 amqp_spells old at answer new → HasElapsed new.clock at → ⊥
pending_unelapsed {L} link at old new answer e q h =
    polled_unelapsed old.kept link at old new (subst (λ (r : Result (Next Frame) TransportFault). PolledAt old.kept link 0 amqp_spells old at r new) e q) h

-- Where a connection waits, it has taken each whole frame that it read, and awaits another.
use Rattle.std.proofs.Common.{◌≡◌, inl, inr, ℕ, List, [], ◌∷◌, Option, Some, None, Result, Ok, Err, refl, sym, ap, ◌∙◌, subst}
use Rattle.amqp_frames.specs.declared.body.FrameBody.{FrameBody}
use Rattle.amqp_frames.specs.declared.body.FrameBody.TheVariants as b
use Rattle.amqp_wire.specs.declared.frame.Front.{Front}
use Rattle.amqp_wire.specs.declared.frame.Front.TheVariants.{Partial, Refused, Foreign, Whole}
use Rattle.amqp_wire.specs.declared.link.Link.{Ghosts}
use Rattle.amqp_wire.specs.declared.link.Stop.{Stop}
use Rattle.amqp_wire.specs.declared.link.Stop.TheVariants.{Empty, End, Failed}
use Rattle.amqp_wire.specs.Frame.{IsFront}
use Rattle.amqp_transport.specs.declared.frames.Frame.{Frame}
use Rattle.amqp_transport.specs.declared.transport.Error.{Error as TransportFault}
use Rattle.amqp_transport.specs.declared.transport.Next.{Next}
use Rattle.amqp_transport.specs.declared.transport.Next.TheVariants as next
use Rattle.amqp_transport.specs.Kinds.{amqp_spells}
use Rattle.amqp_transport.specs.Stream.{IsPart}
use Rattle.amqp_transport.specs.Wire.{Wire, Answered, Ends, Polled, PolledAt}
use Rattle.amqp_engine.specs.declared.engine.EngineStep.TheVariants as step
use Rattle.amqp_engine.specs.declared.error.Error.{Error}
use Rattle.amqp_engine.specs.declared.phase.Phase.{Phase}
use Rattle.amqp_engine.specs.declared.phase.Phase.TheVariants as p
use Rattle.amqp_engine.specs.declared.sessions.Plan.{Plan}
use Rattle.amqp_engine.specs.declared.sessions.Plan.TheVariants as plan
use Rattle.amqp_engine.specs.Calls.{After, Reads, Acts, ThenActs, Steps}
use Rattle.amqp_engine.specs.Machine.{awaited_answer, admitted_answer, arrived_answer, plan_of, answer_to}
use Rattle.amqp_engine.specs.State.{State}
use Rattle.amqp_transport.specs.declared.transport.Flush.{Flush}
use Rattle.amqp_peer.specs.Held.{IsAwaiting}

-- ---- a frame that came is never answered by a wait

awaited_not : (body : FrameBody) → Ok step.Pending ≡ awaited_answer body → ⊥
awaited_not (b.Open x) e = absurd (cc e)
awaited_not (b.Begin x) e = absurd (cc e)
awaited_not (b.Attach x) e = absurd (cc e)
awaited_not (b.Flow x) e = absurd (cc e)
awaited_not (b.Transfer x y) e = absurd (cc e)
awaited_not (b.Disposition x) e = absurd (cc e)
awaited_not (b.Detach x) e = absurd (cc e)
awaited_not (b.End x) e = absurd (cc e)
awaited_not (b.Close x) e = absurd (cc e)
awaited_not b.Empty e = absurd (cc e)

admitted_not : (q : Plan) → Ok step.Pending ≡ admitted_answer q → ⊥
admitted_not plan.Deliver e = absurd (cc e)
admitted_not plan.Answer e = absurd (cc e)
admitted_not plan.End e = absurd (cc e)
admitted_not plan.Ask e = absurd (cc e)
admitted_not (plan.Reject why) e = absurd (cc e)

arrived_not : (q : Plan) (body : FrameBody) → Ok step.Pending ≡ arrived_answer q body → ⊥
arrived_not q (b.Open x) e = absurd (cc e)
arrived_not q (b.Begin x) e = admitted_not q e
arrived_not q (b.Attach x) e = admitted_not q e
arrived_not q (b.Flow x) e = admitted_not q e
arrived_not q (b.Transfer x y) e = admitted_not q e
arrived_not q (b.Disposition x) e = admitted_not q e
arrived_not q (b.Detach x) e = admitted_not q e
arrived_not q (b.End x) e = admitted_not q e
arrived_not q (b.Close x) e = absurd (cc e)
arrived_not q b.Empty e = absurd (cc e)

answer_not : {L : Type 0} (q : Phase) (s : State L) (x : Frame) → Ok step.Pending ≡ answer_to q s x → ⊥
answer_not p.OpenSent s x e = awaited_not x.body e
answer_not p.Opened s x e = arrived_not (plan_of s x) x.body e
answer_not p.CloseReceived s x e = absurd (cc e)
answer_not p.Refused s x e = absurd (cc e)
answer_not (p.Rejected why) s x e = absurd (cc e)
answer_not p.CloseSent s x e = absurd (cc e)
answer_not p.Discarding s x e = absurd (cc e)
answer_not p.Ended s x e = absurd (cc e)
answer_not p.Failed s x e = absurd (cc e)

-- ---- what the transport answers

front_part : (kind limit : ℕ) (bytes : List ℕ) → IsFront kind limit bytes Partial → IsPart bytes
front_part kind limit bytes (inl a) = inl a
front_part kind limit bytes (inr a) = inr a.less

ends_not : {L : Type 0} (input : List ℕ) (old new : Wire L) → old.codec.input ≡ input → Ends {X = Frame} old (Ok next.Pending) new → ⊥
ends_not [] old new e n = absurd (cc (n.whole e).0)
ends_not (x ∷ xs) old new e n = absurd (cc (n.cut (λ z. absurd (cc (sym e ∙ z)))).error)

answered_part : {L : Type 0} (front : Front) (stop : Option Stop) (at limit : ℕ) (old new : Wire L) → IsFront 0 limit old.codec.input front → Answered amqp_spells front stop at old (Ok next.Pending) new → IsPart new.codec.input
answered_part (Whole size start channel) stop at limit old new f a = absurd a
answered_part Refused stop at limit old new f a = absurd (cc a.error)
answered_part Foreign stop at limit old new f a = absurd (cc a.error)
answered_part Partial None at limit old new f a = absurd a
answered_part Partial (Some End) at limit old new f a = absurd (ends_not old.codec.input old new refl a)
answered_part {L} Partial (Some Empty) at limit old new f a = subst (λ (w : Wire L). IsPart w.codec.input) (sym (a.other (λ i. absurd (cc (a.idle i).error))).1) (front_part 0 limit old.codec.input f)
answered_part Partial (Some Failed) at limit old new f a = absurd (cc (a.other (λ i. absurd (cc (a.idle i).error))).0)

polled_part : {L : Type 0} (kept : Option TransportFault) (link : Ghosts L) (old : Wire L) (at : ℕ) (new : Wire L) → PolledAt kept link 0 amqp_spells old at (Ok next.Pending) new → IsPart new.codec.input
polled_part (Some e) link old at new a = absurd (cc a.0)
polled_part None link old at new (inl a) = answered_part a.front a.stop at old.codec.decoder (record old { codec = a.fed }) new a.begins a.answer
polled_part None link old at new (inr a) = absurd a.0

-- ---- a step

after_part : {L : Type 0} (link : Ghosts L) (at : ℕ) (s : State L) (from to : Wire L) (answer : Result (Next Frame) TransportFault) (new : State L) → Polled link 0 amqp_spells from at answer to → After at (record s { wire = to }) answer (Ok step.Pending) new → IsPart new.wire.codec.input
after_part link at s from to (Ok (next.Frame x)) new w a = absurd (answer_not s.phase (record s { wire = to }) x a.0)
after_part {L} link at s from to (Ok next.Pending) new w a = subst (λ (z : State L). IsPart z.wire.codec.input) (sym a.1) (polled_part from.kept link from at to w)
after_part link at s from to (Ok next.Ended) new w a = absurd (cc a.0)
after_part link at s from to (Err e) new w a = absurd (cc a.0)

reads_part : {L : Type 0} (link : Ghosts L) (at : ℕ) (old new : State L) → Reads link at old (Ok step.Pending) new → IsPart new.wire.codec.input
reads_part link at old new r = after_part link at old old.wire r.wire r.answer new r.polled r.does

acts_part : {L : Type 0} (q : Phase) (link : Ghosts L) (at : ℕ) (old new : State L) → Acts q link at old (Ok step.Pending) new → IsPart new.wire.codec.input
acts_part p.OpenSent link at old new a = reads_part link at old new a
acts_part p.Opened link at old new (inl a) = absurd (cc a.1.0)
acts_part p.Opened link at old new (inr (n, inl a)) = reads_part link at old new a
acts_part p.Opened link at old new (inr (n, inr a)) = absurd a.0
acts_part p.CloseReceived link at old new a = absurd (cc a.0)
acts_part p.Refused link at old new a = absurd (cc a.0)
acts_part (p.Rejected why) link at old new (inl a) = absurd (cc a.0)
acts_part (p.Rejected why) link at old new (inr a) = absurd a.0
acts_part p.CloseSent link at old new a = reads_part link at old new a
acts_part p.Discarding link at old new a = reads_part link at old new a
acts_part p.Ended link at old new a = absurd (cc a.0)
acts_part p.Failed link at old new a = absurd (cc a.0)

then_part : {L : Type 0} (flush : Result Flush Error) (link : Ghosts L) (at : ℕ) (mid new : State L) → ThenActs link at flush mid (Ok step.Pending) new → IsPart new.wire.codec.input
then_part (Ok f) link at mid new a = acts_part mid.phase link at mid new a
then_part (Err e) link at mid new a = absurd (cc a.0)

-- what was read and not given is no whole frame
pub pending_part : {L : Type 0} (link : Ghosts L) (at : ℕ) (old new : State L) → Steps link at old (Ok step.Pending) new → IsPart new.wire.codec.input
pending_part link at old new s = then_part s.flush link at s.mid new s.acts

-- ---- a frame is awaited

after_phase : {L : Type 0} (at : ℕ) (s : State L) (answer : Result (Next Frame) TransportFault) (new : State L) → After at s answer (Ok step.Pending) new → new.phase ≡ s.phase
after_phase at s (Ok (next.Frame x)) new a = absurd (answer_not s.phase s x a.0)
after_phase {L} at s (Ok next.Pending) new a = ap (λ (z : State L). z.phase) a.1
after_phase at s (Ok next.Ended) new a = absurd (cc a.0)
after_phase at s (Err e) new a = absurd (cc a.0)

reads_phase : {L : Type 0} (link : Ghosts L) (at : ℕ) (old new : State L) → Reads link at old (Ok step.Pending) new → new.phase ≡ old.phase
reads_phase link at old new r = after_phase at (record old { wire = r.wire }) r.answer new r.does

acts_awaits : {L : Type 0} (q : Phase) (link : Ghosts L) (at : ℕ) (old new : State L) → old.phase ≡ q → Acts q link at old (Ok step.Pending) new → IsAwaiting new.phase
acts_awaits p.OpenSent link at old new e a = subst IsAwaiting (sym (reads_phase link at old new a ∙ e)) tt
acts_awaits p.Opened link at old new e (inl a) = absurd (cc a.1.0)
acts_awaits p.Opened link at old new e (inr (n, inl a)) = subst IsAwaiting (sym (reads_phase link at old new a ∙ e)) tt
acts_awaits p.Opened link at old new e (inr (n, inr a)) = absurd a.0
acts_awaits p.CloseReceived link at old new e a = absurd (cc a.0)
acts_awaits p.Refused link at old new e a = absurd (cc a.0)
acts_awaits (p.Rejected why) link at old new e (inl a) = absurd (cc a.0)
acts_awaits (p.Rejected why) link at old new e (inr a) = absurd a.0
acts_awaits p.CloseSent link at old new e a = subst IsAwaiting (sym (reads_phase link at old new a ∙ e)) tt
acts_awaits p.Discarding link at old new e a = subst IsAwaiting (sym (reads_phase link at old new a ∙ e)) tt
acts_awaits p.Ended link at old new e a = absurd (cc a.0)
acts_awaits p.Failed link at old new e a = absurd (cc a.0)

then_awaits : {L : Type 0} (flush : Result Flush Error) (link : Ghosts L) (at : ℕ) (mid new : State L) → ThenActs link at flush mid (Ok step.Pending) new → IsAwaiting new.phase
then_awaits (Ok f) link at mid new a = acts_awaits mid.phase link at mid new refl a
then_awaits (Err e) link at mid new a = absurd (cc a.0)

-- the connection goes on with a frame of the peer's alone
pub pending_awaits : {L : Type 0} (link : Ghosts L) (at : ℕ) (old new : State L) → Steps link at old (Ok step.Pending) new → IsAwaiting new.phase
pending_awaits link at old new s = then_awaits s.flush link at s.mid new s.acts

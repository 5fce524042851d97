-- A step keeps whose Close came first.
use Rattle.std.proofs.Common.{◌≡◌, [], ◌∷◌, ℕ, List, Option, Some, None, Result, Ok, Err, refl, sym, ap, subst}
use Rattle.amqp_composites.specs.declared.error.Error.{Error as AmqpError}
use Rattle.amqp_transport.specs.amqp_frames.declared.body.FrameBody.{FrameBody}
use Rattle.amqp_transport.specs.amqp_frames.declared.body.FrameBody.TheVariants as b
use Rattle.amqp_transport.specs.amqp_frames.declared.shared.ConnectionStopReason.{ConnectionStopReason}
use Rattle.amqp_transport.specs.amqp_frames.declared.shared.ConnectionStopReason.TheVariants as why
use Rattle.amqp_transport.specs.declared.frames.Frame.{Frame}
use Rattle.amqp_transport.specs.declared.transport.Error.{Error as TransportFault}
use Rattle.amqp_transport.specs.declared.transport.Error.TheVariants as fault
use Rattle.amqp_transport.specs.declared.transport.Next.{Next}
use Rattle.amqp_transport.specs.declared.transport.Next.TheVariants as next
use Rattle.amqp_transport.specs.Stream.{frames_of}
use Rattle.amqp_transport.specs.Wire.{Wire}
use Rattle.amqp_engine.specs.declared.engine.EngineStep.{EngineStep}
use Rattle.amqp_engine.specs.declared.error.Error.{Error}
use Rattle.amqp_engine.specs.declared.phase.Phase.{Phase}
use Rattle.amqp_engine.specs.declared.phase.Phase.TheVariants as p
use Rattle.amqp_engine.specs.declared.sessions.Plan.{Plan}
use Rattle.amqp_engine.specs.declared.sessions.Plan.TheVariants as plan
use Rattle.amqp_engine.specs.Machine.{received, plan_of, phase_after, awaited, arrived, outlasted}
use Rattle.amqp_engine.specs.State.{State, failing, closing, close_frame, own_reason, remote_reason, answered_reason}
use Rattle.amqp_engine.specs.Calls.{After, failing_by}
use Rattle.amqp_engine.specs.Closers.{Closer, Nobody, This, Peer, closer_by, IsOwnReason, IsPeerReason, IsFirst, IsCloser, KeepsCloser}

-- ---- reasons

remote_of_peer : (e : Option AmqpError) → IsPeerReason (remote_reason e)
remote_of_peer None = tt
remote_of_peer (Some e) = tt

own_of_this : (e : Option AmqpError) → IsOwnReason (own_reason e)
own_of_this None = tt
own_of_this (Some e) = tt

peer_first : (reason : ConnectionStopReason) (c : Closer) → IsPeerReason reason → c ≡ Peer → IsFirst reason c
peer_first why.Closed c p e = absurd p
peer_first (why.ClosedWithError x) c p e = absurd p
peer_first why.RemoteClosed c p e = e
peer_first (why.RemoteClosedWithError x) c p e = tt

own_first : (reason : ConnectionStopReason) (c : Closer) → IsOwnReason reason → c ≡ This → IsFirst reason c
own_first why.Closed c o e = e
own_first (why.ClosedWithError x) c o e = e
own_first why.RemoteClosed c o e = absurd o
own_first (why.RemoteClosedWithError x) c o e = absurd o

answered_first : (reason : ConnectionStopReason) (e : Option AmqpError) (c : Closer) → IsOwnReason reason → c ≡ This → IsFirst (answered_reason reason e) c
answered_first reason None c o t = own_first reason c o t
answered_first reason (Some x) c o t = tt

-- the first Close counts
closed_by : (who : Closer) (x : FrameBody) (c d : Closer) → c ≡ d → closer_by who x c ≡ closer_by who x d
closed_by who x c d e = ap (λ (z : Closer). closer_by who x z) e

-- ---- a frame that is read

awaited_keeps : {L : Type 0} (at : ℕ) (s : State L) (body : FrameBody) (c : Closer) → (c ≡ Nobody) × (s.reason ≡ why.Closed) → IsCloser (awaited at s body).phase (awaited at s body).reason (closer_by Peer body c)
awaited_keeps at s (b.Open y) c k = k
awaited_keeps at s (b.Close y) c k = (closed_by Peer (b.Close y) c Nobody k.0, remote_of_peer y.error)
awaited_keeps at s b.Empty c k = k
awaited_keeps at s (b.Begin y) c k = k
awaited_keeps at s (b.Attach y) c k = k
awaited_keeps at s (b.Flow y) c k = k
awaited_keeps at s (b.Transfer y z) c k = k
awaited_keeps at s (b.Disposition y) c k = k
awaited_keeps at s (b.Detach y) c k = k
awaited_keeps at s (b.End y) c k = k

planned_keeps : (q : Plan) (phase : Phase) (reason : ConnectionStopReason) (c : Closer) → phase ≡ p.Opened → (c ≡ Nobody) × (reason ≡ why.Closed) → IsCloser (phase_after q phase) reason c
planned_keeps (plan.Reject why) phase reason c e k = k
planned_keeps plan.Deliver phase reason c e k = subst (λ (z : Phase). IsCloser z reason c) (sym e) k
planned_keeps plan.Answer phase reason c e k = subst (λ (z : Phase). IsCloser z reason c) (sym e) k
planned_keeps plan.End phase reason c e k = subst (λ (z : Phase). IsCloser z reason c) (sym e) k
planned_keeps plan.Ask phase reason c e k = subst (λ (z : Phase). IsCloser z reason c) (sym e) k

arrived_keeps : {L : Type 0} (s : State L) (x : Frame) (body : FrameBody) (c : Closer) → s.phase ≡ p.Opened → (c ≡ Nobody) × (s.reason ≡ why.Closed) → IsCloser (arrived s x body).phase (arrived s x body).reason (closer_by Peer body c)
arrived_keeps s x (b.Open y) c e k = k
arrived_keeps s x (b.Close y) c e k = (closed_by Peer (b.Close y) c Nobody k.0, remote_of_peer y.error)
arrived_keeps s x b.Empty c e k = subst (λ (z : Phase). IsCloser z s.reason c) (sym e) k
arrived_keeps s x (b.Begin y) c e k = planned_keeps (plan_of s x) s.phase s.reason c e k
arrived_keeps s x (b.Attach y) c e k = planned_keeps (plan_of s x) s.phase s.reason c e k
arrived_keeps s x (b.Flow y) c e k = planned_keeps (plan_of s x) s.phase s.reason c e k
arrived_keeps s x (b.Transfer y z) c e k = planned_keeps (plan_of s x) s.phase s.reason c e k
arrived_keeps s x (b.Disposition y) c e k = planned_keeps (plan_of s x) s.phase s.reason c e k
arrived_keeps s x (b.Detach y) c e k = planned_keeps (plan_of s x) s.phase s.reason c e k
arrived_keeps s x (b.End y) c e k = planned_keeps (plan_of s x) s.phase s.reason c e k

outlasted_keeps : {L : Type 0} (s : State L) (body : FrameBody) (c : Closer) → (c ≡ This) × IsOwnReason s.reason → IsCloser s.phase s.reason c → IsCloser (outlasted s body).phase (outlasted s body).reason (closer_by Peer body c)
outlasted_keeps s (b.Close y) c k h = answered_first s.reason y.error (closer_by Peer (b.Close y) c) k.1 (closed_by Peer (b.Close y) c This k.0)
outlasted_keeps s (b.Open y) c k h = h
outlasted_keeps s b.Empty c k h = h
outlasted_keeps s (b.Begin y) c k h = h
outlasted_keeps s (b.Attach y) c k h = h
outlasted_keeps s (b.Flow y) c k h = h
outlasted_keeps s (b.Transfer y z) c k h = h
outlasted_keeps s (b.Disposition y) c k h = h
outlasted_keeps s (b.Detach y) c k h = h
outlasted_keeps s (b.End y) c k h = h

-- phases in which a frame is read
abbrev pub Reads : Phase → Type 0
Reads p.OpenSent = Unit {0}
Reads p.Opened = Unit {0}
Reads p.CloseSent = Unit {0}
Reads p.Discarding = Unit {0}
Reads phase = ⊥

received_keeps : {L : Type 0} (q : Phase) (at : ℕ) (s : State L) (x : Frame) (c : Closer) → s.phase ≡ q → Reads q → IsCloser q s.reason c → IsCloser s.phase s.reason c → IsCloser (received q at s x).phase (received q at s x).reason (closer_by Peer x.body c)
received_keeps p.OpenSent at s x c e r k h = awaited_keeps at s x.body c k
received_keeps p.Opened at s x c e r k h = arrived_keeps s x x.body c e k
received_keeps p.CloseSent at s x c e r k h = outlasted_keeps s x.body c k h
received_keeps p.Discarding at s x c e r k h = outlasted_keeps s x.body c k h
received_keeps p.CloseReceived at s x c e r k h = absurd r
received_keeps p.Refused at s x c e r k h = absurd r
received_keeps (p.Rejected why) at s x c e r k h = absurd r
received_keeps p.Ended at s x c e r k h = absurd r
received_keeps p.Failed at s x c e r k h = absurd r

-- ---- steps

pub keeps_same : {L : Type 0} (old new : State L) → new ≡ old → KeepsCloser old [] [] new
keeps_same {L} old new e = λ c k. subst (λ (t : State L). IsCloser t.phase t.reason c) (sym e) k

pub keeps_failing : {L : Type 0} (old s new : State L) → new ≡ failing s → KeepsCloser old [] [] new
keeps_failing {L} old s new e = λ c k. subst (λ (t : State L). IsCloser t.phase t.reason c) (sym e) tt

keeps_by : {L : Type 0} (old new : State L) (e : TransportFault) → new ≡ failing_by e old → KeepsCloser old [] [] new
keeps_by old new (fault.Memory a) e = keeps_same old new e
keeps_by old new (fault.Io k) e = keeps_failing old old new e
keeps_by old new fault.IdleTimeoutElapsed e = keeps_failing old old new e
keeps_by old new fault.DecodeError e = keeps_failing old old new e
keeps_by old new fault.NotImplemented e = keeps_failing old old new e
keeps_by old new fault.FramingError e = keeps_failing old old new e

pub keeps_after : {L : Type 0} (at : ℕ) (s : State L) (answer : Result (Next Frame) TransportFault) (result : Result EngineStep Error) (new : State L) → Reads s.phase → After at s answer result new → KeepsCloser s (frames_of answer) [] new
keeps_after {L} at s (Ok (next.Frame x)) result new r a = λ c k. subst (λ (t : State L). IsCloser t.phase t.reason (closer_by Peer x.body c)) (sym a.1) (received_keeps s.phase at s x c refl r k k)
keeps_after at s (Ok next.Pending) result new r a = keeps_same s new a.1
keeps_after at s (Ok next.Ended) result new r a = keeps_failing s s new a.1
keeps_after at s (Err e) result new r a = keeps_by s new e a.1

-- a Close is queued while the connection is open, or for a rejection
pub closing_keeps : {L : Type 0} (old : State L) (y : Option AmqpError) (c : Closer) → (c ≡ Nobody) × (old.reason ≡ why.Closed) → IsCloser (closing old y).phase (closing old y).reason (closer_by This (close_frame y).body c)
closing_keeps old None c k = (closed_by This (close_frame None).body c Nobody k.0, tt)
closing_keeps old (Some z) c k = (closed_by This (close_frame (Some z)).body c Nobody k.0, tt)

pub keeps_closing : {L : Type 0} (old new : State L) (y : Option AmqpError) → old.phase ≡ p.Opened → new ≡ closing old y → KeepsCloser old [] (close_frame y ∷ []) new
keeps_closing {L} old new y o e = λ c k. subst (λ (t : State L). IsCloser t.phase t.reason (closer_by This (close_frame y).body c)) (sym e) (closing_keeps old y c (subst (λ (q : Phase). IsCloser q old.reason c) o k))

-- the peer's Close is answered
pub keeps_answering : (reason : ConnectionStopReason) (c : Closer) → (c ≡ Peer) × IsPeerReason reason → IsFirst reason (closer_by This (close_frame None).body c)
keeps_answering reason c k = peer_first reason (closer_by This (close_frame None).body c) k.1 (closed_by This (close_frame None).body c Peer k.0)

-- or another frame in place of Open
pub keeps_refusing : (reason : ConnectionStopReason) (c : Closer) → (c ≡ Nobody) × (reason ≡ why.Closed) → IsFirst reason (closer_by This (close_frame None).body c)
keeps_refusing reason c k = subst (λ (r : ConnectionStopReason). IsFirst r (closer_by This (close_frame None).body c)) (sym k.1) (closed_by This (close_frame None).body c Nobody k.0)

-- the link, the input and the output are no part of it
pub keeps_wire : {L : Type 0} (old : State L) (wire : Wire L) (given queued : List Frame) (new : State L) → KeepsCloser (record old { wire = wire }) given queued new → KeepsCloser old given queued new
keeps_wire old wire given queued new k = λ c h. k c h

-- An end that says no more but a Close, if it has not queued it, and one whose transport has failed: each step leaves them so.
use Rattle.std.proofs.Common.{◌≡◌, inl, inr, ℕ, List, Bool, true, false, Option, Some, None, Result, Ok, Err, refl, sym, ap, ◌∙◌, subst}
use Rattle.amqp_wire.specs.declared.link.Link.{Ghosts}
use Rattle.amqp_composites.specs.declared.error.Error.{Error as AmqpError}
use Rattle.amqp_frames.specs.declared.body.FrameBody.{FrameBody}
use Rattle.amqp_frames.specs.declared.body.FrameBody.TheVariants as b
use Rattle.amqp_transport.specs.declared.frames.Frame.{Frame}
use Rattle.amqp_transport.specs.declared.transport.Error.{Error as TransportFault}
use Rattle.amqp_transport.specs.declared.transport.Error.TheVariants as fault
use Rattle.amqp_transport.specs.declared.transport.Flush.{Flush}
use Rattle.amqp_transport.specs.declared.transport.Flush.TheVariants as flushed
use Rattle.amqp_transport.specs.declared.transport.Next.{Next}
use Rattle.amqp_transport.specs.declared.transport.Next.TheVariants as next
use Rattle.amqp_engine.specs.declared.engine.EngineStep.{EngineStep}
use Rattle.amqp_engine.specs.declared.engine.EngineStep.TheVariants as step
use Rattle.amqp_engine.specs.declared.error.Error.{Error}
use Rattle.amqp_engine.specs.declared.error.Error.TheVariants as error
use Rattle.amqp_engine.specs.declared.phase.Phase.{Phase}
use Rattle.amqp_engine.specs.declared.phase.Phase.TheVariants as p
use Rattle.amqp_engine.specs.Calls.{Puts, failing_by, After, Reads, Acts, AfterFlush, FlushesIf, ThenActs, Steps}
use Rattle.amqp_engine.specs.Machine.{outlasted, received}
use Rattle.amqp_engine.specs.Outcomes.{IsClosedBy}
use Rattle.amqp_engine.specs.Phases.{has_failed, is_open}
use Rattle.amqp_engine.specs.State.{State, queueing, failing, closing, close_phase, close_frame, error_for}
use Rattle.amqp_peer.specs.Held.{IsLeaving}

-- a state is another one
same_leaves : {L : Type 0} (s new : State L) → new ≡ s → IsLeaving s.phase → IsLeaving new.phase
same_leaves {L} s new e l = subst (λ (z : State L). IsLeaving z.phase) (sym e) l

failing_leaves : {L : Type 0} (e : TransportFault) (s : State L) → IsLeaving s.phase → IsLeaving (failing_by e s).phase
failing_leaves (fault.Memory a) s l = l
failing_leaves (fault.Io k) s l = tt
failing_leaves fault.IdleTimeoutElapsed s l = tt
failing_leaves fault.DecodeError s l = tt
failing_leaves fault.NotImplemented s l = tt
failing_leaves fault.FramingError s l = tt

-- ---- a Close is queued

close_leaves : (y : Option AmqpError) → IsLeaving (close_phase y)
close_leaves None = tt
close_leaves (Some e) = tt

puts_leaves : {L A : Type 0} (old after new : State L) (x : Frame) (value : A) (result : Result A Error) → IsLeaving old.phase → IsLeaving after.phase → Puts old x after value result new → IsLeaving new.phase
puts_leaves old after new x value (Ok v) l m a = same_leaves after new a.2 m
puts_leaves old after new x value (Err (error.Memory c)) l m a = same_leaves old new a l
puts_leaves old after new x value (Err (error.TransportError fault.FramingError)) l m a = same_leaves (failing old) new a.1 tt
puts_leaves old after new x value (Err (error.TransportError (fault.Memory c))) l m a = absurd a
puts_leaves old after new x value (Err (error.TransportError (fault.Io k))) l m a = absurd a
puts_leaves old after new x value (Err (error.TransportError fault.IdleTimeoutElapsed)) l m a = absurd a
puts_leaves old after new x value (Err (error.TransportError fault.DecodeError)) l m a = absurd a
puts_leaves old after new x value (Err (error.TransportError fault.NotImplemented)) l m a = absurd a
puts_leaves old after new x value (Err error.IllegalState) l m a = absurd a
puts_leaves old after new x value (Err error.NotImplemented) l m a = absurd a
puts_leaves old after new x value (Err error.NotFound) l m a = absurd a
puts_leaves old after new x value (Err error.RemoteClosed) l m a = absurd a
puts_leaves old after new x value (Err (error.RemoteClosedWithError c)) l m a = absurd a

-- ---- a frame is read

outlasted_leaves : {L : Type 0} (s : State L) (body : FrameBody) → IsLeaving s.phase → IsLeaving (outlasted s body).phase
outlasted_leaves s (b.Open x) l = l
outlasted_leaves s (b.Begin x) l = l
outlasted_leaves s (b.Attach x) l = l
outlasted_leaves s (b.Flow x) l = l
outlasted_leaves s (b.Transfer x y) l = l
outlasted_leaves s (b.Disposition x) l = l
outlasted_leaves s (b.Detach x) l = l
outlasted_leaves s (b.End x) l = l
outlasted_leaves s (b.Close x) l = tt
outlasted_leaves s b.Empty l = l

received_leaves : {L : Type 0} (q : Phase) (at : ℕ) (s : State L) (x : Frame) → IsLeaving q → IsLeaving s.phase → IsLeaving (received q at s x).phase
received_leaves p.OpenSent at s x m l = absurd m
received_leaves p.Opened at s x m l = absurd m
received_leaves p.CloseReceived at s x m l = l
received_leaves p.Refused at s x m l = l
received_leaves (p.Rejected why) at s x m l = l
received_leaves p.CloseSent at s x m l = outlasted_leaves s x.body l
received_leaves p.Discarding at s x m l = outlasted_leaves s x.body l
received_leaves p.Ended at s x m l = l
received_leaves p.Failed at s x m l = l

after_leaves : {L : Type 0} (at : ℕ) (s new : State L) (answer : Result (Next Frame) TransportFault) (result : Result EngineStep Error) → IsLeaving s.phase → After at s answer result new → IsLeaving new.phase
after_leaves at s new (Ok (next.Frame x)) result l a = same_leaves (received s.phase at s x) new a.1 (received_leaves s.phase at s x l l)
after_leaves at s new (Ok next.Pending) result l a = same_leaves s new a.1 l
after_leaves at s new (Ok next.Ended) result l a = same_leaves (failing s) new a.1 tt
after_leaves at s new (Err e) result l a = same_leaves (failing_by e s) new a.1 (failing_leaves e s l)

reads_leave : {L : Type 0} (link : Ghosts L) (at : ℕ) (old new : State L) (result : Result EngineStep Error) → IsLeaving old.phase → Reads link at old result new → IsLeaving new.phase
reads_leave link at old new result l r = after_leaves at (record old { wire = r.wire }) new r.answer result l r.does

-- ---- a step

-- a Close without an error is queued
abbrev answering : {L : Type 0} → State L → State L
answering s = record (queueing s (close_frame None)) { phase = p.Ended }

acts_leave : {L : Type 0} (q : Phase) (link : Ghosts L) (at : ℕ) (old new : State L) (result : Result EngineStep Error) → IsLeaving q → IsLeaving old.phase → Acts q link at old result new → IsLeaving new.phase
acts_leave p.OpenSent link at old new result m l a = absurd m
acts_leave p.Opened link at old new result m l a = absurd m
acts_leave p.CloseReceived link at old new result m l a = puts_leaves old (answering old) new (close_frame None) step.Worked result l tt a
acts_leave p.Refused link at old new result m l a = puts_leaves old (answering old) new (close_frame None) step.Worked result l tt a
acts_leave (p.Rejected why) link at old new result m l (inl a) = puts_leaves old (closing old (Some (error_for why))) new (close_frame (Some (error_for why))) step.Worked result l tt a
acts_leave (p.Rejected why) link at old new result m l (inr a) = same_leaves old new a.1 l
acts_leave p.CloseSent link at old new result m l a = reads_leave link at old new result l a
acts_leave p.Discarding link at old new result m l a = reads_leave link at old new result l a
acts_leave p.Ended link at old new result m l a = same_leaves old new a.1 l
acts_leave p.Failed link at old new result m l a = same_leaves old new a.1 l

flushed_leaves : {L : Type 0} (s new : State L) (answer : Result Flush TransportFault) (flush : Result Flush Error) → IsLeaving s.phase → AfterFlush s answer flush new → IsLeaving new.phase
flushed_leaves s new (Ok f) flush l a = same_leaves s new a.1 l
flushed_leaves s new (Err e) flush l a = same_leaves (failing_by e s) new a.1 (failing_leaves e s l)

flushes_leave : {L : Type 0} (failed : Bool) (link : Ghosts L) (old new : State L) (flush : Result Flush Error) → IsLeaving old.phase → FlushesIf failed link old flush new → IsLeaving new.phase
flushes_leave true link old new flush l a = same_leaves old new a.1 l
flushes_leave false link old new flush l a = flushed_leaves (record old { wire = a.wire }) new a.answer flush l a.does

then_leaves : {L : Type 0} (flush : Result Flush Error) (link : Ghosts L) (at : ℕ) (mid new : State L) (result : Result EngineStep Error) → IsLeaving mid.phase → ThenActs link at flush mid result new → IsLeaving new.phase
then_leaves (Ok f) link at mid new result l a = acts_leave mid.phase link at mid new result l l a
then_leaves (Err e) link at mid new result l a = same_leaves mid new a.1 l

pub steps_leave : {L : Type 0} (link : Ghosts L) (at : ℕ) (old new : State L) (result : Result EngineStep Error) → Steps link at old result new → IsLeaving old.phase → IsLeaving new.phase
steps_leave link at old new result s l = then_leaves s.flush link at s.mid new result (flushes_leave (has_failed old.phase) link old s.mid s.flush l s.flushes) s.acts

-- where nothing is done, too
pub still_leaves : {L : Type 0} (s s' : State L) → s'.phase ≡ s.phase → IsLeaving s.phase → IsLeaving s'.phase
still_leaves s s' e l = subst IsLeaving (sym e) l

-- ---- a close is called

-- it is not open, and its Open went through
closed_phase : (q : Phase) → is_open q ≡ false → (q ≡ p.OpenSent → ⊥) → IsLeaving q
closed_phase p.OpenSent e n = n refl
closed_phase p.Opened e n = absurd (cc e)
closed_phase p.CloseReceived e n = tt
closed_phase p.Refused e n = tt
closed_phase (p.Rejected why) e n = tt
closed_phase p.CloseSent e n = tt
closed_phase p.Discarding e n = tt
closed_phase p.Ended e n = tt
closed_phase p.Failed e n = tt

-- a Close is queued, or one is queued or owed already, or the connection has stopped
pub called_leaves : {L : Type 0} (s s' : State L) (y : Option AmqpError) (queued : List Frame) (result : Result Unit Error) → ((a : _) → result ≡ Err (error.Memory a) → ⊥) → (s.phase ≡ p.OpenSent → ⊥) → IsClosedBy s y queued result s' → IsLeaving s'.phase
called_leaves {L} s s' y queued (Ok u) m n c = subst (λ (z : State L). IsLeaving z.phase) (sym c.1) (close_leaves y)
called_leaves s s' y queued (Err (error.Memory a)) m n c = absurd (m a refl)
called_leaves s s' y queued (Err error.IllegalState) m n c = same_leaves s s' c.2 (closed_phase s.phase c.1 n)
called_leaves s s' y queued (Err (error.TransportError fault.FramingError)) m n c = same_leaves (failing s) s' c.2 tt
called_leaves s s' y queued (Err (error.TransportError (fault.Memory x))) m n c = absurd c
called_leaves s s' y queued (Err (error.TransportError (fault.Io x))) m n c = absurd c
called_leaves s s' y queued (Err (error.TransportError fault.IdleTimeoutElapsed)) m n c = absurd c
called_leaves s s' y queued (Err (error.TransportError fault.DecodeError)) m n c = absurd c
called_leaves s s' y queued (Err (error.TransportError fault.NotImplemented)) m n c = absurd c
called_leaves s s' y queued (Err error.NotImplemented) m n c = absurd c
called_leaves s s' y queued (Err error.NotFound) m n c = absurd c
called_leaves s s' y queued (Err error.RemoteClosed) m n c = absurd c
called_leaves s s' y queued (Err (error.RemoteClosedWithError x)) m n c = absurd c

-- ---- a connection whose transport has failed does nothing

failed_acts : {L : Type 0} (q : Phase) (link : Ghosts L) (at : ℕ) (old new : State L) (e : Error) → has_failed q ≡ true → Acts q link at old (Err e) new → ⊥
failed_acts p.OpenSent link at old new e f a = absurd (cc f)
failed_acts p.Opened link at old new e f a = absurd (cc f)
failed_acts p.CloseReceived link at old new e f a = absurd (cc f)
failed_acts p.Refused link at old new e f a = absurd (cc f)
failed_acts (p.Rejected why) link at old new e f a = absurd (cc f)
failed_acts p.CloseSent link at old new e f a = absurd (cc f)
failed_acts p.Discarding link at old new e f a = absurd (cc f)
failed_acts p.Ended link at old new e f a = absurd (cc f)
failed_acts p.Failed link at old new e f a = absurd (cc a.0)

failed_then : {L : Type 0} (flush : Result Flush Error) (link : Ghosts L) (at : ℕ) (mid new : State L) (f : Flush) (e : Error) → flush ≡ Ok f → has_failed mid.phase ≡ true → ThenActs link at flush mid (Err e) new → ⊥
failed_then (Ok g) link at mid new f e k z a = failed_acts mid.phase link at mid new e z a
failed_then (Err g) link at mid new f e k z a = absurd (cc k)

fails_from : {L : Type 0} (failed : Bool) (flush : Result Flush Error) (link : Ghosts L) (at : ℕ) (old mid new : State L) (e : Error) → has_failed old.phase ≡ failed → FlushesIf failed link old flush mid → ThenActs link at flush mid (Err e) new → has_failed old.phase ≡ false
fails_from false flush link at old mid new e z f a = z
fails_from {L} true flush link at old mid new e z f a = absurd (failed_then flush link at mid new flushed.Empty e f.0 (ap (λ (s : State L). has_failed s.phase) f.1 ∙ z) a)

-- a step that fails begins where it has not failed
pub fails_sound : {L : Type 0} (link : Ghosts L) (at : ℕ) (old new : State L) (e : Error) → Steps link at old (Err e) new → has_failed old.phase ≡ false
fails_sound link at old new e s = fails_from (has_failed old.phase) s.flush link at old s.mid new e refl s.flushes s.acts

-- What moves of a link make it write.
use Rattle.std.specs.Prelude.{◌≡◌, ◌+◌, ◌≤◌, Bool, true, false, List, [], ◌∷◌, ◌++◌, ◌||◌, length, Option, Some, None, Ok, Err, if◌then◌else◌, refl}
use Rattle.std.proofs.Common.{sym, ◌∙◌, append-nil, subst, arith}
use Rattle.amqp_composites.specs.declared.error.Error.{Error as AmqpError}
use Rattle.amqp_performatives.specs.declared.attach.Attach.{Attach}
use Rattle.amqp_performatives.specs.declared.detach.Detach.{Detach}
use Rattle.amqp_frames.specs.declared.body.FrameBody.{FrameBody}
use Rattle.amqp_frames.specs.declared.body.FrameBody.TheVariants as b
use Rattle.amqp_frames.specs.declared.shared.SessionStopReason.{SessionStopReason}
use Rattle.amqp_link.specs.declared.endpoint.AttachPoll.TheVariants.{Pending, Done}
use Rattle.amqp_link.specs.declared.endpoint.LinkPhase.{LinkPhase}
use Rattle.amqp_link.specs.declared.endpoint.LinkPhase.TheVariants as phase
use Rattle.amqp_link.specs.declared.error.AttachError.{AttachError}
use Rattle.amqp_link.specs.declared.error.AttachError.TheVariants as error
use Rattle.amqp_link.specs.declared.error.AttachFault.{AttachFault}
use Rattle.amqp_link.specs.declared.error.AttachFault.TheVariants as fault
use Rattle.amqp_link.specs.Rules.{fault_of}
use Rattle.amqp_link.specs.Link.{Link, agree, has_unsettled, tells, is_awaited, is_done, attach_read, answered, reclosed_unless, unexpected, detach_read, phase_behind, polled, poll_waiting, poll_failing, stopped}
use Rattle.amqp_link.specs.Parting.{parting, abandoned, unplaced, wants_handle}
use Rattle.few_frames.specs.Kinds.{Each}
use Rattle.few_frames.specs.Links.{may_write}

-- a Detach that closes the link, or does not
abbrev pub IsDetach : Bool → FrameBody → Type 0
IsDetach c (b.Detach x) = x.closed ≡ c
IsDetach c other = ⊥

-- at most one frame is written, M holds of it, and it is among those that the link still may write
pub record Goes (M : FrameBody → Type 0) (l n : Link) : Type 0 where
  pub new : List FrameBody
  pub written : n.output ≡ l.output ++ new
  pub made : Each M new
  pub few : length new ≤ 1
  pub left : length new + may_write n.phase ≤ may_write l.phase
  pub keeps : l.is_made ≡ true → n.is_made ≡ true

pub none : (M : FrameBody → Type 0) {l n : Link} → n.output ≡ l.output → may_write n.phase ≤ may_write l.phase → (l.is_made ≡ true → n.is_made ≡ true) → Goes M l n
none M {l} {n} o e k = record { new = []; written = o ∙ sym (append-nil l.output); made = tt; few = omega arith; left = omega arith; keeps = k }

pub same : (M : FrameBody → Type 0) (l n : Link) → n ≡ l → Goes M l n
same M l n h = subst (λ (x : Link). Goes M l x) (sym h) (none M refl (omega arith) (λ k. k))

one : (M : FrameBody → Type 0) {l n : Link} (x : FrameBody) → n.output ≡ l.output ++ x ∷ [] → M x → 1 + may_write n.phase ≤ may_write l.phase → (l.is_made ≡ true → n.is_made ≡ true) → Goes M l n
one M {l} {n} x o m e k = record { new = x ∷ []; written = o; made = (m, tt); few = omega arith; left = omega arith; keeps = k }

-- ---- what is read

pub unexpected_goes : (p : LinkPhase) (l : Link) → Goes (IsDetach true) (record l { phase = p }) (unexpected (record l { phase = p }))
unexpected_goes phase.AttachSent l = one (IsDetach true) _ refl refl (omega arith) (λ k. k)
unexpected_goes phase.DetachExpected l = one (IsDetach true) _ refl refl (omega arith) (λ k. k)
unexpected_goes p l = same (IsDetach true) _ _ refl

answered_goes : (f : Option AttachFault) (x : Attach) (l : Link) → Goes (IsDetach true) (record l { phase = phase.AttachSent }) (answered f x (record l { phase = phase.AttachSent }))
answered_goes None x l = none (IsDetach true) refl (omega arith) (λ k. refl)
answered_goes (Some fault.IncomingTargetIsNone) x l = none (IsDetach true) refl (omega arith) (λ k. k)
answered_goes (Some fault.IncomingSourceIsNone) x l = none (IsDetach true) refl (omega arith) (λ k. k)
answered_goes (Some other) x l = one (IsDetach true) _ refl refl (omega arith) (λ k. k)

reclosed_goes : (f : Option AttachFault) (unsettled : Bool) (l : Link) → Goes (IsDetach true) (record l { phase = phase.ReattachSent }) (reclosed_unless f unsettled (record l { phase = phase.ReattachSent }))
reclosed_goes (Some x) u l = one (IsDetach true) _ refl refl (omega arith) (λ k. k)
reclosed_goes None true l = one (IsDetach true) _ refl refl (omega arith) (λ k. k)
reclosed_goes None false l = one (IsDetach true) _ refl refl (omega arith) (λ k. k)

pub attach_goes : (p : LinkPhase) (x : Attach) (l : Link) → Goes (IsDetach true) (record l { phase = p }) (attach_read x (record l { phase = p }))
attach_goes phase.AttachSent x l = answered_goes (fault_of l.own.role false l.verify l.own.snd_settle_mode x) x l
attach_goes phase.ReattachSent x l = reclosed_goes (fault_of l.own.role false l.verify l.own.snd_settle_mode x) (has_unsettled l.own || has_unsettled x) l
attach_goes phase.DetachExpected x l = one (IsDetach true) _ refl refl (omega arith) (λ k. k)
attach_goes p x l = same (IsDetach true) _ _ refl

behind_few : (a c : Bool) → may_write (phase_behind a c) ≤ 2
behind_few true c = omega arith
behind_few false true = omega arith
behind_few false false = omega arith

pub detach_goes : (p : LinkPhase) (d : Detach) (l : Link) → Goes (IsDetach d.closed) (record l { phase = p }) (detach_read d (record l { phase = p }))
detach_goes phase.AttachSent d l = one (IsDetach d.closed) _ refl refl (omega arith) (λ k. k)
detach_goes phase.DetachExpected d l = one (IsDetach d.closed) _ refl refl (omega arith) (λ k. k)
detach_goes phase.Refused d l = none (IsDetach d.closed) refl (omega arith) (λ k. k)
detach_goes phase.Attached d l = one (IsDetach d.closed) _ refl refl (omega arith) (λ k. k)
detach_goes phase.DetachSent d l = none (IsDetach d.closed) refl (behind_few (agree l.is_closed d.closed) l.is_parting) (λ k. k)
detach_goes phase.CloseSent d l = none (IsDetach d.closed) refl (behind_few (agree l.is_closed d.closed) l.is_parting) (λ k. k)
detach_goes phase.RecloseSent d l = none (IsDetach d.closed) refl (omega arith) (λ k. k)
detach_goes p d l = same (IsDetach d.closed) _ _ refl

-- ---- what is asked

waits_same : (a : Bool) (l : Link) → (if a then tells (Ok Pending) l else tells (Err error.IllegalState) l).link ≡ l
waits_same true l = refl
waits_same false l = refl

waiting_same : (o : Option SessionStopReason) (l : Link) → (poll_waiting o l).link ≡ l
waiting_same (Some why) l = refl
waiting_same None l = waits_same (is_awaited l.phase) l

failing_goes : (c : Bool) (e : AttachError) (l : Link) → Goes (λ x. ⊥) l (if c then tells (Err e) (record l { failure = None }) else poll_waiting l.stop_reason l).link
failing_goes true e l = none (λ x. ⊥) refl (omega arith) (λ k. k)
failing_goes false e l = same (λ x. ⊥) l _ (waiting_same l.stop_reason l)

poll_goes : (o : Option AttachError) (l : Link) → Goes (λ x. ⊥) l (poll_failing o l).link
poll_goes None l = same (λ x. ⊥) l _ (waiting_same l.stop_reason l)
poll_goes (Some e) l = failing_goes (l.accepts || is_done l.phase) e l

polled_by : (c : Bool) (l : Link) → Goes (λ x. ⊥) l (if c then tells (Ok Done) l else poll_failing l.failure l).link
polled_by true l = none (λ x. ⊥) refl (omega arith) (λ k. k)
polled_by false l = poll_goes l.failure l

pub polled_goes : (l : Link) → Goes (λ x. ⊥) l (polled l).link
polled_goes l = polled_by l.is_made l

pub parting_goes : (gone : Bool) (p : LinkPhase) (o : Option SessionStopReason) (closes : Bool) (x : Option AmqpError) (l : Link)
    → Goes (IsDetach closes) (record l { is_gone = gone; phase = p; stop_reason = o }) (parting closes x (record l { is_gone = gone; phase = p; stop_reason = o })).link
parting_goes true p o closes x l = same (IsDetach closes) _ _ refl
parting_goes false phase.AttachSent o closes x l = same (IsDetach closes) _ _ refl
parting_goes false phase.DetachExpected o closes x l = same (IsDetach closes) _ _ refl
parting_goes false phase.Refused o closes x l = same (IsDetach closes) _ _ refl
parting_goes false phase.Attached (Some why) closes x l = same (IsDetach closes) _ _ refl
parting_goes false phase.Attached None true x l = one (IsDetach true) _ refl refl (omega arith) (λ k. k)
parting_goes false phase.Attached None false x l = one (IsDetach false) _ refl refl (omega arith) (λ k. k)
parting_goes false phase.HalfClosed (Some why) closes x l = same (IsDetach closes) _ _ refl
parting_goes false phase.HalfClosed None closes x l = none (IsDetach closes) refl (omega arith) (λ k. k)
parting_goes false phase.Detached o closes x l = same (IsDetach closes) _ _ refl
parting_goes false p (Some why) closes x l = same (IsDetach closes) _ _ refl
parting_goes false p None closes x l = none (IsDetach closes) refl (omega arith) (λ k. k)

pub abandoned_goes : (p : LinkPhase) (o : Option SessionStopReason) (l : Link) → Goes (IsDetach true) (record l { phase = p; stop_reason = o }) (abandoned (record l { phase = p; stop_reason = o }))
abandoned_goes phase.Attached None l = one (IsDetach true) _ refl refl (omega arith) (λ k. k)
abandoned_goes p o l = none (IsDetach true) refl (omega arith) (λ k. k)

-- the Attach and the Detach of the further attachment are still to come where it is due
pub wanted_few : (p : LinkPhase) → wants_handle p ≡ true → may_write p ≡ 2
wanted_few phase.HandleWanted h = refl
wanted_few other h = absurd cc

pub stopped_goes : (why : SessionStopReason) (l : Link) → Goes (λ x. ⊥) l (stopped why l)
stopped_goes why l = none (λ x. ⊥) refl (omega arith) (λ k. k)

pub unplaced_goes : (l : Link) → Goes (λ x. ⊥) l (unplaced l)
unplaced_goes l = none (λ x. ⊥) refl (omega arith) (λ k. k)

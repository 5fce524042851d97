-- What a link keeps, whatever it goes through: its handle as long as it is heard, and by itself it writes no Transfer.
use Rattle.std.specs.Prelude.{◌≡◌, ℕ, Bool, true, false, List, ◌||◌, Option, Some, None, Ok, Err, if◌then◌else◌, refl}
use Rattle.std.proofs.Common.{sym, ◌∙◌, subst}
use Rattle.amqp_composites.specs.declared.error.Error.{Error as AmqpError}
use Rattle.amqp_composites.specs.declared.modes.Role.{Role}
use Rattle.amqp_composites.specs.declared.modes.Role.TheVariants as role
use Rattle.amqp_performatives.specs.declared.attach.Attach.{Attach}
use Rattle.amqp_performatives.specs.declared.detach.Detach.{Detach}
use Rattle.amqp_frames.specs.declared.shared.SessionStopReason.{SessionStopReason}
use Rattle.amqp_termini.specs.declared.unsettled.UnsettledDelivery.{UnsettledDelivery}
use Rattle.amqp_link.specs.declared.endpoint.AttachPoll.TheVariants.{Pending, Done}
use Rattle.amqp_link.specs.declared.endpoint.LinkPhase.{LinkPhase}
use Rattle.amqp_link.specs.declared.endpoint.LinkPhase.TheVariants as phase
use Rattle.amqp_link.specs.declared.error.AttachError.{AttachError}
use Rattle.amqp_link.specs.declared.error.AttachError.TheVariants as error
use Rattle.amqp_link.specs.declared.error.AttachFault.{AttachFault}
use Rattle.amqp_link.specs.declared.error.AttachFault.TheVariants as fault
use Rattle.amqp_link.specs.Rules.{fault_of}
use Rattle.amqp_link.specs.Link.{Link, agree, agreed_as, has_unsettled, tells, is_awaited, is_done, is_heard, attach_read, answered, reclosed_unless, unexpected, detach_read, phase_behind, polled, poll_waiting, poll_failing, stopped}
use Rattle.amqp_link.specs.Parting.{parting, abandoned, unplaced, reattached}
use Rattle.session_laws.specs.Messages.{transfers}
use Rattle.session_laws.proofs.Links.{Moves, unexpected_moves, attach_moves, detach_moves, polled_moves, parting_moves, abandoned_moves, unplaced_moves, reattached_moves, stopped_moves}

-- a link that is heard was heard before, and has its handle still
abbrev pub Heard : Link → Link → Type 0
Heard l n = is_heard n.phase ≡ true → (is_heard l.phase ≡ true) × (n.own.handle ≡ l.own.handle)

-- and no Transfer was written
pub record Keeps (l n : Link) : Type 0 where
  pub heard : Heard l n
  pub said : transfers n.output ≡ transfers l.output

pub heard_then : (l m n : Link) → Heard l m → Heard m n → Heard l n
heard_then l m n p q = λ h. let a = q h in let b = p a.0 in (b.0, a.1 ∙ b.1)

pub keeps_then : (l m n : Link) → Keeps l m → Keeps m n → Keeps l n
keeps_then l m n p q = record { heard = heard_then l m n p.heard q.heard; said = q.said ∙ p.said }

pub keeps_same : (l n : Link) → n ≡ l → Keeps l n
keeps_same l n e = subst (λ x. Keeps l x) (sym e) (record { heard = λ h. (h, refl); said = refl })

pub unexpected_heard : (p : LinkPhase) (l : Link) → Heard (record l { phase = p }) (unexpected (record l { phase = p }))
unexpected_heard phase.AttachSent l = λ h. (refl, refl)
unexpected_heard phase.DetachExpected l = λ h. (refl, refl)
unexpected_heard p l = λ h. (h, refl)

agreed_handle : (r : Role) (own x : Attach) → (agreed_as r own x).handle ≡ own.handle
agreed_handle role.Sender own x = refl
agreed_handle role.Receiver own x = refl

answered_heard : (f : Option AttachFault) (x : Attach) (l : Link) → Heard (record l { phase = phase.AttachSent }) (answered f x (record l { phase = phase.AttachSent }))
answered_heard None x l = λ h. (refl, agreed_handle l.own.role l.own x)
answered_heard (Some fault.IncomingTargetIsNone) x l = λ h. (refl, refl)
answered_heard (Some fault.IncomingSourceIsNone) x l = λ h. (refl, refl)
answered_heard (Some other) x l = λ h. (refl, refl)

reclosed_heard : (f : Option AttachFault) (unsettled : Bool) (l : Link) → Heard (record l { phase = phase.ReattachSent }) (reclosed_unless f unsettled (record l { phase = phase.ReattachSent }))
reclosed_heard (Some x) u l = λ h. absurd cc
reclosed_heard None true l = λ h. absurd cc
reclosed_heard None false l = λ h. absurd cc

pub attach_heard : (p : LinkPhase) (x : Attach) (l : Link) → Heard (record l { phase = p }) (attach_read x (record l { phase = p }))
attach_heard phase.AttachSent x l = answered_heard (fault_of l.own.role false l.verify l.own.snd_settle_mode x) x l
attach_heard phase.ReattachSent x l = reclosed_heard (fault_of l.own.role false l.verify l.own.snd_settle_mode x) (has_unsettled l.own || has_unsettled x) l
attach_heard phase.DetachExpected x l = λ h. (refl, refl)
attach_heard p x l = λ h. (h, refl)

behind_unheard : (a c : Bool) → is_heard (phase_behind a c) ≡ false
behind_unheard true c = refl
behind_unheard false true = refl
behind_unheard false false = refl

-- a link that is not heard
met_heard : (l : Link) (a c : Bool) (d : Detach) → Heard l (record l { phase = phase_behind a c; remote = Some d })
met_heard l a c d = λ h. let f : false ≡ true = sym (behind_unheard a c) ∙ h in absurd cc

pub detach_heard : (p : LinkPhase) (d : Detach) (l : Link) → Heard (record l { phase = p }) (detach_read d (record l { phase = p }))
detach_heard phase.AttachSent d l = λ h. absurd cc
detach_heard phase.DetachExpected d l = λ h. absurd cc
detach_heard phase.Refused d l = λ h. absurd cc
detach_heard phase.Attached d l = λ h. absurd cc
detach_heard phase.DetachSent d l = met_heard (record l { phase = phase.DetachSent }) (agree l.is_closed d.closed) l.is_parting d
detach_heard phase.CloseSent d l = met_heard (record l { phase = phase.CloseSent }) (agree l.is_closed d.closed) l.is_parting d
detach_heard phase.RecloseSent d l = λ h. absurd cc
detach_heard p d l = λ h. (h, refl)

waits_heard : (a : Bool) (l : Link) → Heard l (if a then tells (Ok Pending) l else tells (Err error.IllegalState) l).link
waits_heard true l = λ h. (h, refl)
waits_heard false l = λ h. (h, refl)

waiting_heard : (o : Option SessionStopReason) (l : Link) → Heard l (poll_waiting o l).link
waiting_heard (Some why) l = λ h. (h, refl)
waiting_heard None l = waits_heard (is_awaited l.phase) l

fails_heard : (a : Bool) (e : AttachError) (l : Link) → Heard l (if a then tells (Err e) (record l { failure = None }) else poll_waiting l.stop_reason l).link
fails_heard true e l = λ h. (h, refl)
fails_heard false e l = waiting_heard l.stop_reason l

failing_heard : (f : Option AttachError) (l : Link) → Heard l (poll_failing f l).link
failing_heard None l = waiting_heard l.stop_reason l
failing_heard (Some e) l = fails_heard (l.accepts || is_done l.phase) e l

made_heard : (a : Bool) (l : Link) → Heard l (if a then tells (Ok Done) l else poll_failing l.failure l).link
made_heard true l = λ h. (h, refl)
made_heard false l = failing_heard l.failure l

parting_heard : (gone : Bool) (p : LinkPhase) (o : Option SessionStopReason) (closes : Bool) (x : Option AmqpError) (l : Link)
    → Heard (record l { is_gone = gone; phase = p; stop_reason = o }) (parting closes x (record l { is_gone = gone; phase = p; stop_reason = o })).link
parting_heard true p o closes x l = λ h. (h, refl)
parting_heard false phase.AttachSent o closes x l = λ h. (h, refl)
parting_heard false phase.DetachExpected o closes x l = λ h. (h, refl)
parting_heard false phase.Refused o closes x l = λ h. (h, refl)
parting_heard false phase.Attached (Some why) closes x l = λ h. (h, refl)
parting_heard false phase.Attached None closes x l = λ h. (refl, refl)
parting_heard false phase.HalfClosed (Some why) closes x l = λ h. (h, refl)
parting_heard false phase.HalfClosed None closes x l = λ h. absurd cc
parting_heard false phase.Detached o closes x l = λ h. (h, refl)
parting_heard false p (Some why) closes x l = λ h. (h, refl)
parting_heard false p None closes x l = λ h. (h, refl)

abandoned_heard : (p : LinkPhase) (o : Option SessionStopReason) (l : Link) → Heard (record l { phase = p; stop_reason = o }) (abandoned (record l { phase = p; stop_reason = o }))
abandoned_heard phase.Attached None l = λ h. (refl, refl)
abandoned_heard p o l = λ h. (h, refl)

-- ---- each of them

keeps : (l n : Link) → Heard l n → Moves l n → Keeps l n
keeps l n h m = record { heard = h; said = m.written }

pub unexpected_keeps : (l : Link) → Keeps l (unexpected l)
unexpected_keeps l = keeps l (unexpected l) (unexpected_heard l.phase l) (unexpected_moves l.phase l)

pub attach_keeps : (x : Attach) (l : Link) → Keeps l (attach_read x l)
attach_keeps x l = keeps l (attach_read x l) (attach_heard l.phase x l) (attach_moves l.phase x l)

pub detach_keeps : (d : Detach) (l : Link) → Keeps l (detach_read d l)
detach_keeps d l = keeps l (detach_read d l) (detach_heard l.phase d l) (detach_moves l.phase d l)

pub polled_keeps : (l : Link) → Keeps l (polled l).link
polled_keeps l = keeps l (polled l).link (made_heard l.is_made l) (polled_moves l)

pub parting_keeps : (closes : Bool) (x : Option AmqpError) (l : Link) → Keeps l (parting closes x l).link
parting_keeps closes x l = keeps l (parting closes x l).link (parting_heard l.is_gone l.phase l.stop_reason closes x l) (parting_moves l.is_gone l.phase l.stop_reason closes x l)

pub abandoned_keeps : (l : Link) → Keeps l (abandoned l)
abandoned_keeps l = keeps l (abandoned l) (abandoned_heard l.phase l.stop_reason l) (abandoned_moves l.phase l.stop_reason l)

pub unplaced_keeps : (l : Link) → Keeps l (unplaced l)
unplaced_keeps l = keeps l (unplaced l) (λ h. absurd cc) (unplaced_moves l)

pub reattached_keeps : (handle : ℕ) (m : Option (List UnsettledDelivery)) (count : Option ℕ) (l : Link) → Keeps l (reattached handle m count l)
reattached_keeps handle m count l = keeps l (reattached handle m count l) (λ h. absurd cc) (reattached_moves handle m count l)

pub stopped_keeps : (why : SessionStopReason) (l : Link) → Keeps l (stopped why l)
stopped_keeps why l = keeps l (stopped why l) (λ h. (h, refl)) (stopped_moves why l)

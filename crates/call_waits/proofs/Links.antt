-- What a link keeps as it goes on, but for the Detach of its peer.
use Rattle.std.specs.Prelude.{◌≡◌, ℕ, Bool, true, false, ◌||◌, List, Option, Some, None, Ok, Err, if◌then◌else◌, refl}
use Rattle.std.proofs.Common.{sym, ◌∙◌, ap, subst}
use Rattle.amqp_composites.specs.declared.error.Error.{Error as AmqpError}
use Rattle.amqp_performatives.specs.declared.attach.Attach.{Attach}
use Rattle.amqp_frames.specs.declared.shared.SessionStopReason.{SessionStopReason}
use Rattle.amqp_link.specs.declared.endpoint.AttachPoll.TheVariants.{Pending, Done}
use Rattle.amqp_link.specs.declared.endpoint.LinkPhase.{LinkPhase}
use Rattle.amqp_link.specs.declared.endpoint.LinkPhase.TheVariants as phase
use Rattle.amqp_link.specs.declared.error.AttachError.{AttachError}
use Rattle.amqp_link.specs.declared.error.AttachError.TheVariants as error
use Rattle.amqp_link.specs.declared.error.AttachFault.{AttachFault}
use Rattle.amqp_link.specs.declared.error.AttachFault.TheVariants as fault
use Rattle.amqp_link.specs.Rules.{fault_of}
use Rattle.amqp_link.specs.Link.{Link, closes, has_unsettled, tells, is_awaited, is_closed_by_one, is_done, attach_read, answered, reclosed_unless, unexpected, polled, poll_waiting, poll_failing}
use Rattle.amqp_link.specs.Parting.{parting, abandoned, reattached, sent_phase}
use Rattle.amqp_termini.specs.declared.unsettled.UnsettledDelivery.{UnsettledDelivery}

-- an answer of the peer to its Attach is awaited still
abbrev pub Awaits : Link → Link → Type 0
Awaits l m = is_awaited l.phase ≡ true → is_awaited m.phase ≡ true

-- it is not done, and what is known of Detaches and of the session is as it was
pub record Stays (l m : Link) : Type 0 where
  pub done : is_done m.phase ≡ true → (is_done l.phase ≡ true) × (m.is_closed ≡ l.is_closed) × (m.is_stuck ≡ l.is_stuck)
  pub remote : m.remote ≡ l.remote
  pub gone : m.is_gone ≡ l.is_gone
  pub stop : m.stop_reason ≡ l.stop_reason

pub record Keeps (l m : Link) : Type 0 where
  pub stays : Stays l m
  pub awaits : Awaits l m

pub stays_then : (l m n : Link) → Stays l m → Stays m n → Stays l n
stays_then l m n p q =
    record {
      done = λ h. let a = q.done h in let b = p.done a.0 in (b.0, a.1 ∙ b.1, a.2 ∙ b.2);
      remote = q.remote ∙ p.remote;
      gone = q.gone ∙ p.gone;
      stop = q.stop ∙ p.stop;
    }

pub keeps_then : (l m n : Link) → Keeps l m → Keeps m n → Keeps l n
keeps_then l m n p q = record { stays = stays_then l m n p.stays q.stays; awaits = λ h. q.awaits (p.awaits h) }

pub keeps_on : (l : Link) → Keeps l l
keeps_on l = record { stays = record { done = λ h. (h, refl, refl); remote = refl; gone = refl; stop = refl }; awaits = λ h. h }

pub keeps_same : (l m : Link) → m ≡ l → Keeps l m
keeps_same l m e = subst (λ x. Keeps l x) (sym e) (keeps_on l)

-- a link that is not done stays so
pub undone : (l m : Link) → Stays l m → is_done l.phase ≡ false → is_done m.phase ≡ false
undone l m k p = by (is_done m.phase) refl
  where
    by : (b : Bool) → is_done m.phase ≡ b → is_done m.phase ≡ false
    by true e = let f : false ≡ true = sym p ∙ (k.done e).0 in absurd cc
    by false e = e

pub same_closed : (l m : Link) → m.is_closed ≡ l.is_closed → m.remote ≡ l.remote → is_closed_by_one m ≡ is_closed_by_one l
same_closed l m e f = ap (λ b. b || closes m.remote) e ∙ ap (λ r. l.is_closed || closes r) f

-- ---- another frame than the one that has to come

unexpected_by : (p : LinkPhase) (l : Link) → Keeps (record l { phase = p }) (unexpected (record l { phase = p }))
unexpected_by phase.AttachSent l = record { stays = record { done = λ h. absurd cc; remote = refl; gone = refl; stop = refl }; awaits = λ h. refl }
unexpected_by phase.DetachExpected l = record { stays = record { done = λ h. absurd cc; remote = refl; gone = refl; stop = refl }; awaits = λ h. refl }
unexpected_by p l = record { stays = record { done = λ h. (h, refl, refl); remote = refl; gone = refl; stop = refl }; awaits = λ h. h }

pub unexpected_keeps : (l : Link) → Keeps l (unexpected l)
unexpected_keeps l = unexpected_by l.phase l

-- ---- the peer's Attach

answered_stays : (f : Option AttachFault) (x : Attach) (l : Link) → Stays (record l { phase = phase.AttachSent }) (answered f x (record l { phase = phase.AttachSent }))
answered_stays None x l = record { done = λ h. absurd cc; remote = refl; gone = refl; stop = refl }
answered_stays (Some fault.IncomingTargetIsNone) x l = record { done = λ h. absurd cc; remote = refl; gone = refl; stop = refl }
answered_stays (Some fault.IncomingSourceIsNone) x l = record { done = λ h. absurd cc; remote = refl; gone = refl; stop = refl }
answered_stays (Some other) x l = record { done = λ h. absurd cc; remote = refl; gone = refl; stop = refl }

reclosed_stays : (f : Option AttachFault) (unsettled : Bool) (l : Link) → Stays (record l { phase = phase.ReattachSent }) (reclosed_unless f unsettled (record l { phase = phase.ReattachSent }))
reclosed_stays (Some x) u l = record { done = λ h. absurd cc; remote = refl; gone = refl; stop = refl }
reclosed_stays None true l = record { done = λ h. absurd cc; remote = refl; gone = refl; stop = refl }
reclosed_stays None false l = record { done = λ h. absurd cc; remote = refl; gone = refl; stop = refl }

attach_by : (p : LinkPhase) (x : Attach) (l : Link) → Stays (record l { phase = p }) (attach_read x (record l { phase = p }))
attach_by phase.AttachSent x l = answered_stays (fault_of l.own.role false l.verify l.own.snd_settle_mode x) x l
attach_by phase.ReattachSent x l = reclosed_stays (fault_of l.own.role false l.verify l.own.snd_settle_mode x) (has_unsettled l.own || has_unsettled x) l
attach_by phase.DetachExpected x l = record { done = λ h. absurd cc; remote = refl; gone = refl; stop = refl }
attach_by p x l = record { done = λ h. (h, refl, refl); remote = refl; gone = refl; stop = refl }

pub attach_stays : (x : Attach) (l : Link) → Stays l (attach_read x l)
attach_stays x l = attach_by l.phase x l

-- ---- a poll

module _ (Q : Link → Type 0) (l : Link) (same : Q l) (told : Q (record l { failure = None })) where
  waits_as : (a : Bool) → Q (if a then tells (Ok Pending) l else tells (Err error.IllegalState) l).link
  waits_as true = same
  waits_as false = same

  waiting_as : (o : Option SessionStopReason) → Q (poll_waiting o l).link
  waiting_as (Some why) = same
  waiting_as None = waits_as (is_awaited l.phase)

  fails_as : (a : Bool) (e : AttachError) → Q (if a then tells (Err e) (record l { failure = None }) else poll_waiting l.stop_reason l).link
  fails_as true e = told
  fails_as false e = waiting_as l.stop_reason

  failing_as : (f : Option AttachError) → Q (poll_failing f l).link
  failing_as None = waiting_as l.stop_reason
  failing_as (Some e) = fails_as (l.accepts || is_done l.phase) e

  made_as : (a : Bool) → Q (if a then tells (Ok Done) l else poll_failing l.failure l).link
  made_as true = same
  made_as false = failing_as l.failure

  pub polled_as : Q (polled l).link
  polled_as = made_as l.is_made

pub polled_keeps : (l : Link) → Keeps l (polled l).link
polled_keeps l =
    polled_as (λ m. Keeps l m) l (keeps_on l)
    (record { stays = record { done = λ h. (h, refl, refl); remote = refl; gone = refl; stop = refl }; awaits = λ h. h })

-- ---- calls that leave it

pub sent_undone : (closes : Bool) → is_done (sent_phase closes) ≡ false
sent_undone true = refl
sent_undone false = refl

sent_done : (closes : Bool) (P : Type 0) → is_done (sent_phase closes) ≡ true → P
sent_done true P h = absurd cc
sent_done false P h = absurd cc

parting_by : (gone : Bool) (p : LinkPhase) (o : Option SessionStopReason) (closes : Bool) (x : Option AmqpError) (l : Link)
    → Keeps (record l { is_gone = gone; phase = p; stop_reason = o }) (parting closes x (record l { is_gone = gone; phase = p; stop_reason = o })).link
parting_by true p o closes x l = keeps_on (record l { is_gone = true; phase = p; stop_reason = o })
parting_by false phase.AttachSent o closes x l = keeps_on (record l { is_gone = false; phase = phase.AttachSent; stop_reason = o })
parting_by false phase.DetachExpected o closes x l = keeps_on (record l { is_gone = false; phase = phase.DetachExpected; stop_reason = o })
parting_by false phase.Refused o closes x l = keeps_on (record l { is_gone = false; phase = phase.Refused; stop_reason = o })
parting_by false phase.Attached (Some why) closes x l = keeps_on (record l { is_gone = false; phase = phase.Attached; stop_reason = Some why })
parting_by false phase.Attached None closes x l = record { stays = record { done = λ h. sent_done closes _ h; remote = refl; gone = refl; stop = refl }; awaits = λ h. absurd cc }
parting_by false phase.HalfClosed (Some why) closes x l = keeps_on (record l { is_gone = false; phase = phase.HalfClosed; stop_reason = Some why })
parting_by false phase.HalfClosed None closes x l = record { stays = record { done = λ h. absurd cc; remote = refl; gone = refl; stop = refl }; awaits = λ h. absurd cc }
parting_by false phase.Detached o closes x l = keeps_on (record l { is_gone = false; phase = phase.Detached; stop_reason = o })
parting_by false p (Some why) closes x l = record { stays = record { done = λ h. (h, refl, refl); remote = refl; gone = refl; stop = refl }; awaits = λ h. h }
parting_by false p None closes x l = record { stays = record { done = λ h. (h, refl, refl); remote = refl; gone = refl; stop = refl }; awaits = λ h. h }

pub parting_keeps : (closes : Bool) (x : Option AmqpError) (l : Link) → Keeps l (parting closes x l).link
parting_keeps closes x l = parting_by l.is_gone l.phase l.stop_reason closes x l

pub reattached_stays : (handle : ℕ) (m : Option (List UnsettledDelivery)) (count : Option ℕ) (l : Link) → Stays l (reattached handle m count l)
reattached_stays handle m count l = record { done = λ h. absurd cc; remote = refl; gone = refl; stop = refl }

-- of a link that is let go: its session is as it was
pub record LetGo (l m : Link) : Type 0 where
  pub awaits : Awaits l m
  pub stop : m.stop_reason ≡ l.stop_reason

abandoned_by : (p : LinkPhase) (o : Option SessionStopReason) (l : Link) → LetGo (record l { phase = p; stop_reason = o }) (abandoned (record l { phase = p; stop_reason = o }))
abandoned_by phase.Attached None l = record { awaits = λ h. absurd cc; stop = refl }
abandoned_by p o l = record { awaits = λ h. h; stop = refl }

pub abandoned_lets : (l : Link) → LetGo l (abandoned l)
abandoned_lets l = abandoned_by l.phase l.stop_reason l

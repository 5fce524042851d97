-- What moves of a link leave as it was.
use Rattle.std.specs.Prelude.{◌≡◌, ℕ, Bool, true, false, List, [], ◌∷◌, ◌++◌, ◌||◌, Option, Some, None, Ok, Err, if◌then◌else◌, refl}
use Rattle.std.proofs.Common.{sym, ◌∙◌, ap, append-nil, append_assoc, subst}
use Rattle.std.proofs.lemmas.Grind.{flat_map-append}
use Rattle.amqp_composites.specs.declared.error.Error.{Error as AmqpError}
use Rattle.amqp_performatives.specs.declared.attach.Attach.{Attach}
use Rattle.amqp_performatives.specs.declared.detach.Detach.{Detach}
use Rattle.amqp_frames.specs.declared.body.FrameBody.{FrameBody}
use Rattle.amqp_frames.specs.declared.shared.SessionStopReason.{SessionStopReason}
use Rattle.amqp_link.specs.declared.endpoint.AttachPoll.TheVariants.{Pending, Done}
use Rattle.amqp_link.specs.declared.endpoint.LinkPhase.{LinkPhase}
use Rattle.amqp_link.specs.declared.endpoint.LinkPhase.TheVariants as phase
use Rattle.amqp_link.specs.declared.error.AttachError.{AttachError}
use Rattle.amqp_link.specs.declared.error.AttachError.TheVariants as error
use Rattle.amqp_link.specs.declared.error.AttachFault.{AttachFault}
use Rattle.amqp_link.specs.declared.error.AttachFault.TheVariants as fault
use Rattle.amqp_link.specs.Rules.{fault_of}
use Rattle.amqp_link.specs.Link.{Link, agree, has_unsettled, tells, is_awaited, is_attached, is_done, attach_read, answered, reclosed_unless, unexpected, detach_read, phase_behind, polled, poll_waiting, poll_failing, stopped}
use Rattle.amqp_link.specs.Parting.{parting, abandoned, unplaced, reattached}
use Rattle.amqp_termini.specs.declared.unsettled.UnsettledDelivery.{UnsettledDelivery}
use Rattle.amqp_frames.specs.declared.body.FrameBody.TheVariants as b
use Rattle.amqp_parts.specs.declared.part.Part.{Part}
use Rattle.session_laws.specs.Messages.{transfer_in, transfers}

-- a frame that attaches or detaches a link
abbrev pub is_quiet : FrameBody → Bool
is_quiet (b.Attach x) = true
is_quiet (b.Detach x) = true
is_quiet other = false

abbrev pub AreQuiet : List FrameBody → Type 0
AreQuiet [] = Unit {0}
AreQuiet (x ∷ xs) = (is_quiet x ≡ true) × AreQuiet xs

-- such frames are written and no others
pub record Adds (xs ys : List FrameBody) : Type 0 where
  pub more : List FrameBody
  pub all : ys ≡ xs ++ more
  pub quiet : AreQuiet more

pub adds_none : (xs : List FrameBody) → Adds xs xs
adds_none xs = record { more = []; all = sym (append-nil xs); quiet = tt }

pub adds_one : (xs : List FrameBody) (x : FrameBody) → is_quiet x ≡ true → Adds xs (xs ++ x ∷ [])
adds_one xs x h = record { more = x ∷ []; all = refl; quiet = (h, tt) }

pub adds_same : (xs ys : List FrameBody) → ys ≡ xs → Adds xs ys
adds_same xs ys h = record { more = []; all = h ∙ sym (append-nil xs); quiet = tt }

quiet_both : (xs ys : List FrameBody) → AreQuiet xs → AreQuiet ys → AreQuiet (xs ++ ys)
quiet_both [] ys h k = k
quiet_both (x ∷ xs) ys h k = (h.0, quiet_both xs ys h.1 k)

pub adds_then : (xs ys zs : List FrameBody) → Adds xs ys → Adds ys zs → Adds xs zs
adds_then xs ys zs a c = record {
  more = a.more ++ c.more;
  all = c.all ∙ (ap (λ (us : List FrameBody). us ++ c.more) a.all ∙ append_assoc xs a.more c.more);
  quiet = quiet_both a.more c.more a.quiet c.quiet;
}

quiet_one : (x : FrameBody) → is_quiet x ≡ true → transfer_in x ≡ []
quiet_one (b.Transfer x payload) h = absurd cc
quiet_one other h = refl

quiet_transfers : (xs : List FrameBody) → AreQuiet xs → transfers xs ≡ []
quiet_transfers [] h = refl
quiet_transfers (x ∷ xs) h = ap (λ (ys : List Part). ys ++ transfers xs) (quiet_one x h.0) ∙ quiet_transfers xs h.1

quiet_written : (xs ys : List FrameBody) → Adds xs ys → transfers ys ≡ transfers xs
quiet_written xs ys a =
    ap transfers a.all ∙ (flat_map-append transfer_in xs a.more ∙ (ap (λ (zs : List Part). transfers xs ++ zs) (quiet_transfers a.more a.quiet) ∙ append-nil (transfers xs)))

-- no Transfer is written; a link that both ends have attached is attached no more once it is not, and keeps its limit
pub record Moves (l n : Link) : Type 0 where
  pub adds : Adds l.output n.output
  pub written : transfers n.output ≡ transfers l.output
  pub met : is_awaited l.phase ≡ false → is_awaited n.phase ≡ false
  pub attached : is_awaited l.phase ≡ false → is_attached n.phase ≡ true → is_attached l.phase ≡ true
  pub size : is_awaited l.phase ≡ false → n.max_message_size ≡ l.max_message_size

-- a frame without a delivery
pub said : (xs : List FrameBody) (x : FrameBody) → transfer_in x ≡ [] → transfers (xs ++ x ∷ []) ≡ transfers xs
said xs x h = flat_map-append transfer_in xs (x ∷ []) ∙ ap (λ ys. transfers xs ++ (ys ++ [])) h ∙ append-nil (transfers xs)

pub stays : (l n : Link) → n ≡ l → Moves l n
stays l n h = subst (λ x. Moves l x) (sym h) (record { adds = adds_none l.output; written = refl; met = λ a. a; attached = λ a e. e; size = λ a. refl })

-- a link that is not attached yet
early : {l n : Link} → is_awaited l.phase ≡ true → Adds l.output n.output → Moves l n
early {l} {n} e w = record { adds = w; written = quiet_written l.output n.output w; met = λ a. absurd cc; attached = λ a x. absurd cc; size = λ a. absurd cc }

-- a link that both ends have attached
late : {l n : Link} → Adds l.output n.output → is_awaited n.phase ≡ false → (is_attached n.phase ≡ true → is_attached l.phase ≡ true) → n.max_message_size ≡ l.max_message_size → Moves l n
late {l} {n} w m a s = record { adds = w; written = quiet_written l.output n.output w; met = λ x. m; attached = λ x e. a e; size = λ x. s }

pub unexpected_moves : (p : LinkPhase) (l : Link) → Moves (record l { phase = p }) (unexpected (record l { phase = p }))
unexpected_moves phase.AttachSent l = early refl (adds_one l.output _ refl)
unexpected_moves phase.DetachExpected l = early refl (adds_one l.output _ refl)
unexpected_moves p l = stays _ _ refl

answered_moves : (f : Option AttachFault) (x : Attach) (l : Link) → Moves (record l { phase = phase.AttachSent }) (answered f x (record l { phase = phase.AttachSent }))
answered_moves None x l = early refl (adds_none l.output)
answered_moves (Some fault.IncomingTargetIsNone) x l = early refl (adds_none l.output)
answered_moves (Some fault.IncomingSourceIsNone) x l = early refl (adds_none l.output)
answered_moves (Some other) x l = early refl (adds_one l.output _ refl)

reclosed_moves : (f : Option AttachFault) (unsettled : Bool) (l : Link) → Moves (record l { phase = phase.ReattachSent }) (reclosed_unless f unsettled (record l { phase = phase.ReattachSent }))
reclosed_moves (Some x) u l = late (adds_one l.output _ refl) refl (λ e. absurd cc) refl
reclosed_moves None true l = late (adds_one l.output _ refl) refl (λ e. absurd cc) refl
reclosed_moves None false l = late (adds_one l.output _ refl) refl (λ e. absurd cc) refl

pub attach_moves : (p : LinkPhase) (x : Attach) (l : Link) → Moves (record l { phase = p }) (attach_read x (record l { phase = p }))
attach_moves phase.AttachSent x l = answered_moves (fault_of l.own.role false l.verify l.own.snd_settle_mode x) x l
attach_moves phase.ReattachSent x l = reclosed_moves (fault_of l.own.role false l.verify l.own.snd_settle_mode x) (has_unsettled l.own || has_unsettled x) l
attach_moves phase.DetachExpected x l = early refl (adds_one l.output _ refl)
attach_moves p x l = stays _ _ refl

behind_met : (a c : Bool) → is_awaited (phase_behind a c) ≡ false
behind_met true c = refl
behind_met false true = refl
behind_met false false = refl

behind_left : (a c : Bool) → is_attached (phase_behind a c) ≡ false
behind_left true c = refl
behind_left false true = refl
behind_left false false = refl

met_moves : {l n : Link} → (a c : Bool) → n.output ≡ l.output → n.phase ≡ phase_behind a c → n.max_message_size ≡ l.max_message_size → Moves l n
met_moves {l} {n} a c o p s =
    let m = behind_met a c in
    let d = behind_left a c in
    late (adds_same l.output n.output o) (ap is_awaited p ∙ m) (λ e. (let f : is_attached n.phase ≡ false = ap is_attached p ∙ d in absurd cc)) s

pub detach_moves : (p : LinkPhase) (d : Detach) (l : Link) → Moves (record l { phase = p }) (detach_read d (record l { phase = p }))
detach_moves phase.AttachSent d l = early refl (adds_one l.output _ refl)
detach_moves phase.DetachExpected d l = early refl (adds_one l.output _ refl)
detach_moves phase.Refused d l = early refl (adds_none l.output)
detach_moves phase.Attached d l = late (adds_one l.output _ refl) refl (λ e. refl) refl
detach_moves phase.DetachSent d l = met_moves (agree l.is_closed d.closed) l.is_parting refl refl refl
detach_moves phase.CloseSent d l = met_moves (agree l.is_closed d.closed) l.is_parting refl refl refl
detach_moves phase.RecloseSent d l = late (adds_none l.output) refl (λ e. absurd cc) refl
detach_moves p d l = stays _ _ refl

waits_same : (a : Bool) (l : Link) → (if a then tells (Ok Pending) l else tells (Err error.IllegalState) l).link ≡ l
waits_same true l = refl
waits_same false l = refl

waiting_same : (o : Option SessionStopReason) (l : Link) → (poll_waiting o l).link ≡ l
waiting_same (Some why) l = refl
waiting_same None l = waits_same (is_awaited l.phase) l

fails_moves : (a : Bool) (e : AttachError) (l : Link) → Moves l (if a then tells (Err e) (record l { failure = None }) else poll_waiting l.stop_reason l).link
fails_moves true e l = record { adds = adds_none l.output; written = refl; met = λ a. a; attached = λ a x. x; size = λ a. refl }
fails_moves false e l = stays _ _ (waiting_same l.stop_reason l)

failing_moves : (f : Option AttachError) (l : Link) → Moves l (poll_failing f l).link
failing_moves None l = stays _ _ (waiting_same l.stop_reason l)
failing_moves (Some e) l = fails_moves (l.accepts || is_done l.phase) e l

made_moves : (a : Bool) (l : Link) → Moves l (if a then tells (Ok Done) l else poll_failing l.failure l).link
made_moves true l = stays _ _ refl
made_moves false l = failing_moves l.failure l

pub polled_moves : (l : Link) → Moves l (polled l).link
polled_moves l = made_moves l.is_made l

pub parting_moves : (gone : Bool) (p : LinkPhase) (o : Option SessionStopReason) (closes : Bool) (x : Option AmqpError) (l : Link)
    → Moves (record l { is_gone = gone; phase = p; stop_reason = o }) (parting closes x (record l { is_gone = gone; phase = p; stop_reason = o })).link
parting_moves true p o closes x l = stays _ _ refl
parting_moves false phase.AttachSent o closes x l = stays _ _ refl
parting_moves false phase.DetachExpected o closes x l = stays _ _ refl
parting_moves false phase.Refused o closes x l = stays _ _ refl
parting_moves false phase.Attached (Some why) closes x l = stays _ _ refl
parting_moves false phase.Attached None true x l = late (adds_one l.output _ refl) refl (λ e. refl) refl
parting_moves false phase.Attached None false x l = late (adds_one l.output _ refl) refl (λ e. refl) refl
parting_moves false phase.HalfClosed (Some why) closes x l = stays _ _ refl
parting_moves false phase.HalfClosed None closes x l = late (adds_none l.output) refl (λ e. absurd cc) refl
parting_moves false phase.Detached o closes x l = stays _ _ refl
parting_moves false p (Some why) closes x l = stays _ _ refl
parting_moves false p None closes x l = record { adds = adds_none l.output; written = refl; met = λ a. a; attached = λ a e. e; size = λ a. refl }

pub abandoned_moves : (p : LinkPhase) (o : Option SessionStopReason) (l : Link) → Moves (record l { phase = p; stop_reason = o }) (abandoned (record l { phase = p; stop_reason = o }))
abandoned_moves phase.Attached None l = late (adds_one l.output _ refl) refl (λ e. refl) refl
abandoned_moves p o l = record { adds = adds_none l.output; written = refl; met = λ a. a; attached = λ a e. e; size = λ a. refl }

pub unplaced_moves : (l : Link) → Moves l (unplaced l)
unplaced_moves l = late (adds_none l.output) refl (λ e. absurd cc) refl

pub reattached_moves : (handle : ℕ) (m : Option (List UnsettledDelivery)) (count : Option ℕ) (l : Link) → Moves l (reattached handle m count l)
reattached_moves handle m count l = late (adds_one l.output _ refl) refl (λ e. absurd cc) refl

pub stopped_moves : (why : SessionStopReason) (l : Link) → Moves l (stopped why l)
stopped_moves why l = record { adds = adds_none l.output; written = refl; met = λ a. a; attached = λ a e. e; size = λ a. refl }

-- the same of a link that may write a Transfer, or whose frames are taken off
pub record Fixed (l n : Link) : Type 0 where
  pub met : is_awaited l.phase ≡ false → is_awaited n.phase ≡ false
  pub attached : is_awaited l.phase ≡ false → is_attached n.phase ≡ true → is_attached l.phase ≡ true
  pub size : is_awaited l.phase ≡ false → n.max_message_size ≡ l.max_message_size

pub fixed : (l n : Link) → Moves l n → Fixed l n
fixed l n k = record { met = k.met; attached = k.attached; size = k.size }

-- a link whose phase and limit are the same
pub fixed_same : (l n : Link) → n.phase ≡ l.phase → n.max_message_size ≡ l.max_message_size → Fixed l n
fixed_same l n p s = record { met = λ a. ap is_awaited p ∙ a; attached = λ a e. sym (ap is_attached p) ∙ e; size = λ a. s }

pub fixed_then : (l m n : Link) → Fixed l m → Fixed m n → Fixed l n
fixed_then l m n a c = record {
  met = λ x. c.met (a.met x);
  attached = λ x e. a.attached x (c.attached (a.met x) e);
  size = λ x. c.size (a.met x) ∙ a.size x;
}

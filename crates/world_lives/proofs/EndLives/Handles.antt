-- A sender that is attached sends on its handle: it gets another only as it is attached again, and then it sends no more.
use Rattle.std.specs.Prelude.{◌≡◌, ℕ, nat_eq, nat_lt, Bool, true, false, is_some, ◌&&◌, ◌||◌, List, [], ◌∷◌, ◌++◌, length, map, Option, Some, None, Ok, Err, if◌then◌else◌, refl}
use Rattle.std.proofs.Common.{sym, ◌∙◌, ap, eq-eqb}
use Rattle.std.proofs.lemmas.List.{map-append}
use Rattle.std.proofs.lemmas.List.Elements.{filter-append}
use Rattle.amqp_composites.specs.declared.error.Error.{Error as AmqpError}
use Rattle.amqp_composites.specs.declared.modes.Role.{Role}
use Rattle.amqp_composites.specs.declared.modes.Role.TheVariants as role
use Rattle.amqp_termini.specs.declared.state.DeliveryState.{DeliveryState}
use Rattle.amqp_performatives.specs.declared.attach.Attach.{Attach}
use Rattle.amqp_performatives.specs.declared.detach.Detach.{Detach}
use Rattle.amqp_performatives.specs.declared.flow.Flow.{Flow}
use Rattle.amqp_frames.specs.declared.shared.CoveredDelivery.{CoveredDelivery}
use Rattle.amqp_frames.specs.declared.shared.SessionStopReason.{SessionStopReason}
use Rattle.amqp_parts.specs.declared.part.Part.{Part}
use Rattle.amqp_link.specs.declared.endpoint.AttachPoll.TheVariants.{Pending as AttachPending, Done}
use Rattle.amqp_link.specs.declared.endpoint.DetachPoll.TheVariants.{Failed}
use Rattle.amqp_link.specs.declared.endpoint.LinkPhase.{LinkPhase}
use Rattle.amqp_link.specs.declared.endpoint.LinkPhase.TheVariants as phase
use Rattle.amqp_link.specs.declared.error.AttachError.{AttachError}
use Rattle.amqp_link.specs.declared.error.AttachError.TheVariants as attach
use Rattle.amqp_link.specs.declared.error.AttachFault.{AttachFault}
use Rattle.amqp_link.specs.declared.error.AttachFault.TheVariants as fault
use Rattle.amqp_link.specs.declared.error.DetachError.TheVariants.{IllegalState}
use Rattle.amqp_link.specs.declared.error.LinkStateError.{LinkStateError}
use Rattle.amqp_link.specs.declared.error.LinkStateError.TheVariants as state
use Rattle.amqp_link.specs.Link.{Link, is_attached, is_awaited, is_detaching, is_done, agreed_as, answered, reclosed_unless, has_unsettled, unexpected_in, unexpected, attach_in, detach_in, poll_waiting, poll_failing, tells, or_else, refusal, ended_by}
use Rattle.amqp_link.specs.Parting as parting
use Rattle.amqp_link.specs.Parting.{parting_unless, parting_in, abandoned_in}
use Rattle.amqp_link.specs.Rules.{fault_of}
use Rattle.amqp_sender.specs.declared.error.SendError.TheVariants as error
use Rattle.amqp_sender.specs.Sender.{State}
use Rattle.amqp_sender.specs.Sending.{Made, sending, sending_unless, sending_with, is_settled, is_too_large, flow_in, drained, credit_by}
use Rattle.amqp_sender.specs.Sending as out
use Rattle.amqp_sender.specs.declared.sender.Settlement.{Settlement}
use Rattle.amqp_sender.specs.Settling.{settled, settled_at, place_of, settlement_of, echoed, outcome_read, disposition_read, is_second, is_terminal}
use Rattle.session_laws.specs.Messages.{Message, part_of, transfers, on}
use Rattle.session_laws.specs.Sending.{Move, sends, polls, parts, abandons, reattaches, stays, hears_attach, hears_flow, hears_transfer, hears_disposition, hears_detach, stops, hands_over, after, written, message_for, sent_if, sent_by, sent}
use Rattle.session_laws.proofs.Links.{Fixed, fixed, fixed_same, fixed_then, unexpected_moves, attach_moves, detach_moves, polled_moves, parting_moves, abandoned_moves, unplaced_moves, stopped_moves}
use Rattle.session_laws.proofs.Receives.{attached_met}
use Rattle.session_laws.proofs.Sends.{writes_what_is_sent}
use Rattle.world_lives.specs.EndLives.Between.{SendOnTheirHandle}

-- ---- a link keeps its handle

unexpected_handle : (p : LinkPhase) (l : Link) → (unexpected_in p l).own.handle ≡ l.own.handle
unexpected_handle phase.AttachSent l = refl
unexpected_handle phase.DetachExpected l = refl
unexpected_handle other l = refl

agreed_handle : (r : Role) (own x : Attach) → (agreed_as r own x).handle ≡ own.handle
agreed_handle role.Sender own x = refl
agreed_handle role.Receiver own x = refl

answered_handle : (f : Option AttachFault) (x : Attach) (l : Link) → (answered f x l).own.handle ≡ l.own.handle
answered_handle None x l = agreed_handle l.own.role l.own x
answered_handle (Some fault.IncomingTargetIsNone) x l = refl
answered_handle (Some fault.IncomingSourceIsNone) x l = refl
answered_handle (Some other) x l = refl

reclosed_handle : (f : Option AttachFault) (unsettled : Bool) (l : Link) → (reclosed_unless f unsettled l).own.handle ≡ l.own.handle
reclosed_handle (Some x) u l = refl
reclosed_handle None true l = refl
reclosed_handle None false l = refl

attach_handle : (p : LinkPhase) (x : Attach) (l : Link) → (attach_in p x l).own.handle ≡ l.own.handle
attach_handle phase.AttachSent x l = answered_handle (fault_of l.own.role false l.verify l.own.snd_settle_mode x) x l
attach_handle phase.ReattachSent x l = reclosed_handle (fault_of l.own.role false l.verify l.own.snd_settle_mode x) (has_unsettled l.own || has_unsettled x) l
attach_handle other x l = unexpected_handle l.phase l

detach_handle : (p : LinkPhase) (d : Detach) (l : Link) → (detach_in p d l).own.handle ≡ l.own.handle
detach_handle phase.AttachSent d l = refl
detach_handle phase.DetachExpected d l = refl
detach_handle phase.Refused d l = refl
detach_handle phase.Attached d l = refl
detach_handle phase.DetachSent d l = refl
detach_handle phase.CloseSent d l = refl
detach_handle phase.RecloseSent d l = refl
detach_handle other d l = refl

waits_handle : (a : Bool) (l : Link) → (if a then tells (Ok AttachPending) l else tells (Err attach.IllegalState) l).link.own.handle ≡ l.own.handle
waits_handle true l = refl
waits_handle false l = refl

waiting_handle : (o : Option SessionStopReason) (l : Link) → (poll_waiting o l).link.own.handle ≡ l.own.handle
waiting_handle (Some why) l = refl
waiting_handle None l = waits_handle (is_awaited l.phase) l

fails_handle : (a : Bool) (e : AttachError) (l : Link) → (if a then tells (Err e) (record l { failure = None }) else poll_waiting l.stop_reason l).link.own.handle ≡ l.own.handle
fails_handle true e l = refl
fails_handle false e l = waiting_handle l.stop_reason l

failing_handle : (f : Option AttachError) (l : Link) → (poll_failing f l).link.own.handle ≡ l.own.handle
failing_handle None l = waiting_handle l.stop_reason l
failing_handle (Some e) l = fails_handle (l.accepts || is_done l.phase) e l

made_handle : (a : Bool) (l : Link) → (if a then tells (Ok Done) l else poll_failing l.failure l).link.own.handle ≡ l.own.handle
made_handle true l = refl
made_handle false l = failing_handle l.failure l

unless_handle : (o : Option SessionStopReason) (t l : Link) → t.own.handle ≡ l.own.handle → (parting_unless o t l).link.own.handle ≡ l.own.handle
unless_handle (Some why) t l h = refl
unless_handle None t l h = h

parting_handle : (p : LinkPhase) (closes : Bool) (x : Option AmqpError) (l : Link) → (parting_in p closes x l).link.own.handle ≡ l.own.handle
parting_handle phase.AttachSent closes x l = refl
parting_handle phase.DetachExpected closes x l = refl
parting_handle phase.Refused closes x l = refl
parting_handle phase.Detached closes x l = refl
parting_handle phase.Attached closes x l = unless_handle l.stop_reason (parting.detaching closes x l) l refl
parting_handle phase.HalfClosed closes x l = unless_handle l.stop_reason (record l { phase = phase.HandleWanted; is_parting = true }) l refl
parting_handle other closes x l = unless_handle l.stop_reason (record l { is_parting = true }) l refl

chosen_handle : (gone : Bool) (t n : parting.Parted) (l : Link) → t.link.own.handle ≡ l.own.handle → n.link.own.handle ≡ l.own.handle → (if gone then t else n).link.own.handle ≡ l.own.handle
chosen_handle true t n l p q = p
chosen_handle false t n l p q = q

parts_handle : (closes : Bool) (x : Option AmqpError) (l : Link) → (parting.parting closes x l).link.own.handle ≡ l.own.handle
parts_handle closes x l = chosen_handle l.is_gone (parting.tells (Failed IllegalState) l) (parting_in l.phase closes x l) l refl (parting_handle l.phase closes x l)

abandoned_handle : (p : LinkPhase) (o : Option SessionStopReason) (l : Link) → (abandoned_in p o l).own.handle ≡ l.own.handle
abandoned_handle phase.Attached None l = refl
abandoned_handle p o l = refl

-- ---- so does a sender, but as it is attached again

-- it is as far as it was, and on its handle
record Held (s t : State) : Type 0 where
  fixed : Fixed s.link t.link
  handle : t.link.own.handle ≡ s.link.own.handle

held : (s t : State) → Fixed s.link t.link → t.link.own.handle ≡ s.link.own.handle → Held s t
held s t f h = record { fixed = f; handle = h }

held_same : (s t : State) → t.link.phase ≡ s.link.phase → t.link.max_message_size ≡ s.link.max_message_size → t.link.own.handle ≡ s.link.own.handle → Held s t
held_same s t p m h = held s t (fixed_same s.link t.link p m) h

sending_held_with : (c : Bool) (payload : List ℕ) (format : ℕ) (settles batchable : Bool) (s : State) → Held s (sending_with c payload format settles batchable s).state
sending_held_with true payload format settles batchable s = held_same s _ refl refl refl
sending_held_with false payload format settles batchable s = held_same s s refl refl refl

sending_held_at : (d : Bool) (payload : List ℕ) (format : ℕ) (settles batchable : Bool) (s : State)
    → Held s (if d then out.tells (Err (error.Detached IllegalState)) s else sending_with (nat_lt 0 s.credit) payload format settles batchable s).state
sending_held_at true payload format settles batchable s = held_same s s refl refl refl
sending_held_at false payload format settles batchable s = sending_held_with (nat_lt 0 s.credit) payload format settles batchable s

sending_held_unless : (o : Option LinkStateError) (payload : List ℕ) (format : ℕ) (settles batchable : Bool) (s : State) → Held s (sending_unless o payload format settles batchable s).state
sending_held_unless (Some e) payload format settles batchable s = held_same s s refl refl refl
sending_held_unless None payload format settles batchable s = sending_held_at (is_detaching s.link.phase) payload format settles batchable s

sending_held_if : (c : Bool) (payload : List ℕ) (format : ℕ) (settles batchable : Bool) (s : State)
    → Held s (if c then out.tells (Err (error.MessageSizeExceeded (length payload) s.link.max_message_size)) s else sending_unless (refusal s.link) payload format settles batchable s).state
sending_held_if true payload format settles batchable s = held_same s s refl refl refl
sending_held_if false payload format settles batchable s = sending_held_unless (refusal s.link) payload format settles batchable s

sending_held : (payload : List ℕ) (format : ℕ) (wanted : Option Bool) (batchable : Bool) (s : State) → Held s (sending payload format wanted batchable s).state
sending_held payload format wanted batchable s =
    sending_held_if (is_too_large (length payload) s.link.max_message_size) payload format (is_settled s.link.own.snd_settle_mode wanted) batchable s

credited_held : (c : Bool) (x : Flow) (s : State) → Held s (if c then drained (record s { credit = credit_by x s }) else record s { credit = credit_by x s })
credited_held true x s = held_same s _ refl refl refl
credited_held false x s = held_same s _ refl refl refl

unexpected_held : (s : State) → Held s (record s { link = unexpected s.link })
unexpected_held s = held s _ (fixed _ _ (unexpected_moves s.link.phase s.link)) (unexpected_handle s.link.phase s.link)

flow_held : (p : LinkPhase) (x : Flow) (s : State) → Held s (flow_in p x s)
flow_held phase.Attached x s = credited_held x.drain x s
flow_held p x s = unexpected_held s

settled_held : (o : Option ℕ) (tag : List ℕ) (x : Settlement) (s : State) → Held s (settled_at o tag x s)
settled_held None tag x s = held_same s s refl refl refl
settled_held (Some place) tag x s = held_same s _ refl refl refl

echoed_held : (c : Bool) (number : ℕ) (x : Option DeliveryState) (s t : State) → Held s t → Held s (echoed c number x t)
echoed_held true number x s t h = h
echoed_held false number x s t h = held s _ (fixed_then s.link t.link _ h.fixed (fixed_same t.link _ refl refl)) h.handle

outcome_held : (c : Bool) (covered : CoveredDelivery) (x : Option DeliveryState) (s : State) → Held s (outcome_read c covered x s)
outcome_held false covered x s = held_same s s refl refl refl
outcome_held true covered x s =
    echoed_held (is_some s.link.stop_reason) covered.delivery_id x s (settled covered.delivery_tag (settlement_of x) s) (settled_held (place_of covered.delivery_tag s) covered.delivery_tag (settlement_of x) s)

disposition_held : (covered : CoveredDelivery) (settles : Bool) (x : Option DeliveryState) (s : State) → Held s (disposition_read covered settles x s)
disposition_held covered true x s = settled_held (place_of covered.delivery_tag s) covered.delivery_tag (settlement_of x) s
disposition_held covered false x s = outcome_held (is_second s.link.own.rcv_settle_mode && is_terminal x && is_some (place_of covered.delivery_tag s)) covered x s

-- ---- what it sends

-- a link that takes a message is attached
taken_attached : (closed : Bool) (o : Option LinkStateError) (a d : Bool) → (if closed then Some state.IllegalState else or_else o (if a || d then None else Some state.IllegalState)) ≡ None
    → d ≡ false → a ≡ true
taken_attached true o a d h e = absurd cc
taken_attached false (Some x) a d h e = absurd cc
taken_attached false None true d h e = refl
taken_attached false None false true h e = absurd cc
taken_attached false None false false h e = absurd cc

-- these messages are on that handle
abbrev AreOn : ℕ → List Message → Type 0
AreOn handle xs = on handle (map part_of xs) ≡ map part_of xs

one_on : (handle : ℕ) (m : Message) → m.handle ≡ handle → AreOn handle (m ∷ [])
one_on handle m e = ap (λ b. if b then part_of m ∷ [] else []) (eq-eqb m.handle handle e)

both_on : (handle : ℕ) (xs ys : List Message) → AreOn handle xs → AreOn handle ys → AreOn handle (xs ++ ys)
both_on handle xs ys p q =
    ap (on handle) (map-append part_of xs ys)
    ∙ (filter-append (λ (x : Part). nat_eq x.transfer.handle handle) (map part_of xs) (map part_of ys)
    ∙ (ap (λ (zs : List Part). zs ++ on handle (map part_of ys)) p ∙ (ap (λ (zs : List Part). map part_of xs ++ zs) q ∙ sym (map-append part_of xs ys))))

module _ (handle : ℕ) (s : State) (m : Message) (on_it : m.handle ≡ handle) where
  with_on : (c : Bool) (payload : List ℕ) (format : ℕ) (settles batchable : Bool) → AreOn handle (sent_if (sending_with c payload format settles batchable s).answer m)
  with_on true payload format settles batchable = one_on handle m on_it
  with_on false payload format settles batchable = refl

on_at : (handle : ℕ) (s : State) (m : Message) (d : Bool) (payload : List ℕ) (format : ℕ) (settles batchable : Bool) → (d ≡ false → m.handle ≡ handle)
    → AreOn handle (sent_if (if d then out.tells (Err (error.Detached IllegalState)) s else sending_with (nat_lt 0 s.credit) payload format settles batchable s).answer m)
on_at handle s m true payload format settles batchable f = refl
on_at handle s m false payload format settles batchable f = with_on handle s m (f refl) (nat_lt 0 s.credit) payload format settles batchable

on_unless : (handle : ℕ) (s : State) (m : Message) (o : Option LinkStateError) (payload : List ℕ) (format : ℕ) (settles batchable : Bool) → (o ≡ None → is_detaching s.link.phase ≡ false → m.handle ≡ handle)
    → AreOn handle (sent_if (sending_unless o payload format settles batchable s).answer m)
on_unless handle s m (Some e) payload format settles batchable f = refl
on_unless handle s m None payload format settles batchable f = on_at handle s m (is_detaching s.link.phase) payload format settles batchable (f refl)

on_if : (handle : ℕ) (s : State) (m : Message) (c : Bool) (payload : List ℕ) (format : ℕ) (settles batchable : Bool) → (refusal s.link ≡ None → is_detaching s.link.phase ≡ false → m.handle ≡ handle)
    → AreOn handle (sent_if (if c then out.tells (Err (error.MessageSizeExceeded (length payload) s.link.max_message_size)) s else sending_unless (refusal s.link) payload format settles batchable s).answer m)
on_if handle s m true payload format settles batchable f = refl
on_if handle s m false payload format settles batchable f = on_unless handle s m (refusal s.link) payload format settles batchable f

-- where it is attached it has that handle
abbrev Has : ℕ → State → Type 0
Has handle s = is_attached s.link.phase ≡ true → s.link.own.handle ≡ handle

sent_on : (handle : ℕ) (s : State) (m : Move) → Has handle s → AreOn handle (sent_by s m)
sent_on handle s (sends payload format settles batchable) h =
    let l = s.link in
    on_if handle s (message_for s payload format settles batchable) (is_too_large (length payload) l.max_message_size) payload format (is_settled l.own.snd_settle_mode settles) batchable
    (λ r d. h (taken_attached l.is_closed (ended_by l.remote l.stop_reason) (is_attached l.phase) (is_detaching l.phase) r d))
sent_on handle s other h = refl

has_held : (handle : ℕ) (s t : State) → is_awaited s.link.phase ≡ false → Held s t → Has handle s → Has handle t
has_held handle s t w k h = λ a. k.handle ∙ h (k.fixed.attached w a)

record Goes (handle : ℕ) (t : State) : Type 0 where
  met : is_awaited t.link.phase ≡ false
  has : Has handle t

goes_held : (handle : ℕ) (s t : State) → is_awaited s.link.phase ≡ false → Has handle s → Held s t → Goes handle t
goes_held handle s t w h k = record { met = k.fixed.met w; has = has_held handle s t w k h }

-- its handle is another then, and it is not attached any more
reattached_goes : (handle other : ℕ) (s : State) → Goes handle (after s (reattaches other))
reattached_goes handle other s = record { met = refl; has = λ a. absurd cc }

move_goes : (handle : ℕ) (s : State) (m : Move) → is_awaited s.link.phase ≡ false → Has handle s → Goes handle (after s m)
move_goes handle s (sends payload format settles batchable) w h = goes_held handle s _ w h (sending_held payload format settles batchable s)
move_goes handle s polls w h = goes_held handle s _ w h (held s _ (fixed _ _ (polled_moves s.link)) (made_handle s.link.is_made s.link))
move_goes handle s (parts closes x) w h =
    goes_held handle s _ w h (held s _ (fixed _ _ (parting_moves s.link.is_gone s.link.phase s.link.stop_reason closes x s.link)) (parts_handle closes x s.link))
move_goes handle s abandons w h = goes_held handle s _ w h (held s _ (fixed _ _ (abandoned_moves s.link.phase s.link.stop_reason s.link)) (abandoned_handle s.link.phase s.link.stop_reason s.link))
move_goes handle s (reattaches other) w h = reattached_goes handle other s
move_goes handle s stays w h = goes_held handle s _ w h (held s _ (fixed _ _ (unplaced_moves s.link)) refl)
move_goes handle s (hears_attach x) w h = goes_held handle s _ w h (held s _ (fixed _ _ (attach_moves s.link.phase x s.link)) (attach_handle s.link.phase x s.link))
move_goes handle s (hears_flow x) w h = goes_held handle s _ w h (flow_held s.link.phase x s)
move_goes handle s hears_transfer w h = goes_held handle s _ w h (unexpected_held s)
move_goes handle s (hears_disposition covered settles x) w h = goes_held handle s _ w h (disposition_held covered settles x s)
move_goes handle s (hears_detach d) w h = goes_held handle s _ w h (held s _ (fixed _ _ (detach_moves s.link.phase d s.link)) (detach_handle s.link.phase d s.link))
move_goes handle s (stops why) w h = goes_held handle s _ w h (held s _ (fixed _ _ (stopped_moves why s.link)) refl)
move_goes handle s hands_over w h = goes_held handle s _ w h (held_same s _ refl refl refl)

all_on : (handle : ℕ) (s : State) (ms : List Move) → is_awaited s.link.phase ≡ false → Has handle s → AreOn handle (sent s ms)
all_on handle s [] w h = refl
all_on handle s (m ∷ ms) w h =
    let g = move_goes handle s m w h in both_on handle (sent_by s m) (sent (after s m) ms) (sent_on handle s m h) (all_on handle (after s m) ms g.met g.has)

pub send_on_their_handle : SendOnTheirHandle
send_on_their_handle handle s ms attached is unsent =
    let e : transfers (written s ms) ≡ map part_of (sent s ms) = writes_what_is_sent s ms ∙ ap (λ (xs : List Part). xs ++ map part_of (sent s ms)) unsent in
    ap (on handle) e ∙ (all_on handle s ms (attached_met s.link.phase attached) (λ a. is) ∙ sym e)

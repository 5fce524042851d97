-- What leaves those that wait at a receiver, and the delivery that was begun, as they are.
use Rattle.std.specs.Prelude.{◌≡◌, ℕ, Bool, true, false, not, ◌&&◌, List, [], ◌∷◌, Option, Some, None, Result, Ok, Err, unwrap_or, if◌then◌else◌, refl}
use Rattle.std.proofs.Common.{◌∙◌}
use Rattle.amqp_termini.specs.declared.state.DeliveryState.{DeliveryState}
use Rattle.amqp_performatives.specs.declared.attach.Attach.{Attach}
use Rattle.amqp_performatives.specs.declared.flow.Flow.{Flow}
use Rattle.amqp_frames.specs.declared.shared.CoveredDelivery.{CoveredDelivery}
use Rattle.amqp_parts.specs.declared.part.Part.{Part}
use Rattle.amqp_delivery.specs.Book.{disposed_all, view_of, restarted, attached}
use Rattle.amqp_delivery.specs.States.{accepted}
use Rattle.amqp_delivery.specs.declared.calls.BookReply.{BookReply}
use Rattle.amqp_delivery.specs.declared.info.CreditMode.{CreditMode}
use Rattle.amqp_delivery.specs.declared.info.CreditMode.TheVariants.{Manual, Auto}
use Rattle.amqp_delivery.specs.declared.info.DeliveryInfo.{DeliveryInfo}
use Rattle.amqp_delivery.specs.declared.info.DisposerView.{DisposerView}
use Rattle.amqp_delivery.specs.declared.orders.Order.{Order}
use Rattle.amqp_link.specs.declared.endpoint.LinkPhase.{LinkPhase}
use Rattle.amqp_link.specs.declared.endpoint.LinkPhase.TheVariants as phase
use Rattle.amqp_link.specs.declared.error.IllegalLinkStateError.{IllegalLinkStateError}
use Rattle.amqp_link.specs.Link as link
use Rattle.amqp_link.specs.Link.{Link}
use Rattle.amqp_receiver.specs.declared.error.RecvError.{RecvError}
use Rattle.amqp_receiver.specs.AutoAccept.{accepted_at_once, is_open, unwritten, auto_accepted}
use Rattle.amqp_receiver.specs.Disposing.{writing, written, undrained, is_refill, disposing_in_book, disposing_unless}
use Rattle.amqp_receiver.specs.Parting.{map_of, unsettled_of}
use Rattle.amqp_receiver.specs.Receiver.{State, giving_first, opened_if, giving_unless, attach_read, drain_read, flow_in, telling_credit}
use Rattle.amqp_receiver.specs.Receiving.{Got, forgotten, disposition_read}
use Rattle.amqp_receiver.specs.Regulating.{drained_unless, told_unless}
use Rattle.session_laws.specs.Receiving.{Move, receives, disposes, disposes_by, sets_credit, sets_credit_mode, sets_auto_accept, drains, tells_properties, polls, parts, abandons, reattaches, stays, hears_attach, hears_flow, hears_transfer, hears_disposition, hears_detach, stops, hands_over, given_behind, after}
use Rattle.session_laws.proofs.Links.{Fixed, fixed, fixed_same, fixed_then, unexpected_moves, attach_moves, detach_moves, polled_moves, parting_moves, abandoned_moves, unplaced_moves, reattached_moves, stopped_moves}

pub record Stays (s t : State) : Type 0 where
  pub incoming : t.incoming ≡ s.incoming
  pub buffer : t.buffer ≡ s.buffer
  pub link : Fixed s.link t.link

-- a link that may write
abbrev IsSame : Link → Link → Type 0
IsSame l n = (n.phase ≡ l.phase) × (n.max_message_size ≡ l.max_message_size)

stays_at : (s t : State) → t.incoming ≡ s.incoming → t.buffer ≡ s.buffer → IsSame s.link t.link → Stays s t
stays_at s t i b l = record { incoming = i; buffer = b; link = fixed_same s.link t.link l.0 l.1 }

stays_so : (s t : State) → t.incoming ≡ s.incoming → t.buffer ≡ s.buffer → t.link.phase ≡ s.link.phase → t.link.max_message_size ≡ s.link.max_message_size → Stays s t
stays_so s t i b p m = stays_at s t i b (p, m)

pub stays_still : (s : State) → Stays s s
stays_still s = stays_so s s refl refl refl refl

stays_then : (s t u : State) → Stays s t → Stays t u → Stays s u
stays_then s t u a c = record { incoming = c.incoming ∙ a.incoming; buffer = c.buffer ∙ a.buffer; link = fixed_then s.link t.link u.link a.link c.link }

pub moves : (s : State) (l : Link) → Fixed s.link l → Stays s (record s { link = l })
moves s l h = record { incoming = refl; buffer = refl; link = h }

writing_same : (os : List Order) (l : Link) → IsSame l (writing os l)
writing_same [] l = (refl, refl)
writing_same (o ∷ os) l = writing_same os _

written_stays : (s : State) → Stays s (written s)
written_stays s = stays_at s (written s) refl refl (writing_same s.book.orders s.link)

undrained_stays : (r : BookReply) (s t : State) → Stays s t → Stays s (undrained r t)
undrained_stays r s t h = drained_by (is_refill r)
  where
    drained_by : (c : Bool) → Stays s (if c then record t { is_draining = false } else t)
    drained_by true = stays_then s t _ h (stays_so t _ refl refl refl refl)
    drained_by false = h

in_book_stays : (view : DisposerView) (infos : List DeliveryInfo) (state : DeliveryState) (s : State) → Stays s (disposing_in_book view infos state s)
in_book_stays view infos state s = (let o = disposed_all s.book view infos state in undrained_stays o.reply s (record s { book = o.book }) (stays_so s _ refl refl refl refl))

disposing_stays : (o : Option IllegalLinkStateError) (view : DisposerView) (infos : List DeliveryInfo) (state : DeliveryState) (s : State) → Stays s (disposing_unless o view infos state s).state
disposing_stays (Some e) view infos state s = stays_still s
disposing_stays None view infos state s = stays_then s (disposing_in_book view infos state s) _ (in_book_stays view infos state s) (written_stays (disposing_in_book view infos state s))

open_stays : (c : Bool) (s : State) → Stays s (if c then written s else unwritten s)
open_stays true s = written_stays s
open_stays false s = stays_so s _ refl refl refl refl

pub accept_stays : (c : Bool) (info : DeliveryInfo) (s : State) → Stays s (if c then accepted_at_once info s else s)
accept_stays true info s =
    let t = disposing_in_book (view_of s.book s.link.own.handle) (info ∷ []) accepted s in stays_then s t _ (in_book_stays (view_of s.book s.link.own.handle) (info ∷ []) accepted s) (open_stays (is_open t) t)
accept_stays false info s = stays_still s

pub behind_stays : (spells : Bool) (a : Option (Result Got RecvError)) (s : State) → Stays s (given_behind spells a s)
behind_stays true (Some (Ok x)) s = accept_stays s.auto_accept x.info s
behind_stays true (Some (Err e)) s = stays_still s
behind_stays true None s = stays_still s
behind_stays false a s = stays_still s

credit_stays : (o : Option IllegalLinkStateError) (credit : ℕ) (s : State) → Stays s (giving_unless o credit s).state
credit_stays (Some e) credit s = stays_still s
credit_stays None credit s = stays_so s _ refl refl refl refl

asks_stays : (c : Bool) (s t : State) → Stays s t → Stays s (if c then t else telling_credit true (record t { is_draining = true }))
asks_stays true s t h = h
asks_stays false s t h = stays_then s t _ h (stays_so t _ refl refl refl refl)

drain_stays : (o : Option IllegalLinkStateError) (s : State) → Stays s (drained_unless o s).state
drain_stays (Some e) s = stays_still s
drain_stays None s = asks_stays s.is_draining s (record s { book = restarted s.book }) (stays_so s _ refl refl refl refl)

told_stays : (o : Option IllegalLinkStateError) (s : State) → Stays s (told_unless o s).state
told_stays (Some e) s = stays_still s
told_stays None s = stays_so s _ refl refl refl refl

first_stays : (mode : CreditMode) (s t : State) → Stays s t → Stays s (giving_first mode t)
first_stays Manual s t h = h
first_stays (Auto credit) s t h = stays_then s t _ h (stays_so t _ refl refl refl refl)

pub opens_stays : (c : Bool) (count : Option ℕ) (s t : State) → Stays s t → Stays s (opened_if c count t)
opens_stays true count s t h = (let u : State = record t { book = attached t.book (unwrap_or count 0); initial = unwrap_or count 0 } in first_stays t.book.credit_mode s u (stays_then s t u h (stays_so t u refl refl refl refl)))
opens_stays false count s t h = h

attach_stays : (x : Attach) (s : State) → Stays s (attach_read x s)
attach_stays x s =
    opens_stays (not s.link.is_made && (link.attach_read x s.link).is_made) x.initial_delivery_count s (record s { link = link.attach_read x s.link }) (moves s (link.attach_read x s.link) (fixed s.link _ (attach_moves s.link.phase x s.link)))

drains_stays : (c : Bool) (o : Option ℕ) (s : State) → Stays s (drain_read c o s)
drains_stays true (Some count) s = stays_so s _ refl refl refl refl
drains_stays true None s = stays_still s
drains_stays false o s = stays_still s

flow_stays : (p : LinkPhase) (x : Flow) (s : State) → Stays s (flow_in p x s)
flow_stays phase.Attached x s = drains_stays x.drain x.delivery_count s
flow_stays p x s = moves s _ (fixed _ _ (unexpected_moves s.link.phase s.link))

forgotten_stays : (o : Option (List ℕ)) (s : State) → Stays s (forgotten o s)
forgotten_stays None s = stays_still s
forgotten_stays (Some tag) s = stays_so s _ refl refl refl refl

disposition_stays : (covered : CoveredDelivery) (settled : Bool) (s : State) → Stays s (disposition_read covered settled s)
disposition_stays covered true s = forgotten_stays (Some covered.delivery_tag) s
disposition_stays covered false s = stays_still s

pub unexpected_stays : (s : State) → Stays s (record s { link = link.unexpected s.link })
unexpected_stays s = moves s _ (fixed _ _ (unexpected_moves s.link.phase s.link))

-- a move that neither receives nor reads a Transfer
abbrev pub IsBeside : Move → Type 0
IsBeside (receives spells) = ⊥
IsBeside (hears_transfer x payload) = ⊥
IsBeside m = Unit {0}

pub move_stays : (s : State) (m : Move) → IsBeside m → Stays s (after s m)
move_stays s (receives spells) h = absurd h
move_stays s (disposes infos state) h = disposing_stays (link.disposal_refusal s.link) (view_of s.book s.link.own.handle) infos state s
move_stays s (disposes_by view infos state) h = disposing_stays (link.disposal_refusal s.link) view infos state s
move_stays s (sets_credit credit) h = credit_stays (link.disposal_refusal s.link) credit s
move_stays s (sets_credit_mode mode) h = stays_so s _ refl refl refl refl
move_stays s (sets_auto_accept value) h = stays_so s _ refl refl refl refl
move_stays s drains h = drain_stays (link.disposal_refusal s.link) s
move_stays s tells_properties h = told_stays (link.disposal_refusal s.link) s
move_stays s polls h = moves s _ (fixed _ _ (polled_moves s.link))
move_stays s (parts closes error) h = moves s _ (fixed _ _ (parting_moves s.link.is_gone s.link.phase s.link.stop_reason closes error s.link))
move_stays s abandons h = moves s _ (fixed _ _ (abandoned_moves s.link.phase s.link.stop_reason s.link))
move_stays s (reattaches handle) h = moves s _ (fixed _ _ (reattached_moves handle (map_of (unsettled_of s)) None s.link))
move_stays s stays h = moves s _ (fixed _ _ (unplaced_moves s.link))
move_stays s (hears_attach x) h = attach_stays x s
move_stays s (hears_flow x) h = flow_stays s.link.phase x s
move_stays s (hears_transfer x payload) h = absurd h
move_stays s (hears_disposition covered settled) h = disposition_stays covered settled s
move_stays s (hears_detach d) h = moves s _ (fixed _ _ (detach_moves s.link.phase d s.link))
move_stays s (stops why) h = moves s _ (fixed _ _ (stopped_moves why s.link))
move_stays s hands_over h = stays_so s _ refl refl refl refl

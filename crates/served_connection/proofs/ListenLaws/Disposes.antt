-- A delivery that is unsettled and is given a state is told so.
use Rattle.std.specs.Prelude.{◌≡◌, ◌⊎◌, ◌==◌, ◌/◌, nat_le, nat_eq, min, ◌+◌, ℕ, Bool, true, false, map, List, [], ◌∷◌, ◌++◌, Option, Some, None, if◌then◌else◌, refl}
use Rattle.std.proofs.Common.{sym, ◌∙◌, ap, subst, inl, inr, append_assoc, eq-eqb}
use Rattle.std.proofs.lemmas.List.{append-nil, map-append}
use Rattle.amqp_composites.specs.declared.modes.ReceiverSettleMode.{ReceiverSettleMode}
use Rattle.amqp_composites.specs.declared.modes.ReceiverSettleMode.TheVariants.{First, Second}
use Rattle.amqp_composites.specs.declared.modes.Role.TheVariants as role
use Rattle.amqp_termini.specs.declared.state.DeliveryState.{DeliveryState}
use Rattle.amqp_frames.specs.declared.body.FrameBody.{FrameBody}
use Rattle.amqp_frames.specs.declared.body.FrameBody.TheVariants as b
use Rattle.amqp_delivery.specs.Book.{Book, Out, found_in, view_of, mode_for, is_first, processed_one, changed_at, with_order, new_run, closed, walked_at, done_with, refill_at, refill}
use Rattle.amqp_delivery.specs.declared.calls.BookReply.{BookReply}
use Rattle.amqp_delivery.specs.declared.entry.Kept.{Kept}
use Rattle.amqp_delivery.specs.declared.info.CreditMode.{CreditMode}
use Rattle.amqp_delivery.specs.declared.info.CreditMode.TheVariants.{Manual, Auto}
use Rattle.amqp_delivery.specs.declared.info.DeliveryInfo.{DeliveryInfo}
use Rattle.amqp_delivery.specs.declared.info.DisposerView.{DisposerView}
use Rattle.amqp_delivery.specs.declared.orders.Order.{Order}
use Rattle.amqp_delivery.specs.declared.orders.Order.TheVariants.{Disposition, Flow}
use Rattle.amqp_link.specs.declared.error.IllegalLinkStateError.{IllegalLinkStateError}
use Rattle.amqp_link.specs.Link as link
use Rattle.amqp_link.specs.Link.{Link}
use Rattle.amqp_receiver.specs.Disposing.{last_of, frame_for, writing, written, is_refill, undrained, disposing_in_book, disposing, disposing_unless}
use Rattle.amqp_receiver.specs.Receiver.{State}
use Rattle.served_connection.specs.ListenLaws.Disposed.{disposition_of, is_settled, IsTold, IsDisposed, TellsWhatIsDisposed}

-- what the book orders stands in order behind what was to be written
writing_output : (os : List Order) (l : Link) → (writing os l).output ≡ l.output ++ map (frame_for l.own.handle) os
writing_output [] l = sym (append-nil l.output)
writing_output (o ∷ os) l =
    let f = frame_for l.own.handle o in
    writing_output os (link.saying f l) ∙ append_assoc l.output (f ∷ []) (map (frame_for l.own.handle) os)

-- behind the orders of a book there may be credit
record Orders (old : Book) (new : Book) : Type 0 where
  more : List Order
  orders : new.orders ≡ old.orders ++ more

refill_at_orders : (due current : Bool) (b : Book) (m found : ℕ) → Orders b (refill_at due current b m found).book
refill_at_orders false current b m found = record { more = []; orders = sym (append-nil b.orders) }
refill_at_orders true true b m found = record { more = Flow b.delivery_count m ∷ []; orders = refl }
refill_at_orders true false b m found = record { more = []; orders = sym (append-nil b.orders) }

refill_orders : (mode : CreditMode) (b : Book) (attachment found : ℕ) → Orders b (refill mode b attachment found).book
refill_orders Manual b attachment found = record { more = []; orders = sym (append-nil b.orders) }
refill_orders (Auto m) b attachment found = refill_at_orders (nat_le (m / 2) b.processed) (b.attachment == attachment) b m found

changed_orders : (mode : ReceiverSettleMode) (k : Kept) (b : Book) (tag : List ℕ) (state : DeliveryState) → (changed_at mode k b tag state).orders ≡ b.orders
changed_orders First k b tag state = refl
changed_orders Second k b tag state = refl

undrained_book : (r : BookReply) (s : State) → (undrained r s).book ≡ s.book
undrained_book r s = by (is_refill r)
  where
    by : (c : Bool) → (if c then record s { is_draining = false } else s).book ≡ s.book
    by true = refl
    by false = refl

undrained_link : (r : BookReply) (s : State) → (undrained r s).link ≡ s.link
undrained_link r s = by (is_refill r)
  where
    by : (c : Bool) → (if c then record s { is_draining = false } else s).link ≡ s.link
    by true = refl
    by false = refl

-- one delivery is named by its number alone
frame_is : (handle : ℕ) (settled : Bool) (info : DeliveryInfo) (state : DeliveryState) → frame_for handle (Disposition info.delivery_id info.delivery_id settled state) ≡ disposition_of settled info state
frame_is handle settled info state =
    let n = info.delivery_id in
    ap (λ (c : Bool). b.Disposition (record { role = role.Receiver; first = n; last = if c then None else Some n; settled = settled; state = Some state; batchable = false })) (eq-eqb n n refl)

-- what the book comes to, by what is found of the delivery
abbrev out_by : Option Kept → DisposerView → DeliveryInfo → DeliveryState → Book → Out
out_by o view info state b = done_with view state (walked_at o (mode_for view info) (record { book = b; run = None; found = 0 }) info state)

found_orders : (k : Kept) (view : DisposerView) (info : DeliveryInfo) (state : DeliveryState) (b : Book)
    → (more : List Order) × ((out_by (Some k) view info state b).book.orders ≡ b.orders ++ Disposition info.delivery_id info.delivery_id (is_first (mode_for view info)) state ∷ more)
found_orders k view info state b =
    let mode = mode_for view info in
    let one = Disposition info.delivery_id info.delivery_id (is_first mode) state in
    let first = processed_one (changed_at mode k b info.delivery_tag state) in
    let next = closed (Some (new_run mode info.delivery_id)) state first in
    let r = refill_orders view.credit_mode next view.attachment (min (0 + 1) 4294967295) in
    (r.more, r.orders ∙ (ap (λ (os : List Order). (os ++ one ∷ []) ++ r.more) (changed_orders mode k b info.delivery_tag state) ∙ append_assoc b.orders (one ∷ []) r.more))

-- the frames that a receiver writes
out_output : (out : Out) (s : State) (os : List Order) → out.book.orders ≡ os
    → (written (undrained out.reply (record s { book = out.book }))).link.output ≡ s.link.output ++ map (frame_for s.link.own.handle) os
out_output out s os e =
    let t : State = record s { book = out.book } in
    let u = undrained out.reply t in
    writing_output u.book.orders u.link
    ∙ (ap (λ (l : Link). l.output ++ map (frame_for l.own.handle) u.book.orders) (undrained_link out.reply t)
    ∙ (ap (λ (x : Book). s.link.output ++ map (frame_for s.link.own.handle) x.orders) (undrained_book out.reply t)
    ∙ ap (λ (xs : List Order). s.link.output ++ map (frame_for s.link.own.handle) xs) e))

told_by : (o : Option Kept) (info : DeliveryInfo) (state : DeliveryState) (s : State) → found_in s.book info.delivery_tag ≡ o
    → (found_in s.book info.delivery_tag ≡ None) ⊎ IsTold info state s (disposing (view_of s.book s.link.own.handle) (info ∷ []) state s)
told_by None info state s e = inl e
told_by (Some k) info state s e =
    let handle = s.link.own.handle in
    let view = view_of s.book handle in
    let settled = is_settled info s in
    let one = Disposition info.delivery_id info.delivery_id settled state in
    let found = found_orders k view info state s.book in
    let out = out_by (found_in s.book info.delivery_tag) view info state s.book in
    let orders : out.book.orders ≡ s.book.orders ++ one ∷ found.0 = ap (λ (x : Option Kept). (out_by x view info state s.book).book.orders) e ∙ found.1 in
    let before = map (frame_for handle) s.book.orders in
    let more = map (frame_for handle) found.0 in
    inr (record {
      before = before;
      more = more;
      wrote =
          out_output out s (s.book.orders ++ one ∷ found.0) orders
          ∙ (ap (λ (xs : List FrameBody). s.link.output ++ xs) (map-append (frame_for handle) s.book.orders (one ∷ found.0))
          ∙ ap (λ (x : FrameBody). s.link.output ++ (before ++ x ∷ more)) (frame_is handle settled info state));
    })

refused_or_told : (o : Option IllegalLinkStateError) (info : DeliveryInfo) (state : DeliveryState) (s : State) → link.disposal_refusal s.link ≡ o
    → IsDisposed info state s (disposing_unless o (view_of s.book s.link.own.handle) (info ∷ []) state s)
refused_or_told (Some e) info state s h = inl (record { error = e; why = h; answer = refl; same = refl })
refused_or_told None info state s h = inr (told_by (found_in s.book info.delivery_tag) info state s refl)

pub tells_what_is_disposed : TellsWhatIsDisposed
tells_what_is_disposed info state s = refused_or_told (link.disposal_refusal s.link) info state s refl

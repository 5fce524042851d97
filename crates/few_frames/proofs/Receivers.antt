-- What each move of a receiver makes it write.
use Rattle.std.specs.Prelude.{◌≡◌, ℕ, ◌+◌, ◌≤◌, nat_lt, Bool, true, false, not, ◌&&◌, List, [], ◌∷◌, ◌++◌, length, Option, Some, None, Result, Ok, Err, unwrap_or, codes, if◌then◌else◌, refl}
use Rattle.std.proofs.Common.{sym, ◌∙◌, ap, append-nil, append_assoc, subst, arith}
use Rattle.std.proofs.lemmas.List.{length-append}
use Rattle.amqp_termini.specs.declared.state.DeliveryState.{DeliveryState}
use Rattle.amqp_performatives.specs.declared.attach.Attach.{Attach}
use Rattle.amqp_performatives.specs.declared.flow.Flow.{Flow}
use Rattle.amqp_performatives.specs.declared.transfer.Transfer.{Transfer}
use Rattle.amqp_frames.specs.declared.body.FrameBody.{FrameBody}
use Rattle.amqp_frames.specs.declared.body.FrameBody.TheVariants as b
use Rattle.amqp_frames.specs.declared.shared.CoveredDelivery.{CoveredDelivery}
use Rattle.amqp_parts.specs.Join as join
use Rattle.amqp_parts.specs.declared.incomplete.PartError.{PartError}
use Rattle.amqp_parts.specs.declared.incomplete.PartError.TheVariants as part
use Rattle.amqp_delivery.specs.Book.{disposed_all, view_of, found_in, recorded_at, restarted}
use Rattle.amqp_delivery.specs.Book.{attached as begun}
use Rattle.amqp_delivery.specs.States.{accepted}
use Rattle.amqp_delivery.specs.declared.entry.Kept.{Kept}
use Rattle.amqp_delivery.specs.declared.info.CreditMode.{CreditMode}
use Rattle.amqp_delivery.specs.declared.info.CreditMode.TheVariants.{Manual, Auto}
use Rattle.amqp_delivery.specs.declared.info.DeliveryInfo.{DeliveryInfo}
use Rattle.amqp_delivery.specs.declared.info.DisposerView.{DisposerView}
use Rattle.amqp_delivery.specs.declared.orders.Order.{Order}
use Rattle.amqp_delivery.specs.declared.orders.Order.TheVariants as asks
use Rattle.amqp_link.specs.declared.endpoint.LinkPhase.{LinkPhase}
use Rattle.amqp_link.specs.declared.endpoint.LinkPhase.TheVariants as phase
use Rattle.amqp_link.specs.declared.error.IllegalLinkStateError.{IllegalLinkStateError}
use Rattle.amqp_link.specs.declared.error.LinkStateError.{LinkStateError}
use Rattle.amqp_link.specs.declared.error.LinkStateError.TheVariants.{IllegalState}
use Rattle.amqp_link.specs.Link as link
use Rattle.amqp_link.specs.Link.{Link}
use Rattle.amqp_link.specs.Numbers.{link_flow}
use Rattle.amqp_link.specs.Parting as parting
use Rattle.amqp_receiver.specs.declared.error.RecvError.{RecvError}
use Rattle.amqp_receiver.specs.declared.error.RecvError.TheVariants as error
use Rattle.amqp_receiver.specs.declared.receiver.Incoming.{Incoming}
use Rattle.amqp_receiver.specs.AutoAccept.{accepted_at_once, is_open, unwritten}
use Rattle.amqp_receiver.specs.Disposing.{frame_for, writing, written, is_refill, disposing_in_book, disposing_unless}
use Rattle.amqp_receiver.specs.Receiver.{State, giving_first, opened_if, giving_unless, attach_read, transfer_in, drain_read, flow_in, telling_credit}
use Rattle.amqp_receiver.specs.Receiving.{Got, Step, goes, fails, closes, closed_for, forgotten, aborted_at, given_if, complete, buffered, stated, stated_at, entered, settled_if, started_unless, joined_to, too_large, total, is_stray_state, taken_whole, taken, belongs, without_state, is_too_large, next, receiving, ended_as, ended, received, disposition_read}
use Rattle.amqp_receiver.specs.Receiving.{joined as joined_part}
use Rattle.amqp_receiver.specs.Regulating.{drained_unless, told_unless}
use Rattle.session_laws.specs.Giving.{handed, handed_all}
use Rattle.session_laws.specs.Giving.{written as all_written}
use Rattle.session_laws.specs.Receiving.{Move, receives, disposes, disposes_by, sets_credit, sets_credit_mode, sets_auto_accept, drains, tells_properties, polls, parts, abandons, reattaches, stays, hears_attach, hears_flow, hears_transfer, hears_disposition, hears_detach, stops, hands_over, given_behind, after, after_all}
use Rattle.few_frames.specs.Kinds.{AsksNone, MovesNone, AskNone, Each, count, one_if}
use Rattle.few_frames.specs.Links.{may_write}
use Rattle.few_frames.specs.Receivers.{IsReceivers, AsksNoMore, IsMade, cost, left, drain_in, drains_by, drains_in, Makes, ReceiverDrainsFew, ReceiverMakesFew, ReceiverAsksNone, ReceiverWritesFew}
use Rattle.few_frames.specs.Receivers.{total as all_costs}
use Rattle.few_frames.proofs.Books.{disposed_orders}
use Rattle.few_frames.proofs.Counts.{count_both, none_both, none_when, none_left, none_right, each_both, each_when, each_left, each_right}
use Rattle.few_frames.proofs.Links as of
use Rattle.few_frames.proofs.Links.{IsDetach, unexpected_goes, attach_goes, detach_goes, polled_goes, parting_goes, abandoned_goes, stopped_goes, unplaced_goes, wanted_few}

-- frames are written as P says, of those that may come and so many more
pub record GoesBy (P : FrameBody → Type 0) (n : ℕ) (s t : State) : Type 0 where
  pub new : List FrameBody
  pub written : t.link.output ≡ s.link.output ++ new
  pub asks : Each P new
  pub few : length new + left t ≤ left s + n

-- no Flow among them says echo or drain
abbrev pub Goes : ℕ → State → State → Type 0
Goes n s t = GoesBy AsksNoMore n s t

-- nothing is written, and no more may come
calm : (s t : State) → t.link ≡ s.link → t.book.orders ≡ s.book.orders → Goes 0 s t
calm s t l o =
    let p : may_write t.link.phase ≡ may_write s.link.phase = ap (λ (x : Link). may_write x.phase) l in
    let m : one_if (not t.link.is_made) ≡ one_if (not s.link.is_made) = ap (λ (x : Link). one_if (not x.is_made)) l in
    let e : length t.book.orders ≡ length s.book.orders = ap length o in
    record { new = []; written = ap (λ (x : Link). x.output) l ∙ sym (append-nil s.link.output); asks = tt; few = omega arith }

goes_then : (n m : ℕ) (s t u : State) → Goes n s t → Goes m t u → Goes (n + m) s u
goes_then n m s t u a c =
    let x = a.few in
    let y = c.few in
    let e = length-append a.new c.new in
    record {
      new = a.new ++ c.new;
      written = c.written ∙ (ap (λ (xs : List FrameBody). xs ++ c.new) a.written ∙ append_assoc s.link.output a.new c.new);
      asks = each_both AsksNoMore a.new c.new a.asks c.asks;
      few = omega arith;
    }

more : (n m : ℕ) (s t : State) → n ≤ m → Goes n s t → Goes m s t
more n m s t h g = let x = g.few in record { new = g.new; written = g.written; asks = g.asks; few = omega arith }

calm_then : (s t u : State) → Goes 0 s t → Goes 0 t u → Goes 0 s u
calm_then s t u a c = more (0 + 0) 0 s u (omega arith) (goes_then 0 0 s t u a c)

-- a receiver behind one that is calm
via : (s t u : State) → t.link ≡ s.link → t.book.orders ≡ s.book.orders → Goes 0 t u → Goes 0 s u
via s t u l e a = calm_then s t u (calm s t l e) a

-- one frame behind all others
says : (P : FrameBody → Type 0) (x : FrameBody) (s t : State) → t.link.output ≡ s.link.output ++ x ∷ [] → P x → 1 + left t ≤ left s + 1 → GoesBy P 1 s t
says P x s t o a h = record { new = x ∷ []; written = o; asks = (a, tt); few = omega arith }

asks_none : (x : FrameBody) → AsksNoMore x → IsReceivers x
asks_none (b.Flow x) h = h.0
asks_none (b.Open x) h = tt
asks_none (b.Begin x) h = tt
asks_none (b.Attach x) h = tt
asks_none (b.Transfer x payload) h = absurd h
asks_none (b.Disposition x) h = tt
asks_none (b.Detach x) h = tt
asks_none (b.End x) h = tt
asks_none (b.Close x) h = tt
asks_none b.Empty h = tt

-- ---- by its link

detach_none : (c : Bool) (x : FrameBody) → IsDetach c x → AsksNoMore x
detach_none c (b.Detach x) h = tt
detach_none c other h = absurd h

nothing_none : (x : FrameBody) → ⊥ → AsksNoMore x
nothing_none x h = absurd h

made_less : (a c : Bool) → (a ≡ true → c ≡ true) → one_if (not c) ≤ one_if (not a)
made_less true true h = omega arith
made_less true false h = let e : false ≡ true = h refl in absurd cc
made_less false true h = omega arith
made_less false false h = omega arith

moved : (M : FrameBody → Type 0) (s : State) (l : Link) → ((x : FrameBody) → M x → AsksNoMore x) → of.Goes M s.link l → Goes 0 s (record s { link = l })
moved M s l f g =
    let x = g.left in
    let m = made_less s.link.is_made l.is_made g.keeps in
    record { new = g.new; written = g.written; asks = each_when M AsksNoMore f g.new g.made; few = omega arith }

-- ---- what it receives

forgotten_calm : (o : Option (List ℕ)) (s : State) → Goes 0 s (forgotten o s)
forgotten_calm None s = calm s s refl refl
forgotten_calm (Some tag) s = calm s _ refl refl

attached_three : (p : LinkPhase) → link.is_attached p ≡ true → may_write p ≡ 3
attached_three phase.Attached h = refl
attached_three other h = absurd cc

closing_calm : (c : Bool) (condition : List ℕ) (s : State) → link.is_attached s.link.phase ≡ c → Goes 0 s (if c then record s { link = link.closing (Some (record { condition = condition; description = None; info = None })) s.link } else s)
closing_calm true condition s h =
    let e = attached_three s.link.phase h in
    record { new = _ ∷ []; written = refl; asks = (tt, tt); few = omega arith }
closing_calm false condition s h = calm s s refl refl

closed_calm : (condition : List ℕ) (s : State) → Goes 0 s (closed_for condition s)
closed_calm condition s = closing_calm (link.is_attached s.link.phase) condition s refl

aborted_by : (c : Bool) (tag : Option (List ℕ)) (s : State) → Goes 0 s (if c then goes (forgotten tag (record s { buffer = None })) else closes error.InconsistentFieldInMultiFrameDelivery s).state
aborted_by true tag s = via s (record s { buffer = None }) _ refl refl (forgotten_calm tag (record s { buffer = None }))
aborted_by false tag s = closed_calm (codes "amqp:not-allowed") s

aborted_calm : (o : Option join.Incomplete) (x : Transfer) (s : State) → Goes 0 s (aborted_at o x s).state
aborted_calm None x s = calm s s refl refl
aborted_calm (Some k) x s = aborted_by (join.is_same_delivery k.transfer x) k.transfer.delivery_tag s

given_calm : (c : Bool) (x : Transfer) (payloads : List (List ℕ)) (s : State) → Goes 0 s (given_if c x payloads s).state
given_calm true x payloads s = calm s s refl refl
given_calm false x payloads s = forgotten_calm x.delivery_tag s

complete_by : (c d : Bool) (k : join.Incomplete) (s t : State) → Goes 0 s t → Goes 0 s (if c then fails error.IllegalRcvSettleModeInTransfer (forgotten k.transfer.delivery_tag s) else given_if d k.transfer k.payloads t).state
complete_by true d k s t a = forgotten_calm k.transfer.delivery_tag s
complete_by false d k s t a = calm_then s t _ a (given_calm d k.transfer k.payloads t)

complete_calm : (k : join.Incomplete) (s : State) → Goes 0 s (complete k s).state
complete_calm k s = complete_by _ (nat_lt 0 s.book.credit) k s _ (calm s _ refl refl)

buffered_by : (c : Bool) (k : join.Incomplete) (s : State) → Goes 0 s (if c then goes (record s { buffer = Some k }) else complete k s).state
buffered_by true k s = calm s _ refl refl
buffered_by false k s = complete_calm k s

buffered_calm : (k : join.Incomplete) (s : State) → Goes 0 s (buffered k s).state
buffered_calm k s = buffered_by k.transfer.more k s

recorded_calm : (o : Option Kept) (tag : List ℕ) (state : DeliveryState) (s : State) → Goes 0 s (record s { book = recorded_at o s.book tag state })
recorded_calm None tag state s = calm s _ refl refl
recorded_calm (Some k) tag state s = calm s _ refl refl

stated_by : (o : Option (List ℕ)) (state : DeliveryState) (s : State) → Goes 0 s (stated_at o state s)
stated_by None state s = calm s s refl refl
stated_by (Some tag) state s = recorded_calm (found_in s.book tag) tag state s

stated_calm : (o : Option DeliveryState) (x : Transfer) (s : State) → Goes 0 s (stated o x s)
stated_calm None x s = calm s s refl refl
stated_calm (Some state) x s = stated_by x.delivery_tag state s

entered_by : (c : Bool) (s t : State) → Goes 0 s t → Goes 0 s (if c then s else t)
entered_by true s t a = calm s s refl refl
entered_by false s t a = a

entered_calm : (x : Transfer) (s : State) → Goes 0 s (entered x s)
entered_calm x s = entered_by (unwrap_or x.settled false) s _ (calm s _ refl refl)

settled_by : (c : Bool) (tag : Option (List ℕ)) (s : State) → Goes 0 s (if c then forgotten tag s else s)
settled_by true tag s = forgotten_calm tag s
settled_by false tag s = calm s s refl refl

settled_calm : (x : Transfer) (s : State) → Goes 0 s (settled_if x s)
settled_calm x s = settled_by (unwrap_or x.settled false) x.delivery_tag s

started_by : (o : Option PartError) (state : Option DeliveryState) (x : Transfer) (payload : List ℕ) (s : State) → Goes 0 s (started_unless o state x payload s).state
started_by (Some part.DeliveryTagIsNone) state x payload s = closed_calm (codes "amqp:not-allowed") s
started_by None state x payload s =
    calm_then s (entered x s) _ (entered_calm x s) (calm_then (entered x s) (stated state x (entered x s)) _ (stated_calm state x (entered x s)) (buffered_calm (join.begun x payload) (stated state x (entered x s))))
started_by (Some other) state x payload s = closed_calm (codes "amqp:not-allowed") s

continued_by : (c : Bool) (k : join.Incomplete) (state : Option DeliveryState) (s : State)
    → Goes 0 s (if c then buffered k (stated state k.transfer (settled_if k.transfer (record s { buffer = None }))) else closes error.InconsistentFieldInMultiFrameDelivery s).state
continued_by true k state s =
    let t : State = record s { buffer = None } in
    let u = settled_if k.transfer t in
    let v = stated state k.transfer u in
    via s t _ refl refl (calm_then t u _ (settled_calm k.transfer t) (calm_then u v _ (stated_calm state k.transfer u) (buffered_calm k v)))
continued_by false k state s = closed_calm (codes "amqp:not-allowed") s

joined_calm : (o : Option join.Incomplete) (state : Option DeliveryState) (x : Transfer) (payload : List ℕ) (s : State) → Goes 0 s (joined_to o state x payload s).state
joined_calm None state x payload s = started_by (join.lacks x.delivery_id x.delivery_tag) state x payload s
joined_calm (Some k) state x payload s = continued_by (join.agrees k.transfer x) (join.appended k x payload) state s

whole_by : (c d : Bool) (size : ℕ) (x : Transfer) (payload : List ℕ) (s : State) → Goes 0 s (if c then closes error.DeliveryTagIsNone s else (if d then too_large size s else joined_part x payload s)).state
whole_by true d size x payload s = closed_calm (codes "amqp:not-allowed") s
whole_by false true size x payload s = via s (record s { buffer = None }) _ refl refl (closed_calm (codes "amqp:link:message-size-exceeded") (record s { buffer = None }))
whole_by false false size x payload s = joined_calm s.buffer x.state (without_state x) payload s

taken_by : (c d : Bool) (x : Transfer) (payload : List ℕ) (s : State) → Goes 0 s (if c then aborted_at s.buffer x s else (if d then goes s else taken_whole x payload s)).state
taken_by true d x payload s = aborted_calm s.buffer x s
taken_by false true x payload s = calm s s refl refl
taken_by false false x payload s = whole_by (is_stray_state x s) (is_too_large (total x payload s) s.link.max_message_size) (total x payload s) x payload s

taken_calm : (x : Transfer) (payload : List ℕ) (s : State) → Goes 0 s (taken x payload s).state
unfolding taken
taken_calm x payload s = taken_by x.aborted (x.resume && not (belongs s.buffer x)) x payload s

next_calm : (o : Option (Result Got RecvError)) (s t : State) (go : State → Step) → Goes 0 s t → ((u : State) → Goes 0 u (go u).state) → Goes 0 s (next o t go).state
next_calm None s t go a f = calm_then s t _ a (f t)
next_calm (Some x) s t go a f = a

receiving_calm : (xs : List Incoming) (s : State) → Goes 0 s (receiving xs s).state
receiving_calm [] s = calm s s refl refl
receiving_calm (x ∷ xs) s =
    let u : State = record s { incoming = xs } in
    let t = taken x.transfer x.payload u in
    next_calm t.answer s t.state (λ v. receiving xs v) (via s u t.state refl refl (taken_calm x.transfer x.payload u)) (λ v. receiving_calm xs v)

ended_calm : (o : Option LinkStateError) (s : State) → Goes 0 s (ended_as o s).state
ended_calm None s = calm s s refl refl
ended_calm (Some e) s = calm s s refl refl

received_by : (c : Bool) (s : State) → Goes 0 s (if c then fails (error.LinkStateError IllegalState) s else (let t = receiving s.incoming s in next t.answer t.state ended)).state
received_by true s = calm s s refl refl
received_by false s =
    let t = receiving s.incoming s in
    next_calm t.answer s t.state ended (receiving_calm s.incoming s) (λ u. ended_calm (link.ended_by u.link.remote u.link.stop_reason) u)

received_calm : (s : State) → Goes 0 s (received s).state
received_calm s = received_by s.link.is_closed s

-- ---- what it settles

order_none : (handle : ℕ) (o : Order) → AsksNoMore (frame_for handle o)
order_none handle (asks.Disposition first last settled state) = tt
order_none handle (asks.Flow count credit) = (refl, refl)

-- the orders are written, each as one frame
record Orders (os : List Order) (l n : Link) : Type 0 where
  new : List FrameBody
  written : n.output ≡ l.output ++ new
  asks : Each AsksNoMore new
  each : length new ≡ length os
  phase : n.phase ≡ l.phase
  made : n.is_made ≡ l.is_made

orders_written : (os : List Order) (l : Link) → Orders os l (writing os l)
orders_written [] l = record { new = []; written = sym (append-nil l.output); asks = tt; each = refl; phase = refl; made = refl }
orders_written (o ∷ os) l =
    let x = frame_for l.own.handle o in
    let r = orders_written os (link.saying x l) in
    let e = r.each in
    record { new = x ∷ r.new; written = r.written ∙ append_assoc l.output (x ∷ []) r.new; asks = (order_none l.own.handle o, r.asks); each = omega arith; phase = r.phase; made = r.made }

written_goes : (s : State) → Goes 0 s (written s)
written_goes s =
    let r = orders_written s.book.orders s.link in
    let e = r.each in
    let p : may_write (writing s.book.orders s.link).phase ≡ may_write s.link.phase = ap may_write r.phase in
    let m : one_if (not (writing s.book.orders s.link).is_made) ≡ one_if (not s.link.is_made) = ap (λ c. one_if (not c)) r.made in
    record { new = r.new; written = r.written; asks = r.asks; few = omega arith }

unwritten_goes : (s : State) → Goes 0 s (unwritten s)
unwritten_goes s = record { new = []; written = sym (append-nil s.link.output); asks = tt; few = omega arith }

undrained_goes : (c : Bool) (s : State) → Goes 0 s (if c then record s { is_draining = false } else s)
undrained_goes true s = calm s _ refl refl
undrained_goes false s = calm s s refl refl

in_book : (view : DisposerView) (infos : List DeliveryInfo) (state : DeliveryState) (s : State) → Goes (length infos + 1) s (disposing_in_book view infos state s)
in_book view infos state s =
    let o = disposed_all s.book view infos state in
    let t : State = record s { book = o.book } in
    let e = disposed_orders s.book view infos state in
    let g : Goes (length infos + 1) s t = record { new = []; written = sym (append-nil s.link.output); asks = tt; few = omega arith } in
    more ((length infos + 1) + 0) (length infos + 1) s _ (omega arith) (goes_then (length infos + 1) 0 s t _ g (undrained_goes (is_refill o.reply) t))

behind_all : (n : ℕ) (s t u : State) → Goes n s t → Goes 0 t u → Goes n s u
behind_all n s t u a c = more (n + 0) n s u (omega arith) (goes_then n 0 s t u a c)

disposing_goes : (o : Option IllegalLinkStateError) (view : DisposerView) (infos : List DeliveryInfo) (state : DeliveryState) (s : State) → Goes (length infos + 1) s (disposing_unless o view infos state s).state
disposing_goes (Some e) view infos state s = more 0 (length infos + 1) s s (omega arith) (calm s s refl refl)
disposing_goes None view infos state s = behind_all (length infos + 1) s (disposing_in_book view infos state s) _ (in_book view infos state s) (written_goes (disposing_in_book view infos state s))

open_goes : (c : Bool) (s : State) → Goes 0 s (if c then written s else unwritten s)
open_goes true s = written_goes s
open_goes false s = unwritten_goes s

accept_goes : (c : Bool) (info : DeliveryInfo) (s : State) → Goes 2 s (if c then accepted_at_once info s else s)
accept_goes true info s =
    let t = disposing_in_book (view_of s.book s.link.own.handle) (info ∷ []) accepted s in
    behind_all 2 s t _ (in_book (view_of s.book s.link.own.handle) (info ∷ []) accepted s) (open_goes (is_open t) t)
accept_goes false info s = more 0 2 s s (omega arith) (calm s s refl refl)

behind_goes : (spells : Bool) (o : Option (Result Got RecvError)) (s : State) → Goes 2 s (given_behind spells o s)
behind_goes true (Some (Ok x)) s = accept_goes s.auto_accept x.info s
behind_goes true (Some (Err e)) s = more 0 2 s s (omega arith) (calm s s refl refl)
behind_goes true None s = more 0 2 s s (omega arith) (calm s s refl refl)
behind_goes false o s = more 0 2 s s (omega arith) (calm s s refl refl)

-- ---- credit

-- a Flow is written
credit_goes : (s t : State) → t.link ≡ s.link → t.book.orders ≡ s.book.orders → Goes 1 s (telling_credit false t)
credit_goes s t l o =
    let g : Goes 1 t (telling_credit false t) = says AsksNoMore _ t (telling_credit false t) refl (refl, refl) (omega arith) in
    more (0 + 1) 1 s (telling_credit false t) (omega arith) (goes_then 0 1 s t (telling_credit false t) (calm s t l o) g)

giving_goes : (o : Option IllegalLinkStateError) (credit : ℕ) (s : State) → Goes 1 s (giving_unless o credit s).state
giving_goes (Some e) credit s = more 0 1 s s (omega arith) (calm s s refl refl)
giving_goes None credit s = credit_goes s _ refl refl

told_goes : (o : Option IllegalLinkStateError) (s : State) → Goes 1 s (told_unless o s).state
told_goes (Some e) s = more 0 1 s s (omega arith) (calm s s refl refl)
told_goes None s = credit_goes s s refl refl

-- one that says drain, which is asked for
asks_goes : (c : Bool) (s t : State) → t.link ≡ s.link → t.book.orders ≡ s.book.orders → GoesBy IsReceivers 1 s (if c then t else telling_credit true (record t { is_draining = true }))
asks_goes true s t l o = (let g = more 0 1 s t (omega arith) (calm s t l o) in record { new = g.new; written = g.written; asks = each_when AsksNoMore IsReceivers asks_none g.new g.asks; few = g.few })
asks_goes false s t l o =
    let u : State = record t { is_draining = true } in
    let x : FrameBody = b.Flow (link_flow u.link.own.handle u.book.delivery_count u.book.credit true) in
    let p : may_write t.link.phase ≡ may_write s.link.phase = ap (λ (n : Link). may_write n.phase) l in
    let m : one_if (not t.link.is_made) ≡ one_if (not s.link.is_made) = ap (λ (n : Link). one_if (not n.is_made)) l in
    let e : length t.book.orders ≡ length s.book.orders = ap length o in
    record { new = x ∷ []; written = ap (λ (n : Link). n.output ++ x ∷ []) l; asks = (refl, tt); few = omega arith }

drain_goes : (o : Option IllegalLinkStateError) (s : State) → GoesBy IsReceivers 1 s (drained_unless o s).state
drain_goes (Some e) s = record { new = []; written = sym (append-nil s.link.output); asks = tt; few = omega arith }
drain_goes None s = asks_goes s.is_draining s _ refl refl

first_goes : (mode : CreditMode) (s t : State) → t.link ≡ s.link → t.book.orders ≡ s.book.orders → Goes 1 s (giving_first mode t)
first_goes Manual s t l o = more 0 1 s t (omega arith) (calm s t l o)
first_goes (Auto credit) s t l o = credit_goes s _ l o

-- ---- what is read

-- both ends have attached now, and had not before
both_made : (a c : Bool) → (not a && c) ≡ true → one_if (not a) ≡ one_if (not c) + 1
both_made false true h = refl
both_made false false h = absurd cc
both_made true c h = absurd cc

-- the first credit is given where it was still to come
opens : (c : Bool) (count : Option ℕ) (s t : State) → (not s.link.is_made && t.link.is_made) ≡ c → of.Goes (IsDetach true) s.link t.link → t.book.orders ≡ s.book.orders → Goes 0 s (opened_if c count t)
opens false count s t h g o =
    let x = g.left in
    let m = made_less s.link.is_made t.link.is_made g.keeps in
    let e : length t.book.orders ≡ length s.book.orders = ap length o in
    record { new = g.new; written = g.written; asks = each_when (IsDetach true) AsksNoMore (detach_none true) g.new g.made; few = omega arith }
opens true count s t h g o =
    let x = g.left in
    let m = both_made s.link.is_made t.link.is_made h in
    let e : length t.book.orders ≡ length s.book.orders = ap length o in
    let u : State = record t { book = begun t.book (unwrap_or count 0); initial = unwrap_or count 0 } in
    let c : Goes 1 t (opened_if true count t) = first_goes t.book.credit_mode t u refl refl in
    let y : length c.new + left (opened_if true count t) ≤ left t + 1 = c.few in
    let d = length-append g.new c.new in
    record {
      new = g.new ++ c.new;
      written = c.written ∙ (ap (λ (xs : List FrameBody). xs ++ c.new) g.written ∙ append_assoc s.link.output g.new c.new);
      asks = each_both AsksNoMore g.new c.new (each_when (IsDetach true) AsksNoMore (detach_none true) g.new g.made) c.asks;
      few = omega arith;
    }

attach_read_goes : (x : Attach) (s : State) → Goes 0 s (attach_read x s)
attach_read_goes x s =
    let t : State = record s { link = link.attach_read x s.link } in
    opens (not s.link.is_made && t.link.is_made) x.initial_delivery_count s t refl (attach_goes s.link.phase x s.link) refl

drains_calm : (c : Bool) (o : Option ℕ) (s : State) → Goes 0 s (drain_read c o s)
drains_calm true (Some count) s = calm s _ refl refl
drains_calm true None s = calm s s refl refl
drains_calm false o s = calm s s refl refl

unexpected_calm : (s : State) → Goes 0 s (record s { link = link.unexpected s.link })
unexpected_calm s = moved (IsDetach true) s (link.unexpected s.link) (detach_none true) (unexpected_goes s.link.phase s.link)

flow_calm : (p : LinkPhase) (x : Flow) (s : State) → Goes 0 s (flow_in p x s)
flow_calm phase.Attached x s = drains_calm x.drain x.delivery_count s
flow_calm p x s = unexpected_calm s

transfer_calm : (p : LinkPhase) (x : Transfer) (payload : List ℕ) (s : State) → Goes 0 s (transfer_in p x payload s)
transfer_calm phase.Attached x payload s = calm s _ refl refl
transfer_calm p x payload s = unexpected_calm s

disposition_calm : (x : CoveredDelivery) (settled : Bool) (s : State) → Goes 0 s (disposition_read x settled s)
disposition_calm x true s = forgotten_calm (Some x.delivery_tag) s
disposition_calm x false s = calm s s refl refl

-- ---- one move

stepped : (s : State) (m : Move) → handed s m ≡ [] → ((x : FrameBody) → AsksNoMore x → IsMade m x) → Goes (cost m) s (after s m) → Makes s m
stepped s m e k g = record {
  new = g.new;
  written = ap (λ (xs : List FrameBody). xs ++ (after s m).link.output) e ∙ g.written;
  made = each_when AsksNoMore (IsMade m) k g.new g.asks;
  few = λ d. g.few;
}

pub receiver_makes_few : ReceiverMakesFew
receiver_makes_few s (receives spells) = stepped s (receives spells) refl (λ x h. h) (more (0 + 2) 2 s _ (omega arith) (goes_then 0 2 s (received s).state _ (received_calm s) (behind_goes spells (received s).answer (received s).state)))
receiver_makes_few s (disposes infos state) = stepped s (disposes infos state) refl (λ x h. h) (disposing_goes (link.disposal_refusal s.link) (view_of s.book s.link.own.handle) infos state s)
receiver_makes_few s (disposes_by view infos state) = stepped s (disposes_by view infos state) refl (λ x h. h) (disposing_goes (link.disposal_refusal s.link) view infos state s)
receiver_makes_few s (sets_credit credit) = stepped s (sets_credit credit) refl (λ x h. h) (giving_goes (link.disposal_refusal s.link) credit s)
receiver_makes_few s (sets_credit_mode mode) = stepped s (sets_credit_mode mode) refl (λ x h. h) (calm s _ refl refl)
receiver_makes_few s (sets_auto_accept value) = stepped s (sets_auto_accept value) refl (λ x h. h) (calm s _ refl refl)
receiver_makes_few s drains = (let g = drain_goes (link.disposal_refusal s.link) s in record { new = g.new; written = g.written; made = g.asks; few = λ d. g.few })
receiver_makes_few s tells_properties = stepped s tells_properties refl (λ x h. h) (told_goes (link.disposal_refusal s.link) s)
receiver_makes_few s polls = stepped s polls refl (λ x h. h) (moved (λ x. ⊥) s (link.polled s.link).link nothing_none (polled_goes s.link))
receiver_makes_few s (parts closes error) = stepped s (parts closes error) refl (λ x h. h) (moved (IsDetach closes) s (parting.parting closes error s.link).link (detach_none closes) (parting_goes s.link.is_gone s.link.phase s.link.stop_reason closes error s.link))
receiver_makes_few s abandons = stepped s abandons refl (λ x h. h) (moved (IsDetach true) s (parting.abandoned s.link) (detach_none true) (abandoned_goes s.link.phase s.link.stop_reason s.link))
receiver_makes_few s (reattaches handle) = record { new = _ ∷ []; written = refl; made = (tt, tt); few = λ d. (let e = wanted_few s.link.phase d in omega arith) }
receiver_makes_few s stays = stepped s stays refl (λ x h. h) (moved (λ x. ⊥) s (parting.unplaced s.link) nothing_none (unplaced_goes s.link))
receiver_makes_few s (hears_attach x) = stepped s (hears_attach x) refl (λ x h. h) (attach_read_goes x s)
receiver_makes_few s (hears_flow x) = stepped s (hears_flow x) refl (λ x h. h) (flow_calm s.link.phase x s)
receiver_makes_few s (hears_transfer x payload) = stepped s (hears_transfer x payload) refl (λ x h. h) (transfer_calm s.link.phase x payload s)
receiver_makes_few s (hears_disposition covered settled) = stepped s (hears_disposition covered settled) refl (λ x h. h) (disposition_calm covered settled s)
receiver_makes_few s (hears_detach d) = stepped s (hears_detach d) refl (λ x h. h) (moved (IsDetach d.closed) s (link.detach_read d s.link) (detach_none d.closed) (detach_goes s.link.phase d s.link))
receiver_makes_few s (stops why) = stepped s (stops why) refl (λ x h. h) (moved (λ x. ⊥) s (link.stopped why s.link) nothing_none (stopped_goes why s.link))
receiver_makes_few s hands_over = record { new = []; written = refl; made = tt; few = λ d. omega arith }

-- ---- over a life

written_behind : (s : State) (m : Move) (ms : List Move) → all_written s (m ∷ ms) ≡ handed s m ++ all_written (after s m) ms
written_behind s m ms = append_assoc (handed s m) (handed_all (after s m) ms) (after_all (after s m) ms).link.output

behind_count : (h w c o n t : ℕ) → w ≡ h + c → h + t ≡ o + n → w + t ≡ o + n + c
behind_count h w c o n t e f = omega arith

grown : (s : State) (m : Move) (ms : List Move) (new : List FrameBody) → handed s m ++ (after s m).link.output ≡ s.link.output ++ new
    → length (all_written s (m ∷ ms)) + length (after s m).link.output ≡ length s.link.output + length new + length (all_written (after s m) ms)
grown s m ms new e =
    behind_count (length (handed s m)) (length (all_written s (m ∷ ms))) (length (all_written (after s m) ms)) (length s.link.output) (length new) (length (after s m).link.output)
    (ap length (written_behind s m ms) ∙ length-append (handed s m) (all_written (after s m) ms))
    (sym (length-append (handed s m) (after s m).link.output) ∙ (ap length e ∙ length-append s.link.output new))

lives_by : (w o n c t l a k r : ℕ) → w + t ≡ o + n + c → n + a ≤ l + k → c ≤ t + a + r → w ≤ o + l + (k + r)
lives_by w o n c t l a k r e f g = omega arith

pub receiver_writes_few : ReceiverWritesFew
receiver_writes_few s [] d = omega arith
receiver_writes_few s (m ∷ ms) d =
    let t = after s m in
    let g = receiver_makes_few s m in
    lives_by (length (all_written s (m ∷ ms))) (length s.link.output) (length g.new) (length (all_written t ms)) (length t.link.output) (left s) (left t) (cost m) (all_costs ms)
    (grown s m ms g.new g.written) (g.few d.0) (receiver_writes_few t ms d.1)

flow_none : (m : Move) (x : Flow) → IsMade m (b.Flow x) → x.echo ≡ false
flow_none drains x h = h
flow_none m x h = h.0

transfer_none : (m : Move) (x : Transfer) (payload : List ℕ) → IsMade m (b.Transfer x payload) → ⊥
transfer_none drains x payload h = h
transfer_none m x payload h = h

made_none : (m : Move) (x : FrameBody) → IsMade m x → AsksNone x
made_none m (b.Flow x) h = flow_none m x h
made_none m (b.Open x) h = tt
made_none m (b.Begin x) h = tt
made_none m (b.Attach x) h = tt
made_none m (b.Transfer x payload) h = tt
made_none m (b.Disposition x) h = tt
made_none m (b.Detach x) h = tt
made_none m (b.End x) h = tt
made_none m (b.Close x) h = tt
made_none m b.Empty h = tt

pub receiver_asks_none : ReceiverAsksNone
receiver_asks_none s [] h = h
receiver_asks_none s (m ∷ ms) h =
    let t = after s m in
    let g = receiver_makes_few s m in
    let all : AskNone (handed s m ++ t.link.output) = subst AskNone (sym g.written) (none_both s.link.output g.new h (none_when (IsMade m) (made_none m) g.new g.made)) in
    let later = receiver_asks_none t ms (none_right (handed s m) t.link.output all) in
    subst AskNone (sym (written_behind s m ms)) (none_both (handed s m) (all_written t ms) (none_left (handed s m) t.link.output all) later)

-- ---- Flows with drain

no_drain : (x : FrameBody) → AsksNoMore x → drain_in x ≡ 0
no_drain (b.Flow x) h = ap one_if h.1
no_drain (b.Open x) h = refl
no_drain (b.Begin x) h = refl
no_drain (b.Attach x) h = refl
no_drain (b.Transfer x payload) h = absurd h
no_drain (b.Disposition x) h = refl
no_drain (b.Detach x) h = refl
no_drain (b.End x) h = refl
no_drain (b.Close x) h = refl
no_drain b.Empty h = refl

no_drains : (xs : List FrameBody) → Each AsksNoMore xs → count drain_in xs ≡ 0
no_drains [] h = refl
no_drains (x ∷ xs) h =
    let e : count drain_in xs ≡ 0 = no_drains xs h.1 in
    let f = no_drain x h.0 in
    omega arith

-- one move adds none, but for the call that drains
drains_none : (s : State) (m : Move) → ((x : FrameBody) → IsMade m x → AsksNoMore x) → count drain_in (handed s m ++ (after s m).link.output) ≤ count drain_in s.link.output + drains_by m
drains_none s m k =
    let g = receiver_makes_few s m in
    let e = no_drains g.new (each_when (IsMade m) AsksNoMore k g.new g.made) in
    let f : count drain_in (handed s m ++ (after s m).link.output) ≡ count drain_in s.link.output + count drain_in g.new = ap (count drain_in) g.written ∙ count_both drain_in s.link.output g.new in
    omega arith

asks_drain : (c : Bool) (s : State) → count drain_in (if c then s else telling_credit true (record s { is_draining = true })).link.output ≤ count drain_in s.link.output + 1
asks_drain true s = omega arith
asks_drain false s =
    let x : FrameBody = b.Flow (link_flow s.link.own.handle s.book.delivery_count s.book.credit true) in
    let e : count drain_in (s.link.output ++ x ∷ []) ≡ count drain_in s.link.output + count drain_in (x ∷ []) = count_both drain_in s.link.output (x ∷ []) in
    omega arith

drain_asks : (o : Option IllegalLinkStateError) (s : State) → count drain_in (drained_unless o s).state.link.output ≤ count drain_in s.link.output + 1
drain_asks (Some e) s = omega arith
drain_asks None s = asks_drain s.is_draining (record s { book = restarted s.book })

drains_more : (s : State) (m : Move) → count drain_in (handed s m ++ (after s m).link.output) ≤ count drain_in s.link.output + drains_by m
drains_more s drains = drain_asks (link.disposal_refusal s.link) s
drains_more s m = drains_none s m (λ x h. h)

behind_drains : (h w c o t l : ℕ) → w ≡ h + c → h + t ≤ o + l → (r : ℕ) → c ≤ t + r → w ≤ o + (l + r)
behind_drains h w c o t l e f r g = omega arith

pub receiver_drains_few : ReceiverDrainsFew
receiver_drains_few s [] = omega arith
receiver_drains_few s (m ∷ ms) =
    let t = after s m in
    let a : count drain_in (handed s m ++ t.link.output) ≡ count drain_in (handed s m) + count drain_in t.link.output = count_both drain_in (handed s m) t.link.output in
    behind_drains (count drain_in (handed s m)) (count drain_in (all_written s (m ∷ ms))) (count drain_in (all_written t ms)) (count drain_in s.link.output) (count drain_in t.link.output) (drains_by m)
    (ap (count drain_in) (written_behind s m ms) ∙ count_both drain_in (handed s m) (all_written t ms))
    (subst (λ (n : ℕ). n ≤ count drain_in s.link.output + drains_by m) a (drains_more s m))
    (drains_in ms) (receiver_drains_few t ms)

-- ---- Transfers

moves_none : (m : Move) (x : FrameBody) → IsMade m x → MovesNone x
moves_none m (b.Transfer x payload) h = transfer_none m x payload h
moves_none m (b.Flow x) h = tt
moves_none m (b.Open x) h = tt
moves_none m (b.Begin x) h = tt
moves_none m (b.Attach x) h = tt
moves_none m (b.Disposition x) h = tt
moves_none m (b.Detach x) h = tt
moves_none m (b.End x) h = tt
moves_none m (b.Close x) h = tt
moves_none m b.Empty h = tt

-- whatever a receiver goes through, it writes no Transfer
pub receiver_moves_none : (s : State) (ms : List Move) → Each MovesNone s.link.output → Each MovesNone (all_written s ms)
receiver_moves_none s [] h = h
receiver_moves_none s (m ∷ ms) h =
    let t = after s m in
    let g = receiver_makes_few s m in
    let all : Each MovesNone (handed s m ++ t.link.output) = subst (λ (xs : List FrameBody). Each MovesNone xs) (sym g.written) (each_both MovesNone s.link.output g.new h (each_when (IsMade m) MovesNone (moves_none m) g.new g.made)) in
    let later = receiver_moves_none t ms (each_right MovesNone (handed s m) t.link.output all) in
    subst (λ (xs : List FrameBody). Each MovesNone xs) (sym (written_behind s m ms)) (each_both MovesNone (handed s m) (all_written t ms) (each_left MovesNone (handed s m) t.link.output all) later)

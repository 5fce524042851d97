-- What a receiver goes through, its link goes through.
use Rattle.std.specs.Prelude.{◌≡◌, ℕ, nat_lt, Bool, true, false, not, ◌&&◌, List, [], ◌∷◌, Option, Some, None, unwrap_or, Result, codes, if◌then◌else◌, refl}
use Rattle.std.proofs.Common.{◌∙◌}
use Rattle.amqp_delivery.specs.Book.{disposed_all, view_of, restarted, attached, registered, completed}
use Rattle.amqp_delivery.specs.States.{accepted}
use Rattle.amqp_delivery.specs.declared.info.CreditMode.{CreditMode}
use Rattle.amqp_delivery.specs.declared.info.CreditMode.TheVariants.{Manual, Auto}
use Rattle.amqp_delivery.specs.declared.info.DeliveryInfo.{DeliveryInfo}
use Rattle.amqp_delivery.specs.declared.info.DisposerView.{DisposerView}
use Rattle.amqp_delivery.specs.declared.orders.Order.{Order}
use Rattle.amqp_link.specs.amqp_frames.amqp_termini.declared.state.DeliveryState.{DeliveryState}
use Rattle.amqp_link.specs.amqp_frames.declared.body.FrameBody.TheVariants as b
use Rattle.amqp_link.specs.amqp_frames.declared.shared.CoveredDelivery.{CoveredDelivery}
use Rattle.amqp_link.specs.amqp_performatives.declared.attach.Attach.{Attach}
use Rattle.amqp_link.specs.amqp_performatives.declared.flow.Flow.{Flow}
use Rattle.amqp_link.specs.amqp_performatives.declared.transfer.Transfer.{Transfer}
use Rattle.amqp_link.specs.declared.endpoint.LinkPhase.{LinkPhase}
use Rattle.amqp_link.specs.declared.endpoint.LinkPhase.TheVariants as phase
use Rattle.amqp_link.specs.declared.error.IllegalLinkStateError.{IllegalLinkStateError}
use Rattle.amqp_link.specs.declared.error.LinkStateError.{LinkStateError}
use Rattle.amqp_link.specs.declared.error.LinkStateError.TheVariants as refused
use Rattle.amqp_link.specs.Link as link
use Rattle.amqp_link.specs.Link.{Link}
use Rattle.amqp_link.specs.Numbers.{link_flow}
use Rattle.amqp_parts.specs.declared.incomplete.PartError.{PartError}
use Rattle.amqp_parts.specs.declared.incomplete.PartError.TheVariants as part
use Rattle.amqp_parts.specs.Join as parts
use Rattle.amqp_receiver.specs.declared.error.RecvError.{RecvError}
use Rattle.amqp_receiver.specs.declared.error.RecvError.TheVariants as error
use Rattle.amqp_receiver.specs.declared.receiver.Incoming.{Incoming}
use Rattle.amqp_receiver.specs.AutoAccept.{accepted_at_once, is_open, unwritten}
use Rattle.amqp_receiver.specs.Disposing.{frame_for, writing, written, is_refill, disposing_in_book, disposing_unless}
use Rattle.amqp_receiver.specs.Receiver.{State, giving, giving_first, opened_if, giving_unless, attach_read, transfer_in, drain_read, flow_in, telling_credit}
use Rattle.amqp_receiver.specs.Receiving.{Got, Step, goes as going, fails, error_of, closed_for, closes, info_of, forgotten, disposition_read, aborted_at, belongs, is_second, is_first, given_if, complete, buffered, stated_at, stated, entered, settled_if, started_unless, continued, joined_to, without_state, joined, total, is_too_large, too_large, is_stray_state, taken_whole, taken, next, receiving, ended_as, ended, received}
use Rattle.amqp_receiver.specs.Regulating.{drained_unless, told_unless}
use Rattle.crossing_laws.specs.Moving.{ReceiverMovesItsLink}
use Rattle.crossing_laws.specs.Lives as life
use Rattle.crossing_laws.proofs.Goings.{Goes, stays, same, by, onwards, likewise}

-- ---- either of two

either : (c : Bool) (l : Link) (t u : State) → Goes l t.link → Goes l u.link → Goes l (if c then t else u).link
either true l t u p q = p
either false l t u p q = q

step : (c : Bool) (l : Link) (a d : Step) → Goes l a.state.link → Goes l d.state.link → Goes l (if c then a else d).state.link
step true l a d p q = p
step false l a d p q = q

-- ---- a Transfer that was read is taken

closed_link : (c : Bool) (s : State) (l : Link) → (if c then record s { link = l } else s).link ≡ (if c then l else s.link)
closed_link true s l = refl
closed_link false s l = refl

closed_goes : (condition : List ℕ) (l : Link) (s : State) → Goes l s.link → Goes l (closed_for condition s).link
closed_goes condition l s g =
    let e = Some (error_of condition) in
    onwards l s.link (closed_for condition s).link g
    (likewise s.link (life.after s.link (life.fails e)) (closed_for condition s).link (by s.link (life.fails e)) (closed_link (link.is_attached s.link.phase) s (link.closing e s.link)))

closes_goes : (e : RecvError) (l : Link) (s : State) → Goes l s.link → Goes l (closes e s).state.link
closes_goes e l s g = closed_goes (codes "amqp:not-allowed") l s g

forgotten_link : (o : Option (List ℕ)) (s : State) → (forgotten o s).link ≡ s.link
forgotten_link None s = refl
forgotten_link (Some tag) s = refl

aborted_goes : (o : Option parts.Incomplete) (x : Transfer) (s : State) → Goes s.link (aborted_at o x s).state.link
aborted_goes None x s = stays s.link
aborted_goes (Some d) x s =
    step (parts.is_same_delivery d.transfer x) s.link (going (forgotten d.transfer.delivery_tag (record s { buffer = None }))) (closes error.InconsistentFieldInMultiFrameDelivery s)
    (same s.link _ (forgotten_link d.transfer.delivery_tag (record s { buffer = None }))) (closes_goes error.InconsistentFieldInMultiFrameDelivery s.link s (stays s.link))

given_goes : (c : Bool) (x : Transfer) (payloads : List (List ℕ)) (l : Link) (s : State) → Goes l s.link → Goes l (given_if c x payloads s).state.link
given_goes true x payloads l s g = g
given_goes false x payloads l s g = likewise l s.link _ g (forgotten_link x.delivery_tag s)

complete_goes : (d : parts.Incomplete) (l : Link) (s : State) → Goes l s.link → Goes l (complete d s).state.link
complete_goes d l s g =
    let t : State = record s { book = completed s.book } in
    step (is_second d.transfer.rcv_settle_mode && is_first s.book.mode) l (fails error.IllegalRcvSettleModeInTransfer (forgotten d.transfer.delivery_tag s)) (given_if (nat_lt 0 s.book.credit) d.transfer d.payloads t)
    (likewise l s.link _ g (forgotten_link d.transfer.delivery_tag s)) (given_goes (nat_lt 0 s.book.credit) d.transfer d.payloads l t g)

buffered_goes : (d : parts.Incomplete) (l : Link) (s : State) → Goes l s.link → Goes l (buffered d s).state.link
buffered_goes d l s g = step d.transfer.more l (going (record s { buffer = Some d })) (complete d s) g (complete_goes d l s g)

stated_at_link : (o : Option (List ℕ)) (state : DeliveryState) (s : State) → (stated_at o state s).link ≡ s.link
stated_at_link None state s = refl
stated_at_link (Some tag) state s = refl

stated_link : (o : Option DeliveryState) (x : Transfer) (s : State) → (stated o x s).link ≡ s.link
stated_link None x s = refl
stated_link (Some state) x s = stated_at_link x.delivery_tag state s

entered_by : (c : Bool) (s t : State) → t.link ≡ s.link → (if c then s else t).link ≡ s.link
entered_by true s t e = refl
entered_by false s t e = e

entered_link : (x : Transfer) (s : State) → (entered x s).link ≡ s.link
entered_link x s = entered_by (unwrap_or x.settled false) s (record s { book = registered s.book (info_of x) }) refl

settled_by : (c : Bool) (s t : State) → t.link ≡ s.link → (if c then t else s).link ≡ s.link
settled_by true s t e = e
settled_by false s t e = refl

settled_link : (x : Transfer) (s : State) → (settled_if x s).link ≡ s.link
settled_link x s = settled_by (unwrap_or x.settled false) s (forgotten x.delivery_tag s) (forgotten_link x.delivery_tag s)

started_goes : (o : Option PartError) (state : Option DeliveryState) (x : Transfer) (payload : List ℕ) (s : State) → Goes s.link (started_unless o state x payload s).state.link
started_goes (Some part.DeliveryTagIsNone) state x payload s = closes_goes error.DeliveryTagIsNone s.link s (stays s.link)
started_goes (Some other) state x payload s = closes_goes error.DeliveryIdIsNone s.link s (stays s.link)
started_goes None state x payload s =
    let t = stated state x (entered x s) in
    buffered_goes (parts.begun x payload) s.link t (same s.link t.link (stated_link state x (entered x s) ∙ entered_link x s))

continued_goes : (d : parts.Incomplete) (state : Option DeliveryState) (x : Transfer) (payload : List ℕ) (s : State) → Goes s.link (continued d state x payload s).state.link
continued_goes d state x payload s =
    let a = parts.appended d x payload in
    let u : State = record s { buffer = None } in
    let t = stated state a.transfer (settled_if a.transfer u) in
    step (parts.agrees d.transfer x) s.link (buffered a t) (closes error.InconsistentFieldInMultiFrameDelivery s)
    (buffered_goes a s.link t (same s.link t.link (stated_link state a.transfer (settled_if a.transfer u) ∙ settled_link a.transfer u)))
    (closes_goes error.InconsistentFieldInMultiFrameDelivery s.link s (stays s.link))

joined_goes : (o : Option parts.Incomplete) (state : Option DeliveryState) (x : Transfer) (payload : List ℕ) (s : State) → Goes s.link (joined_to o state x payload s).state.link
joined_goes None state x payload s = started_goes (parts.lacks x.delivery_id x.delivery_tag) state x payload s
joined_goes (Some d) state x payload s = continued_goes d state x payload s

whole_goes : (x : Transfer) (payload : List ℕ) (s : State) → Goes s.link (taken_whole x payload s).state.link
whole_goes x payload s =
    let size = total x payload s in
    let large = if is_too_large size s.link.max_message_size then too_large size s else joined x payload s in
    step (is_stray_state x s) s.link (closes error.DeliveryTagIsNone s) large
    (closes_goes error.DeliveryTagIsNone s.link s (stays s.link))
    (step (is_too_large size s.link.max_message_size) s.link (too_large size s) (joined x payload s)
    (closed_goes (codes "amqp:link:message-size-exceeded") s.link (record s { buffer = None }) (stays s.link))
    (joined_goes s.buffer x.state (without_state x) payload s))

taken_goes : (x : Transfer) (payload : List ℕ) (s : State) → Goes s.link (taken x payload s).state.link
unfolding taken
taken_goes x payload s =
    let rest = if x.resume && not (belongs s.buffer x) then going s else taken_whole x payload s in
    step x.aborted s.link (aborted_at s.buffer x s) rest (aborted_goes s.buffer x s)
    (step (x.resume && not (belongs s.buffer x)) s.link (going s) (taken_whole x payload s) (stays s.link) (whole_goes x payload s))

-- ---- a call that receives

next_goes : (o : Option (Result Got RecvError)) (l : Link) (s : State) (go : State → Step) → Goes l s.link → Goes l (go s).state.link → Goes l (next o s go).state.link
next_goes None l s go g h = h
next_goes (Some answer) l s go g h = g

receiving_goes : (xs : List Incoming) (s : State) → Goes s.link (receiving xs s).state.link
receiving_goes [] s = stays s.link
receiving_goes (x ∷ xs) s =
    let t = taken x.transfer x.payload (record s { incoming = xs }) in
    let g = taken_goes x.transfer x.payload (record s { incoming = xs }) in
    next_goes t.answer s.link t.state (λ u. receiving xs u) g (onwards s.link t.state.link (receiving xs t.state).state.link g (receiving_goes xs t.state))

ended_link : (o : Option LinkStateError) (s : State) → (ended_as o s).state.link ≡ s.link
ended_link None s = refl
ended_link (Some e) s = refl

received_goes : (s : State) → Goes s.link (received s).state.link
received_goes s =
    let t = receiving s.incoming s in
    let g = receiving_goes s.incoming s in
    step s.link.is_closed s.link (fails (error.LinkStateError refused.IllegalState) s) (next t.answer t.state ended) (stays s.link)
    (next_goes t.answer s.link t.state ended g (likewise s.link t.state.link _ g (ended_link (link.ended_by t.state.link.remote t.state.link.stop_reason) t.state)))

-- ---- what is to be written

writing_goes : (os : List Order) (l : Link) → Goes l (writing os l)
writing_goes [] l = stays l
writing_goes (o ∷ os) l =
    let n = link.saying (frame_for l.own.handle o) l in
    onwards l n (writing os n) (by l (life.says (frame_for l.own.handle o))) (writing_goes os n)

written_goes : (l : Link) (s : State) → Goes l s.link → Goes l (written s).link
written_goes l s g = onwards l s.link (writing s.book.orders s.link) g (writing_goes s.book.orders s.link)

undrained_by : (c : Bool) (s : State) → (if c then record s { is_draining = false } else s).link ≡ s.link
undrained_by true s = refl
undrained_by false s = refl

in_book_link : (view : DisposerView) (infos : List DeliveryInfo) (state : DeliveryState) (s : State) → (disposing_in_book view infos state s).link ≡ s.link
in_book_link view infos state s =
    let o = disposed_all s.book view infos state in undrained_by (is_refill o.reply) (record s { book = o.book })

disposing_goes : (o : Option IllegalLinkStateError) (view : DisposerView) (infos : List DeliveryInfo) (state : DeliveryState) (s : State) → Goes s.link (disposing_unless o view infos state s).state.link
disposing_goes (Some e) view infos state s = stays s.link
disposing_goes None view infos state s =
    let t = disposing_in_book view infos state s in written_goes s.link t (same s.link t.link (in_book_link view infos state s))

accepted_goes : (c : Bool) (info : DeliveryInfo) (s : State) → Goes s.link (if c then accepted_at_once info s else s).link
accepted_goes true info s =
    let v = view_of s.book s.link.own.handle in
    let t = disposing_in_book v (info ∷ []) accepted s in
    let g = same s.link t.link (in_book_link v (info ∷ []) accepted s) in
    either (is_open t) s.link (written t) (unwritten t) (written_goes s.link t g) g
accepted_goes false info s = stays s.link

-- ---- credit

telling_goes : (drain : Bool) (l : Link) (s : State) → Goes l s.link → Goes l (telling_credit drain s).link
telling_goes drain l s g = onwards l s.link (telling_credit drain s).link g (by s.link (life.says (b.Flow (link_flow s.link.own.handle s.book.delivery_count s.book.credit drain))))

giving_goes : (credit : ℕ) (l : Link) (s : State) → Goes l s.link → Goes l (giving credit s).link
giving_goes credit l s g =
    onwards l s.link (giving credit s).link g (by s.link (life.says (b.Flow (link_flow s.link.own.handle s.book.delivery_count credit false))))

credit_goes : (o : Option IllegalLinkStateError) (credit : ℕ) (s : State) → Goes s.link (giving_unless o credit s).state.link
credit_goes (Some e) credit s = stays s.link
credit_goes None credit s = giving_goes credit s.link s (stays s.link)

drains_goes : (o : Option IllegalLinkStateError) (s : State) → Goes s.link (drained_unless o s).state.link
drains_goes (Some e) s = stays s.link
drains_goes None s =
    let t : State = record s { book = restarted s.book } in
    let u : State = record t { is_draining = true } in
    either s.is_draining s.link t (telling_credit true u) (stays s.link) (telling_goes true s.link u (stays s.link))

tells_goes : (o : Option IllegalLinkStateError) (s : State) → Goes s.link (told_unless o s).state.link
tells_goes (Some e) s = stays s.link
tells_goes None s = telling_goes false s.link s (stays s.link)

-- ---- what is heard

first_goes : (mode : CreditMode) (l : Link) (s : State) → Goes l s.link → Goes l (giving_first mode s).link
first_goes Manual l s g = g
first_goes (Auto credit) l s g = giving_goes credit l s g

opens_goes : (c : Bool) (count : Option ℕ) (l : Link) (s : State) → Goes l s.link → Goes l (opened_if c count s).link
opens_goes true count l s g =
    let n = unwrap_or count 0 in
    first_goes s.book.credit_mode l (record s { book = attached s.book n; initial = n }) g
opens_goes false count l s g = g

attach_goes : (x : Attach) (s : State) → Goes s.link (attach_read x s).link
attach_goes x s =
    opens_goes (not s.link.is_made && (link.attach_read x s.link).is_made) x.initial_delivery_count s.link (record s { link = link.attach_read x s.link }) (by s.link (life.hears_attach x))

drain_link : (c : Bool) (o : Option ℕ) (s : State) → (drain_read c o s).link ≡ s.link
drain_link true (Some count) s = refl
drain_link true None s = refl
drain_link false o s = refl

flow_goes : (p : LinkPhase) (x : Flow) (s : State) → Goes s.link (flow_in p x s).link
flow_goes phase.Attached x s = same s.link _ (drain_link x.drain x.delivery_count s)
flow_goes p x s = by s.link life.hears_other

transfer_goes : (p : LinkPhase) (x : Transfer) (payload : List ℕ) (s : State) → Goes s.link (transfer_in p x payload s).link
transfer_goes phase.Attached x payload s = stays s.link
transfer_goes p x payload s = by s.link life.hears_other

disposition_link : (covered : CoveredDelivery) (t : Bool) (s : State) → (disposition_read covered t s).link ≡ s.link
disposition_link covered true s = refl
disposition_link covered false s = refl

-- ---- all of it

pub receiver_moves_its_link : ReceiverMovesItsLink
unfolding Goes
receiver_moves_its_link = record {
  receives = received_goes;
  accepts = λ info s. accepted_goes s.auto_accept info s;
  disposes = λ view infos state s. disposing_goes (link.disposal_refusal s.link) view infos state s;
  sets_credit = λ credit s. credit_goes (link.disposal_refusal s.link) credit s;
  drains = λ s. drains_goes (link.disposal_refusal s.link) s;
  tells_properties = λ s. tells_goes (link.disposal_refusal s.link) s;
  hears_attach = attach_goes;
  hears_flow = λ x s. flow_goes s.link.phase x s;
  hears_transfer = λ x payload s. transfer_goes s.link.phase x payload s;
  hears_disposition = λ covered t s. same s.link _ (disposition_link covered t s);
}

-- What becomes of the link of a receiver, whatever it is asked and reads.
use Rattle.std.specs.Prelude.{◌≡◌, ℕ, nat_lt, Bool, true, false, not, ◌&&◌, codes, unwrap_or, List, [], ◌∷◌, Option, Some, None, Result, if◌then◌else◌, refl}
use Rattle.std.proofs.Common.{sym, ◌∙◌, subst}
use Rattle.amqp_composites.specs.declared.error.Error.{Error as AmqpError}
use Rattle.amqp_frames.specs.declared.body.FrameBody.{FrameBody}
use Rattle.amqp_termini.specs.declared.state.DeliveryState.{DeliveryState}
use Rattle.amqp_performatives.specs.declared.attach.Attach.{Attach}
use Rattle.amqp_performatives.specs.declared.flow.Flow.{Flow}
use Rattle.amqp_performatives.specs.declared.transfer.Transfer.{Transfer}
use Rattle.amqp_frames.specs.declared.shared.CoveredDelivery.{CoveredDelivery}
use Rattle.amqp_parts.specs.Join as join
use Rattle.amqp_parts.specs.declared.incomplete.PartError.{PartError}
use Rattle.amqp_parts.specs.declared.incomplete.PartError.TheVariants as part
use Rattle.amqp_delivery.specs.Book.{attached, disposed_all, view_of, restarted}
use Rattle.amqp_delivery.specs.States.{accepted}
use Rattle.amqp_delivery.specs.declared.info.CreditMode.{CreditMode}
use Rattle.amqp_delivery.specs.declared.info.CreditMode.TheVariants.{Manual, Auto}
use Rattle.amqp_delivery.specs.declared.info.DeliveryInfo.{DeliveryInfo}
use Rattle.amqp_delivery.specs.declared.info.DisposerView.{DisposerView}
use Rattle.amqp_delivery.specs.declared.orders.Order.{Order}
use Rattle.amqp_link.specs.declared.endpoint.LinkPhase.{LinkPhase}
use Rattle.amqp_link.specs.declared.endpoint.LinkPhase.TheVariants as phase
use Rattle.amqp_link.specs.declared.error.IllegalLinkStateError.{IllegalLinkStateError}
use Rattle.amqp_link.specs.declared.error.LinkStateError.{LinkStateError}
use Rattle.amqp_link.specs.declared.error.LinkStateError.TheVariants.{IllegalState}
use Rattle.amqp_link.specs.Link as link
use Rattle.amqp_link.specs.Link.{Link}
use Rattle.amqp_receiver.specs.declared.error.RecvError.{RecvError}
use Rattle.amqp_receiver.specs.declared.error.RecvError.TheVariants as error
use Rattle.amqp_receiver.specs.declared.receiver.Incoming.{Incoming}
use Rattle.amqp_receiver.specs.AutoAccept.{accepted_at_once, auto_accepted, is_open, unwritten}
use Rattle.amqp_receiver.specs.Disposing.{frame_for, writing, written, is_refill, disposing_in_book, disposing_unless, disposed, disposed_by}
use Rattle.amqp_receiver.specs.Receiver.{State, giving_first, opened_if, giving_unless, credit_set, attach_read, transfer_in, transfer_read, drain_read, flow_in, flow_read, telling_credit}
use Rattle.amqp_receiver.specs.Receiving.{Got, Step, goes, fails, closes, closed_for, forgotten, aborted_at, given_if, complete, buffered, stated, stated_at, entered, settled_if, started_unless, joined_to, without_state, total, too_large, is_stray_state, is_too_large, belongs, taken_whole, taken, next, receiving, ended_as, ended, received, disposition_read}
use Rattle.amqp_receiver.specs.Receiving.{joined as joined_part}
use Rattle.amqp_receiver.specs.Regulating.{drained_unless, told_unless, drain_asked, properties_told}

-- A relation of a link to what becomes of it, that has each of these steps, and all of them together.
pub record Steps (R : Link → Link → Type 0) : Type 0 where
  pub same : (l m : Link) → m ≡ l → R l m
  pub next : (l m n : Link) → R l m → R m n → R l n
  pub says : (x : FrameBody) (l : Link) → R l (link.saying x l)
  pub closes : (e : Option AmqpError) (l : Link) → R l (link.closing e l)
  pub unexpected : (l : Link) → R l (link.unexpected l)

-- what waits: Transfers, and the parts of a delivery of which more is to come
abbrev pub waits_of : State → List Incoming × Option join.Incomplete
waits_of s = (s.incoming, s.buffer)

module _ (R : Link → Link → Type 0) (k : Steps R) where
  -- its link goes on so
  pub record Goes (s t : State) : Type 0 where
    pub keeps : R s.link t.link

  -- and the Transfers that wait are the same
  pub record Takes (s t : State) : Type 0 where
    pub keeps : R s.link t.link
    pub incoming : t.incoming ≡ s.incoming

  -- and the delivery of which more is to come
  pub record Stays (s t : State) : Type 0 where
    pub keeps : R s.link t.link
    pub waits : waits_of t ≡ waits_of s

  same_incoming : (s t : State) → t.link ≡ s.link → t.incoming ≡ s.incoming → Takes s t
  same_incoming s t e i = record { keeps = k.same s.link t.link e; incoming = i }

  takes_then : (s t u : State) → Takes s t → Takes t u → Takes s u
  takes_then s t u p q = record { keeps = k.next s.link t.link u.link p.keeps q.keeps; incoming = q.incoming ∙ p.incoming }

  pub same : (s t : State) → t.link ≡ s.link → waits_of t ≡ waits_of s → Stays s t
  same s t e i = record { keeps = k.same s.link t.link e; waits = i }

  pub moved : (s : State) (l : Link) → R s.link l → Stays s (record s { link = l })
  moved s l r = record { keeps = r; waits = refl }

  pub stays_then : (s t u : State) → Stays s t → Stays t u → Stays s u
  stays_then s t u p q = record { keeps = k.next s.link t.link u.link p.keeps q.keeps; waits = q.waits ∙ p.waits }

  pub goes_then : (s t u : State) → Goes s t → Goes t u → Goes s u
  goes_then s t u p q = record { keeps = k.next s.link t.link u.link p.keeps q.keeps }

  pub goes_on : (s t : State) → Stays s t → Goes s t
  goes_on s t p = record { keeps = p.keeps }

  -- ---- what waits is received

  forgotten_takes : (o : Option (List ℕ)) (s : State) → Takes s (forgotten o s)
  forgotten_takes None s = same_incoming s s refl refl
  forgotten_takes (Some tag) s = same_incoming s _ refl refl

  closing_takes : (p : LinkPhase) (l : Link) (condition : List ℕ)
      → R (record l { phase = p }) (if link.is_attached p then link.closing (Some (record { condition = condition; description = None; info = None })) (record l { phase = p }) else record l { phase = p })
  closing_takes phase.Attached l condition = k.closes _ (record l { phase = phase.Attached })
  closing_takes p l condition = k.same _ _ refl

  closed_by : (c : Bool) (condition : List ℕ) (s : State) → (if c then record s { link = link.closing (Some (record { condition = condition; description = None; info = None })) s.link } else s).link
      ≡ (if c then link.closing (Some (record { condition = condition; description = None; info = None })) s.link else s.link)
  closed_by true condition s = refl
  closed_by false condition s = refl

  closed_incoming : (c : Bool) (condition : List ℕ) (s : State) → (if c then record s { link = link.closing (Some (record { condition = condition; description = None; info = None })) s.link } else s).incoming ≡ s.incoming
  closed_incoming true condition s = refl
  closed_incoming false condition s = refl

  closed_takes : (condition : List ℕ) (s : State) → Takes s (closed_for condition s)
  closed_takes condition s = record { keeps = subst (λ l. R s.link l) (sym (closed_by (link.is_attached s.link.phase) condition s)) (closing_takes s.link.phase s.link condition); incoming = closed_incoming (link.is_attached s.link.phase) condition s }

  -- a receiver behind one that has the same link
  via_takes : (s t u : State) → t.link ≡ s.link → t.incoming ≡ s.incoming → Takes t u → Takes s u
  via_takes s t u e i a = takes_then s t u (same_incoming s t e i) a

  aborted_by : (c : Bool) (tag : Option (List ℕ)) (s : State) → Takes s (if c then goes (forgotten tag (record s { buffer = None })) else closes error.InconsistentFieldInMultiFrameDelivery s).state
  aborted_by true tag s = via_takes s (record s { buffer = None }) _ refl refl (forgotten_takes tag (record s { buffer = None }))
  aborted_by false tag s = closed_takes (codes "amqp:not-allowed") s

  aborted_takes : (o : Option join.Incomplete) (x : Transfer) (s : State) → Takes s (aborted_at o x s).state
  aborted_takes None x s = same_incoming s s refl refl
  aborted_takes (Some d) x s = aborted_by (join.is_same_delivery d.transfer x) d.transfer.delivery_tag s

  given_takes : (c : Bool) (x : Transfer) (payloads : List (List ℕ)) (s : State) → Takes s (given_if c x payloads s).state
  given_takes true x payloads s = same_incoming s s refl refl
  given_takes false x payloads s = forgotten_takes x.delivery_tag s

  complete_by : (c e : Bool) (d : join.Incomplete) (s t : State) → Takes s t → Takes s (if c then fails error.IllegalRcvSettleModeInTransfer (forgotten d.transfer.delivery_tag s) else given_if e d.transfer d.payloads t).state
  complete_by true e d s t a = forgotten_takes d.transfer.delivery_tag s
  complete_by false e d s t a = takes_then s t _ a (given_takes e d.transfer d.payloads t)

  complete_takes : (d : join.Incomplete) (s : State) → Takes s (complete d s).state
  complete_takes d s = complete_by _ (nat_lt 0 s.book.credit) d s _ (same_incoming s _ refl refl)

  buffered_by : (c : Bool) (d : join.Incomplete) (s : State) → Takes s (if c then goes (record s { buffer = Some d }) else complete d s).state
  buffered_by true d s = same_incoming s _ refl refl
  buffered_by false d s = complete_takes d s

  buffered_takes : (d : join.Incomplete) (s : State) → Takes s (buffered d s).state
  buffered_takes d s = buffered_by d.transfer.more d s

  stated_by : (o : Option (List ℕ)) (state : DeliveryState) (s : State) → Takes s (stated_at o state s)
  stated_by None state s = same_incoming s s refl refl
  stated_by (Some tag) state s = same_incoming s _ refl refl

  stated_takes : (o : Option DeliveryState) (x : Transfer) (s : State) → Takes s (stated o x s)
  stated_takes None x s = same_incoming s s refl refl
  stated_takes (Some state) x s = stated_by x.delivery_tag state s

  entered_by : (c : Bool) (s t : State) → Takes s t → Takes s (if c then s else t)
  entered_by true s t a = same_incoming s s refl refl
  entered_by false s t a = a

  entered_takes : (x : Transfer) (s : State) → Takes s (entered x s)
  entered_takes x s = entered_by (unwrap_or x.settled false) s _ (same_incoming s _ refl refl)

  settled_by : (c : Bool) (tag : Option (List ℕ)) (s : State) → Takes s (if c then forgotten tag s else s)
  settled_by true tag s = forgotten_takes tag s
  settled_by false tag s = same_incoming s s refl refl

  settled_takes : (x : Transfer) (s : State) → Takes s (settled_if x s)
  settled_takes x s = settled_by (unwrap_or x.settled false) x.delivery_tag s

  started_by : (o : Option PartError) (state : Option DeliveryState) (x : Transfer) (payload : List ℕ) (s : State) → Takes s (started_unless o state x payload s).state
  started_by (Some part.DeliveryTagIsNone) state x payload s = closed_takes (codes "amqp:not-allowed") s
  started_by None state x payload s =
      takes_then s (entered x s) _ (entered_takes x s) (takes_then (entered x s) (stated state x (entered x s)) _ (stated_takes state x (entered x s)) (buffered_takes (join.begun x payload) (stated state x (entered x s))))
  started_by (Some other) state x payload s = closed_takes (codes "amqp:not-allowed") s

  continued_by : (c : Bool) (d : join.Incomplete) (state : Option DeliveryState) (s : State)
      → Takes s (if c then buffered d (stated state d.transfer (settled_if d.transfer (record s { buffer = None }))) else closes error.InconsistentFieldInMultiFrameDelivery s).state
  continued_by true d state s =
      let t : State = record s { buffer = None } in
      let u = settled_if d.transfer t in
      let v = stated state d.transfer u in
      via_takes s t _ refl refl (takes_then t u _ (settled_takes d.transfer t) (takes_then u v _ (stated_takes state d.transfer u) (buffered_takes d v)))
  continued_by false d state s = closed_takes (codes "amqp:not-allowed") s

  joined_takes : (o : Option join.Incomplete) (state : Option DeliveryState) (x : Transfer) (payload : List ℕ) (s : State) → Takes s (joined_to o state x payload s).state
  joined_takes None state x payload s = started_by (join.lacks x.delivery_id x.delivery_tag) state x payload s
  joined_takes (Some d) state x payload s = continued_by (join.agrees d.transfer x) (join.appended d x payload) state s

  whole_by : (c d : Bool) (size : ℕ) (x : Transfer) (payload : List ℕ) (s : State) → Takes s (if c then closes error.DeliveryTagIsNone s else (if d then too_large size s else joined_part x payload s)).state
  whole_by true d size x payload s = closed_takes (codes "amqp:not-allowed") s
  whole_by false true size x payload s = via_takes s (record s { buffer = None }) _ refl refl (closed_takes (codes "amqp:link:message-size-exceeded") (record s { buffer = None }))
  whole_by false false size x payload s = joined_takes s.buffer x.state (without_state x) payload s

  taken_by : (c d : Bool) (x : Transfer) (payload : List ℕ) (s : State) → Takes s (if c then aborted_at s.buffer x s else (if d then goes s else taken_whole x payload s)).state
  taken_by true d x payload s = aborted_takes s.buffer x s
  taken_by false true x payload s = same_incoming s s refl refl
  taken_by false false x payload s = whole_by (is_stray_state x s) (is_too_large (total x payload s) s.link.max_message_size) (total x payload s) x payload s

  pub taken_takes : (x : Transfer) (payload : List ℕ) (s : State) → Takes s (taken x payload s).state
  unfolding taken
  taken_takes x payload s = taken_by x.aborted (x.resume && not (belongs s.buffer x)) x payload s

  next_goes : (o : Option (Result Got RecvError)) (s t : State) (go : State → Step) → Goes s t → ((u : State) → Goes u (go u).state) → Goes s (next o t go).state
  next_goes None s t go a f = goes_then s t _ a (f t)
  next_goes (Some x) s t go a f = a

  pub receiving_goes : (xs : List Incoming) (s : State) → Goes s (receiving xs s).state
  receiving_goes [] s = record { keeps = k.same s.link s.link refl }
  receiving_goes (x ∷ xs) s =
      let u : State = record s { incoming = xs } in
      let t = taken x.transfer x.payload u in
      let a = taken_takes x.transfer x.payload u in
      next_goes t.answer s t.state (λ v. receiving xs v) (record { keeps = a.keeps }) (λ v. receiving_goes xs v)

  ended_goes : (o : Option LinkStateError) (s : State) → Goes s (ended_as o s).state
  ended_goes None s = record { keeps = k.same s.link s.link refl }
  ended_goes (Some e) s = record { keeps = k.same s.link s.link refl }

  received_by : (c : Bool) (s : State) → Goes s (if c then fails (error.LinkStateError IllegalState) s else (let t = receiving s.incoming s in next t.answer t.state ended)).state
  received_by true s = record { keeps = k.same s.link s.link refl }
  received_by false s =
      let t = receiving s.incoming s in
      next_goes t.answer s t.state ended (receiving_goes s.incoming s) (λ u. ended_goes (link.ended_by u.link.remote u.link.stop_reason) u)

  -- ---- what it says

  -- a receiver behind one that has the same link
  via : (s t u : State) → t.link ≡ s.link → waits_of t ≡ waits_of s → Stays t u → Stays s u
  via s t u e i a = stays_then s t u (same s t e i) a

  writing_keeps : (os : List Order) (l : Link) → R l (writing os l)
  writing_keeps [] l = k.same l l refl
  writing_keeps (o ∷ os) l = let m = link.saying (frame_for l.own.handle o) l in k.next l m (writing os m) (k.says (frame_for l.own.handle o) l) (writing_keeps os m)

  written_stays : (s : State) → Stays s (written s)
  written_stays s = record { keeps = writing_keeps s.book.orders s.link; waits = refl }

  undrained_link : (c : Bool) (s : State) → (if c then record s { is_draining = false } else s).link ≡ s.link
  undrained_link true s = refl
  undrained_link false s = refl

  undrained_waits : (c : Bool) (s : State) → waits_of (if c then record s { is_draining = false } else s) ≡ waits_of s
  undrained_waits true s = refl
  undrained_waits false s = refl

  in_book : (view : DisposerView) (infos : List DeliveryInfo) (state : DeliveryState) (s : State) → Stays s (disposing_in_book view infos state s)
  in_book view infos state s =
      let o = disposed_all s.book view infos state in
      let t : State = record s { book = o.book } in
      same s (disposing_in_book view infos state s) (undrained_link (is_refill o.reply) t) (undrained_waits (is_refill o.reply) t)

  disposing_stays : (o : Option IllegalLinkStateError) (view : DisposerView) (infos : List DeliveryInfo) (state : DeliveryState) (s : State) → Stays s (disposing_unless o view infos state s).state
  disposing_stays (Some e) view infos state s = same s s refl refl
  disposing_stays None view infos state s =
      let t = disposing_in_book view infos state s in stays_then s t (written t) (in_book view infos state s) (written_stays t)

  open_stays : (c : Bool) (s : State) → Stays s (if c then written s else unwritten s)
  open_stays true s = written_stays s
  open_stays false s = same s _ refl refl

  accept_stays : (c : Bool) (info : DeliveryInfo) (s : State) → Stays s (if c then accepted_at_once info s else s)
  accept_stays true info s =
      let t = disposing_in_book (view_of s.book s.link.own.handle) (info ∷ []) accepted s in
      stays_then s t _ (in_book (view_of s.book s.link.own.handle) (info ∷ []) accepted s) (open_stays (is_open t) t)
  accept_stays false info s = same s s refl refl

  credit_stays : (drain : Bool) (s : State) → Stays s (telling_credit drain s)
  credit_stays drain s = record { keeps = k.says _ s.link; waits = refl }

  giving_stays : (o : Option IllegalLinkStateError) (credit : ℕ) (s : State) → Stays s (giving_unless o credit s).state
  giving_stays (Some e) credit s = same s s refl refl
  giving_stays None credit s = record { keeps = k.says _ s.link; waits = refl }

  asks_stays : (c : Bool) (s : State) → Stays s (if c then s else telling_credit true (record s { is_draining = true }))
  asks_stays true s = same s s refl refl
  asks_stays false s = record { keeps = k.says _ s.link; waits = refl }

  drain_stays : (o : Option IllegalLinkStateError) (s : State) → Stays s (drained_unless o s).state
  drain_stays (Some e) s = same s s refl refl
  drain_stays None s =
      let t : State = record s { book = restarted s.book } in via s t _ refl refl (asks_stays t.is_draining t)

  told_stays : (o : Option IllegalLinkStateError) (s : State) → Stays s (told_unless o s).state
  told_stays (Some e) s = same s s refl refl
  told_stays None s = credit_stays false s

  first_stays : (mode : CreditMode) (s : State) → Stays s (giving_first mode s)
  first_stays Manual s = same s s refl refl
  first_stays (Auto credit) s = record { keeps = k.says _ s.link; waits = refl }

  pub opens_stays : (c : Bool) (count : Option ℕ) (s : State) → Stays s (opened_if c count s)
  opens_stays true count s =
      let t : State = record s { book = attached s.book (unwrap_or count 0); initial = unwrap_or count 0 } in via s t _ refl refl (first_stays s.book.credit_mode t)
  opens_stays false count s = same s s refl refl

  pub read_stays : (x : Attach) (s : State) → R s.link (link.attach_read x s.link) → Stays s (attach_read x s)
  read_stays x s r =
      let t : State = record s { link = link.attach_read x s.link } in
      stays_then s t _ (moved s (link.attach_read x s.link) r) (opens_stays (not s.link.is_made && (link.attach_read x s.link).is_made) x.initial_delivery_count t)

  drained_stays : (c : Bool) (o : Option ℕ) (s : State) → Stays s (drain_read c o s)
  drained_stays true (Some count) s = same s _ refl refl
  drained_stays true None s = same s s refl refl
  drained_stays false o s = same s s refl refl

  flow_stays : (p : LinkPhase) (x : Flow) (s : State) → Stays s (flow_in p x s)
  flow_stays phase.Attached x s = drained_stays x.drain x.delivery_count s
  flow_stays p x s = moved s (link.unexpected s.link) (k.unexpected s.link)

  transfer_goes : (p : LinkPhase) (x : Transfer) (payload : List ℕ) (s : State) → Goes s (transfer_in p x payload s)
  transfer_goes phase.Attached x payload s = record { keeps = k.same s.link s.link refl }
  transfer_goes p x payload s = record { keeps = k.unexpected s.link }

  disposition_stays : (x : CoveredDelivery) (settled : Bool) (s : State) → Stays s (disposition_read x settled s)
  disposition_stays x true s = same s _ refl refl
  disposition_stays x false s = same s s refl refl

  -- ---- each call, and each frame

  pub receives : (s : State) → Goes s (received s).state
  receives s = received_by s.link.is_closed s

  pub accepts_at_once : (info : DeliveryInfo) (s : State) → Stays s (auto_accepted info s)
  accepts_at_once info s = accept_stays s.auto_accept info s

  pub disposes : (infos : List DeliveryInfo) (state : DeliveryState) (s : State) → Stays s (disposed infos state s).state
  disposes infos state s = disposing_stays (link.disposal_refusal s.link) (view_of s.book s.link.own.handle) infos state s

  pub disposes_by : (view : DisposerView) (infos : List DeliveryInfo) (state : DeliveryState) (s : State) → Stays s (disposed_by view infos state s).state
  disposes_by view infos state s = disposing_stays (link.disposal_refusal s.link) view infos state s

  pub gives : (credit : ℕ) (s : State) → Stays s (credit_set credit s).state
  gives credit s = giving_stays (link.disposal_refusal s.link) credit s

  pub drains : (s : State) → Stays s (drain_asked s).state
  drains s = drain_stays (link.disposal_refusal s.link) s

  pub tells_properties : (s : State) → Stays s (properties_told s).state
  tells_properties s = told_stays (link.disposal_refusal s.link) s

  pub reads_flow : (x : Flow) (s : State) → Stays s (flow_read x s)
  reads_flow x s = flow_stays s.link.phase x s

  pub reads_transfer : (x : Transfer) (payload : List ℕ) (s : State) → Goes s (transfer_read x payload s)
  reads_transfer x payload s = transfer_goes s.link.phase x payload s

  pub reads_disposition : (x : CoveredDelivery) (settled : Bool) (s : State) → Stays s (disposition_read x settled s)
  reads_disposition x settled s = disposition_stays x settled s

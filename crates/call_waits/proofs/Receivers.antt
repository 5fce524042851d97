-- What a receiver keeps as it goes on.
use Rattle.std.specs.Prelude.{◌≡◌, ℕ, nat_lt, Bool, true, false, not, ◌&&◌, codes, unwrap_or, List, [], ◌∷◌, Option, Some, None, Result, if◌then◌else◌, refl}
use Rattle.std.proofs.Common.{sym, subst}
use Rattle.amqp_termini.specs.declared.state.DeliveryState.{DeliveryState}
use Rattle.amqp_performatives.specs.declared.attach.Attach.{Attach}
use Rattle.amqp_performatives.specs.declared.flow.Flow.{Flow}
use Rattle.amqp_performatives.specs.declared.transfer.Transfer.{Transfer}
use Rattle.amqp_frames.specs.declared.shared.CoveredDelivery.{CoveredDelivery}
use Rattle.amqp_parts.specs.Join as join
use Rattle.amqp_parts.specs.declared.incomplete.PartError.{PartError}
use Rattle.amqp_parts.specs.declared.incomplete.PartError.TheVariants as part
use Rattle.amqp_delivery.specs.Book.{attached, disposed_all, view_of, restarted}
use Rattle.amqp_delivery.specs.States.{accepted}
use Rattle.amqp_delivery.specs.declared.info.CreditMode.{CreditMode}
use Rattle.amqp_delivery.specs.declared.info.CreditMode.TheVariants.{Manual, Auto}
use Rattle.amqp_delivery.specs.declared.info.DeliveryInfo.{DeliveryInfo}
use Rattle.amqp_delivery.specs.declared.info.DisposerView.{DisposerView}
use Rattle.amqp_delivery.specs.declared.orders.Order.{Order}
use Rattle.amqp_delivery.specs.declared.orders.Order.TheVariants as asks
use Rattle.amqp_link.specs.declared.endpoint.LinkPhase.{LinkPhase}
use Rattle.amqp_link.specs.declared.endpoint.LinkPhase.TheVariants as phase
use Rattle.amqp_link.specs.declared.error.IllegalLinkStateError.{IllegalLinkStateError}
use Rattle.amqp_link.specs.declared.error.LinkStateError.{LinkStateError}
use Rattle.amqp_link.specs.declared.error.LinkStateError.TheVariants.{IllegalState}
use Rattle.amqp_link.specs.Link as link
use Rattle.amqp_link.specs.Link.{Link}
use Rattle.amqp_receiver.specs.declared.error.RecvError.{RecvError}
use Rattle.amqp_receiver.specs.declared.error.RecvError.TheVariants as error
use Rattle.amqp_receiver.specs.declared.receiver.Incoming.{Incoming}
use Rattle.amqp_receiver.specs.AutoAccept.{accepted_at_once, auto_accepted, is_open, unwritten}
use Rattle.amqp_receiver.specs.Disposing.{frame_for, writing, written, is_refill, disposing_in_book, disposing_unless, disposed, disposed_by}
use Rattle.amqp_receiver.specs.Receiver.{State, giving_first, opened_if, giving_unless, attach_read, transfer_in, transfer_read, drain_read, flow_in, flow_read, telling_credit, credit_set}
use Rattle.amqp_receiver.specs.Receiving.{Got, Step, goes, fails, closes, closed_for, forgotten, aborted_at, given_if, complete, buffered, stated, stated_at, entered, settled_if, started_unless, joined_to, without_state, total, too_large, is_stray_state, is_too_large, belongs, taken_whole, taken, next, receiving, ended_as, ended, received, disposition_read}
use Rattle.amqp_receiver.specs.Receiving.{joined as joined_part}
use Rattle.amqp_receiver.specs.Regulating.{drained_unless, drain_asked, told_unless, properties_told}
use Rattle.call_waits.proofs.Links.{Keeps, keeps_on, keeps_same, keeps_then, unexpected_keeps, attach_stays}
use Rattle.call_waits.proofs.Links as links

-- its link keeps what it has
pub record Stays (s t : State) : Type 0 where
  pub keeps : Keeps s.link t.link

same : (s t : State) → t.link ≡ s.link → Stays s t
same s t e = record { keeps = keeps_same s.link t.link e }

moved : (s : State) (l : Link) → Keeps s.link l → Stays s (record s { link = l })
moved s l k = record { keeps = k }

stays_then : (s t u : State) → Stays s t → Stays t u → Stays s u
stays_then s t u p q = record { keeps = keeps_then s.link t.link u.link p.keeps q.keeps }

-- ---- what waits is received

forgotten_stays : (o : Option (List ℕ)) (s : State) → Stays s (forgotten o s)
forgotten_stays None s = same s s refl
forgotten_stays (Some tag) s = same s _ refl

closing_stays : (p : LinkPhase) (l : Link) (condition : List ℕ)
    → Keeps (record l { phase = p }) (if link.is_attached p then link.closing (Some (record { condition = condition; description = None; info = None })) (record l { phase = p }) else record l { phase = p })
closing_stays phase.Attached l condition = record { stays = record { done = λ h. absurd cc; remote = refl; gone = refl; stop = refl }; awaits = λ h. absurd cc }
closing_stays p l condition = keeps_on (record l { phase = p })

closed_by : (c : Bool) (condition : List ℕ) (s : State) → (if c then record s { link = link.closing (Some (record { condition = condition; description = None; info = None })) s.link } else s).link
    ≡ (if c then link.closing (Some (record { condition = condition; description = None; info = None })) s.link else s.link)
closed_by true condition s = refl
closed_by false condition s = refl

closed_stays : (condition : List ℕ) (s : State) → Stays s (closed_for condition s)
closed_stays condition s = record { keeps = subst (λ l. Keeps s.link l) (sym (closed_by (link.is_attached s.link.phase) condition s)) (closing_stays s.link.phase s.link condition) }

-- a receiver behind one that has the same link
via : (s t u : State) → t.link ≡ s.link → Stays t u → Stays s u
via s t u e a = stays_then s t u (same s t e) a

aborted_by : (c : Bool) (tag : Option (List ℕ)) (s : State) → Stays s (if c then goes (forgotten tag (record s { buffer = None })) else closes error.InconsistentFieldInMultiFrameDelivery s).state
aborted_by true tag s = via s (record s { buffer = None }) _ refl (forgotten_stays tag (record s { buffer = None }))
aborted_by false tag s = closed_stays (codes "amqp:not-allowed") s

aborted_stays : (o : Option join.Incomplete) (x : Transfer) (s : State) → Stays s (aborted_at o x s).state
aborted_stays None x s = same s s refl
aborted_stays (Some k) x s = aborted_by (join.is_same_delivery k.transfer x) k.transfer.delivery_tag s

given_stays : (c : Bool) (x : Transfer) (payloads : List (List ℕ)) (s : State) → Stays s (given_if c x payloads s).state
given_stays true x payloads s = same s s refl
given_stays false x payloads s = forgotten_stays x.delivery_tag s

complete_by : (c d : Bool) (k : join.Incomplete) (s t : State) → Stays s t → Stays s (if c then fails error.IllegalRcvSettleModeInTransfer (forgotten k.transfer.delivery_tag s) else given_if d k.transfer k.payloads t).state
complete_by true d k s t a = forgotten_stays k.transfer.delivery_tag s
complete_by false d k s t a = stays_then s t _ a (given_stays d k.transfer k.payloads t)

complete_stays : (k : join.Incomplete) (s : State) → Stays s (complete k s).state
complete_stays k s = complete_by _ (nat_lt 0 s.book.credit) k s _ (same s _ refl)

buffered_by : (c : Bool) (k : join.Incomplete) (s : State) → Stays s (if c then goes (record s { buffer = Some k }) else complete k s).state
buffered_by true k s = same s _ refl
buffered_by false k s = complete_stays k s

buffered_stays : (k : join.Incomplete) (s : State) → Stays s (buffered k s).state
buffered_stays k s = buffered_by k.transfer.more k s

stated_by : (o : Option (List ℕ)) (state : DeliveryState) (s : State) → Stays s (stated_at o state s)
stated_by None state s = same s s refl
stated_by (Some tag) state s = same s _ refl

stated_stays : (o : Option DeliveryState) (x : Transfer) (s : State) → Stays s (stated o x s)
stated_stays None x s = same s s refl
stated_stays (Some state) x s = stated_by x.delivery_tag state s

entered_by : (c : Bool) (s t : State) → Stays s t → Stays s (if c then s else t)
entered_by true s t a = same s s refl
entered_by false s t a = a

entered_stays : (x : Transfer) (s : State) → Stays s (entered x s)
entered_stays x s = entered_by (unwrap_or x.settled false) s _ (same s _ refl)

settled_by : (c : Bool) (tag : Option (List ℕ)) (s : State) → Stays s (if c then forgotten tag s else s)
settled_by true tag s = forgotten_stays tag s
settled_by false tag s = same s s refl

settled_stays : (x : Transfer) (s : State) → Stays s (settled_if x s)
settled_stays x s = settled_by (unwrap_or x.settled false) x.delivery_tag s

started_by : (o : Option PartError) (state : Option DeliveryState) (x : Transfer) (payload : List ℕ) (s : State) → Stays s (started_unless o state x payload s).state
started_by (Some part.DeliveryTagIsNone) state x payload s = closed_stays (codes "amqp:not-allowed") s
started_by None state x payload s =
    stays_then s (entered x s) _ (entered_stays x s) (stays_then (entered x s) (stated state x (entered x s)) _ (stated_stays state x (entered x s)) (buffered_stays (join.begun x payload) (stated state x (entered x s))))
started_by (Some other) state x payload s = closed_stays (codes "amqp:not-allowed") s

continued_by : (c : Bool) (k : join.Incomplete) (state : Option DeliveryState) (s : State)
    → Stays s (if c then buffered k (stated state k.transfer (settled_if k.transfer (record s { buffer = None }))) else closes error.InconsistentFieldInMultiFrameDelivery s).state
continued_by true k state s =
    let t : State = record s { buffer = None } in
    let u = settled_if k.transfer t in
    let v = stated state k.transfer u in
    via s t _ refl (stays_then t u _ (settled_stays k.transfer t) (stays_then u v _ (stated_stays state k.transfer u) (buffered_stays k v)))
continued_by false k state s = closed_stays (codes "amqp:not-allowed") s

joined_stays : (o : Option join.Incomplete) (state : Option DeliveryState) (x : Transfer) (payload : List ℕ) (s : State) → Stays s (joined_to o state x payload s).state
joined_stays None state x payload s = started_by (join.lacks x.delivery_id x.delivery_tag) state x payload s
joined_stays (Some k) state x payload s = continued_by (join.agrees k.transfer x) (join.appended k x payload) state s

whole_by : (c d : Bool) (size : ℕ) (x : Transfer) (payload : List ℕ) (s : State) → Stays s (if c then closes error.DeliveryTagIsNone s else (if d then too_large size s else joined_part x payload s)).state
whole_by true d size x payload s = closed_stays (codes "amqp:not-allowed") s
whole_by false true size x payload s = via s (record s { buffer = None }) _ refl (closed_stays (codes "amqp:link:message-size-exceeded") (record s { buffer = None }))
whole_by false false size x payload s = joined_stays s.buffer x.state (without_state x) payload s

taken_by : (c d : Bool) (x : Transfer) (payload : List ℕ) (s : State) → Stays s (if c then aborted_at s.buffer x s else (if d then goes s else taken_whole x payload s)).state
taken_by true d x payload s = aborted_stays s.buffer x s
taken_by false true x payload s = same s s refl
taken_by false false x payload s = whole_by (is_stray_state x s) (is_too_large (total x payload s) s.link.max_message_size) (total x payload s) x payload s

taken_stays : (x : Transfer) (payload : List ℕ) (s : State) → Stays s (taken x payload s).state
unfolding taken
taken_stays x payload s = taken_by x.aborted (x.resume && not (belongs s.buffer x)) x payload s

next_stays : (o : Option (Result Got RecvError)) (s t : State) (go : State → Step) → Stays s t → ((u : State) → Stays u (go u).state) → Stays s (next o t go).state
next_stays None s t go a f = stays_then s t _ a (f t)
next_stays (Some x) s t go a f = a

pub receiving_stays : (xs : List Incoming) (s : State) → Stays s (receiving xs s).state
receiving_stays [] s = same s s refl
receiving_stays (x ∷ xs) s =
    let u : State = record s { incoming = xs } in
    let t = taken x.transfer x.payload u in
    next_stays t.answer s t.state (λ v. receiving xs v) (via s u t.state refl (taken_stays x.transfer x.payload u)) (λ v. receiving_stays xs v)

ended_stays : (o : Option LinkStateError) (s : State) → Stays s (ended_as o s).state
ended_stays None s = same s s refl
ended_stays (Some e) s = same s s refl

received_by : (c : Bool) (s : State) → Stays s (if c then fails (error.LinkStateError IllegalState) s else (let t = receiving s.incoming s in next t.answer t.state ended)).state
received_by true s = same s s refl
received_by false s =
    let t = receiving s.incoming s in
    next_stays t.answer s t.state ended (receiving_stays s.incoming s) (λ u. ended_stays (link.ended_by u.link.remote u.link.stop_reason) u)

received_stays : (s : State) → Stays s (received s).state
received_stays s = received_by s.link.is_closed s

-- ---- what it says

one_keeps : (handle : ℕ) (o : Order) (l : Link) → Keeps l (link.saying (frame_for handle o) l)
one_keeps handle (asks.Disposition first last settled state) l = record { stays = record { done = λ h. (h, refl, refl); remote = refl; gone = refl; stop = refl }; awaits = λ h. h }
one_keeps handle (asks.Flow count credit) l = record { stays = record { done = λ h. (h, refl, refl); remote = refl; gone = refl; stop = refl }; awaits = λ h. h }

writing_keeps : (os : List Order) (l : Link) → Keeps l (writing os l)
writing_keeps [] l = keeps_same l l refl
writing_keeps (o ∷ os) l = let m = link.saying (frame_for l.own.handle o) l in keeps_then l m (writing os m) (one_keeps l.own.handle o l) (writing_keeps os m)

written_stays : (s : State) → Stays s (written s)
written_stays s = record { keeps = writing_keeps s.book.orders s.link }

undrained_link : (c : Bool) (s : State) → (if c then record s { is_draining = false } else s).link ≡ s.link
undrained_link true s = refl
undrained_link false s = refl

in_book : (view : DisposerView) (infos : List DeliveryInfo) (state : DeliveryState) (s : State) → Stays s (disposing_in_book view infos state s)
in_book view infos state s =
    let o = disposed_all s.book view infos state in
    let t : State = record s { book = o.book } in
    same s (disposing_in_book view infos state s) (undrained_link (is_refill o.reply) t)

disposing_stays : (o : Option IllegalLinkStateError) (view : DisposerView) (infos : List DeliveryInfo) (state : DeliveryState) (s : State) → Stays s (disposing_unless o view infos state s).state
disposing_stays (Some e) view infos state s = same s s refl
disposing_stays None view infos state s =
    let t = disposing_in_book view infos state s in stays_then s t (written t) (in_book view infos state s) (written_stays t)

open_stays : (c : Bool) (s : State) → Stays s (if c then written s else unwritten s)
open_stays true s = written_stays s
open_stays false s = same s _ refl

accept_stays : (c : Bool) (info : DeliveryInfo) (s : State) → Stays s (if c then accepted_at_once info s else s)
accept_stays true info s =
    let t = disposing_in_book (view_of s.book s.link.own.handle) (info ∷ []) accepted s in
    stays_then s t _ (in_book (view_of s.book s.link.own.handle) (info ∷ []) accepted s) (open_stays (is_open t) t)
accept_stays false info s = same s s refl

credit_stays : (drain : Bool) (s : State) → Stays s (telling_credit drain s)
credit_stays drain s = record { keeps = record { stays = record { done = λ h. (h, refl, refl); remote = refl; gone = refl; stop = refl }; awaits = λ h. h } }

giving_stays : (o : Option IllegalLinkStateError) (credit : ℕ) (s : State) → Stays s (giving_unless o credit s).state
giving_stays (Some e) credit s = same s s refl
giving_stays None credit s = record { keeps = record { stays = record { done = λ h. (h, refl, refl); remote = refl; gone = refl; stop = refl }; awaits = λ h. h } }

asks_stays : (c : Bool) (s : State) → Stays s (if c then s else telling_credit true (record s { is_draining = true }))
asks_stays true s = same s s refl
asks_stays false s = record { keeps = record { stays = record { done = λ h. (h, refl, refl); remote = refl; gone = refl; stop = refl }; awaits = λ h. h } }

drain_stays : (o : Option IllegalLinkStateError) (s : State) → Stays s (drained_unless o s).state
drain_stays (Some e) s = same s s refl
drain_stays None s =
    let t : State = record s { book = restarted s.book } in via s t _ refl (asks_stays t.is_draining t)

told_stays : (o : Option IllegalLinkStateError) (s : State) → Stays s (told_unless o s).state
told_stays (Some e) s = same s s refl
told_stays None s = credit_stays false s

first_stays : (mode : CreditMode) (s : State) → Stays s (giving_first mode s)
first_stays Manual s = same s s refl
first_stays (Auto credit) s = record { keeps = record { stays = record { done = λ h. (h, refl, refl); remote = refl; gone = refl; stop = refl }; awaits = λ h. h } }

opens_stays : (c : Bool) (count : Option ℕ) (s : State) → Stays s (opened_if c count s)
opens_stays true count s =
    let t : State = record s { book = attached s.book (unwrap_or count 0); initial = unwrap_or count 0 } in via s t _ refl (first_stays s.book.credit_mode t)
opens_stays false count s = same s s refl

drained_stays : (c : Bool) (o : Option ℕ) (s : State) → Stays s (drain_read c o s)
drained_stays true (Some count) s = same s _ refl
drained_stays true None s = same s s refl
drained_stays false o s = same s s refl

flow_stays : (p : LinkPhase) (x : Flow) (s : State) → Stays s (flow_in p x s)
flow_stays phase.Attached x s = drained_stays x.drain x.delivery_count s
flow_stays p x s = moved s (link.unexpected s.link) (unexpected_keeps s.link)

transfer_stays : (p : LinkPhase) (x : Transfer) (payload : List ℕ) (s : State) → Stays s (transfer_in p x payload s)
transfer_stays phase.Attached x payload s = same s _ refl
transfer_stays p x payload s = moved s (link.unexpected s.link) (unexpected_keeps s.link)

disposition_stays : (x : CoveredDelivery) (settled : Bool) (s : State) → Stays s (disposition_read x settled s)
disposition_stays x true s = forgotten_stays (Some x.delivery_tag) s
disposition_stays x false s = same s s refl

-- ---- each of them

pub still : (s : State) → Stays s s
still s = same s s refl

pub same_link : (s t : State) → t.link ≡ s.link → Stays s t
same_link s t e = same s t e

pub receives_stays : (s : State) → Stays s (received s).state
receives_stays s = received_stays s

pub accepting_stays : (info : DeliveryInfo) (s : State) → Stays s (auto_accepted info (received s).state)
accepting_stays info s =
    let t = (received s).state in stays_then s t (auto_accepted info t) (received_stays s) (accept_stays t.auto_accept info t)

pub disposed_stays : (infos : List DeliveryInfo) (state : DeliveryState) (s : State) → Stays s (disposed infos state s).state
disposed_stays infos state s = disposing_stays (link.disposal_refusal s.link) (view_of s.book s.link.own.handle) infos state s

pub disposed_by_stays : (view : DisposerView) (infos : List DeliveryInfo) (state : DeliveryState) (s : State) → Stays s (disposed_by view infos state s).state
disposed_by_stays view infos state s = disposing_stays (link.disposal_refusal s.link) view infos state s

pub credit_set_stays : (credit : ℕ) (s : State) → Stays s (credit_set credit s).state
credit_set_stays credit s = giving_stays (link.disposal_refusal s.link) credit s

pub drain_asked_stays : (s : State) → Stays s (drain_asked s).state
drain_asked_stays s = drain_stays (link.disposal_refusal s.link) s

pub properties_stay : (s : State) → Stays s (properties_told s).state
properties_stay s = told_stays (link.disposal_refusal s.link) s

pub hears_flow : (x : Flow) (s : State) → Stays s (flow_read x s)
hears_flow x s = flow_stays s.link.phase x s

pub hears_transfer : (x : Transfer) (payload : List ℕ) (s : State) → Stays s (transfer_read x payload s)
hears_transfer x payload s = transfer_stays s.link.phase x payload s

pub hears_disposition : (x : CoveredDelivery) (settled : Bool) (s : State) → Stays s (disposition_read x settled s)
hears_disposition x settled s = disposition_stays x settled s

-- the peer's Attach was read
pub hears_attach : (x : Attach) (s : State) → links.Stays s.link (attach_read x s).link
hears_attach x s =
    let t : State = record s { link = link.attach_read x s.link } in
    let c : Bool = not s.link.is_made && (link.attach_read x s.link).is_made in
    links.stays_then s.link t.link (attach_read x s).link (attach_stays x s.link) (opens_stays c x.initial_delivery_count t).keeps.stays

-- a receiver that has just answered an Attach
pub opened_stays : (c : Bool) (count : Option ℕ) (s : State) → Stays s (opened_if c count s)
opened_stays c count s = opens_stays c count s

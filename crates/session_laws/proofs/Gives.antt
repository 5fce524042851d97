-- What a receiver writes of deliveries and of credit.
use Rattle.std.specs.Prelude.{◌≡◌, ◌⊎◌, ℕ, ◌+◌, ◌<◌, ◌≤◌, min, nat_eq, nat_lt, Bool, true, false, not, ◌==◌, ◌&&◌, List, [], ◌∷◌, ◌++◌, map, Option, Some, None, Result, Ok, Err, unwrap_or, codes, if◌then◌else◌, refl}
use Rattle.std.proofs.Common.{sym, ◌∙◌, subst, inl, inr, arith}
use Rattle.std.proofs.lemmas.Bool.{cases_lt}
use Rattle.std.proofs.lemmas.Bool.Decides.{nat_tests}
use Rattle.amqp_composites.specs.declared.modes.ReceiverSettleMode.{ReceiverSettleMode}
use Rattle.amqp_composites.specs.declared.modes.ReceiverSettleMode.TheVariants.{First, Second}
use Rattle.amqp_composites.specs.declared.modes.Role.{Role}
use Rattle.amqp_composites.specs.declared.modes.Role.TheVariants as role
use Rattle.amqp_termini.specs.declared.state.DeliveryState.{DeliveryState}
use Rattle.amqp_performatives.specs.declared.attach.Attach.{Attach}
use Rattle.amqp_performatives.specs.declared.disposition.Disposition.{Disposition}
use Rattle.amqp_performatives.specs.declared.flow.Flow.{Flow}
use Rattle.amqp_performatives.specs.declared.transfer.Transfer.{Transfer}
use Rattle.amqp_frames.specs.declared.body.FrameBody.{FrameBody}
use Rattle.amqp_frames.specs.declared.body.FrameBody.TheVariants as b
use Rattle.amqp_frames.specs.declared.shared.CoveredDelivery.{CoveredDelivery}
use Rattle.amqp_parts.specs.Join as join
use Rattle.amqp_parts.specs.declared.incomplete.PartError.{PartError}
use Rattle.amqp_parts.specs.declared.incomplete.PartError.TheVariants as part
use Rattle.amqp_delivery.specs.Book.{Book, Walk, closed, changed_at, processed_one, goes_on, same_mode, joined_at, joined, walked_at, walked, walk_all, refill_at, refill, disposed_all, view_of, found_in, mode_for, recorded_at}
use Rattle.amqp_delivery.specs.States.{accepted}
use Rattle.amqp_delivery.specs.declared.entry.Kept.{Kept}
use Rattle.amqp_delivery.specs.declared.info.CreditMode.{CreditMode}
use Rattle.amqp_delivery.specs.declared.info.CreditMode.TheVariants.{Manual, Auto}
use Rattle.amqp_delivery.specs.declared.info.DeliveryInfo.{DeliveryInfo}
use Rattle.amqp_delivery.specs.declared.info.DisposerView.{DisposerView}
use Rattle.amqp_delivery.specs.declared.orders.Order.{Order}
use Rattle.amqp_delivery.specs.declared.orders.Order.TheVariants as asks
use Rattle.amqp_delivery.specs.declared.run.Run.{Run}
use Rattle.amqp_link.specs.declared.endpoint.LinkPhase.{LinkPhase}
use Rattle.amqp_link.specs.declared.endpoint.LinkPhase.TheVariants as phase
use Rattle.amqp_link.specs.declared.error.IllegalLinkStateError.{IllegalLinkStateError}
use Rattle.amqp_link.specs.declared.error.LinkStateError.{LinkStateError}
use Rattle.amqp_link.specs.declared.error.LinkStateError.TheVariants.{IllegalState}
use Rattle.amqp_link.specs.Link as link
use Rattle.amqp_link.specs.Numbers.{link_flow}
use Rattle.amqp_link.specs.Link.{Link}
use Rattle.amqp_receiver.specs.declared.error.RecvError.{RecvError}
use Rattle.amqp_receiver.specs.declared.error.RecvError.TheVariants as error
use Rattle.amqp_receiver.specs.declared.receiver.Incoming.{Incoming}
use Rattle.amqp_receiver.specs.AutoAccept.{accepted_at_once, is_open, unwritten}
use Rattle.amqp_receiver.specs.Disposing.{last_of, frame_for, writing, written, is_refill, disposing_in_book, disposing_unless}
use Rattle.amqp_receiver.specs.Parting.{map_of, unsettled_of}
use Rattle.amqp_receiver.specs.Receiver.{State, giving_first, opened_if, giving_unless, attach_read, transfer_in, drain_read, flow_in, telling_credit}
use Rattle.amqp_receiver.specs.Receiving.{Got, Step, goes, fails, closes, closed_for, forgotten, aborted_at, given_if, complete, buffered, stated, stated_at, entered, settled_if, started_unless, joined_to, too_large, total, is_stray_state, taken_whole, taken, belongs, without_state, is_too_large, next, receiving, ended_as, ended, received, disposition_read}
use Rattle.amqp_receiver.specs.Receiving.{joined as joined_part}
use Rattle.amqp_receiver.specs.Regulating.{drained_unless, told_unless}
use Rattle.session_laws.specs.Receiving.{Move, receives, disposes, disposes_by, sets_credit, sets_credit_mode, sets_auto_accept, drains, tells_properties, polls, parts, abandons, reattaches, stays, hears_attach, hears_flow, hears_transfer, hears_disposition, hears_detach, stops, hands_over, given_behind, after, after_all}
use Rattle.session_laws.specs.Settling.{IsAmong}
use Rattle.session_laws.specs.Giving as giving
use Rattle.session_laws.specs.Giving.{Ruling, ruling_of, given_at_once, given_by, given, handed, handed_all, IsGiven, AllGiven, IsSilent, SaysWhatIsGiven}
use Rattle.session_laws.specs.Speaking.{by_receiver, ruling_in, rulings, flows}
use Rattle.session_laws.specs.Speaking.{flow_in as flow_said}
use Rattle.session_laws.specs.Crediting.{IsTold}
use Rattle.session_laws.proofs.Links.{is_quiet, AreQuiet, Adds, Moves, adds_one, adds_same, adds_then, unexpected_moves, attach_moves, detach_moves, polled_moves, parting_moves, abandoned_moves, unplaced_moves, reattached_moves, stopped_moves}
use Rattle.session_laws.proofs.Lists.{Each, each_both, each_first, each_last, each_all, among_first, among_last}

-- what holds of each Flow that says a delivery-count and a credit
abbrev pub Flows : (Flow → Type 0) → Type 0
Flows T = (x : Flow) → IsTold x → T x

-- and of each Disposition that says what was given
abbrev pub Given : List Ruling → (Disposition → Type 0) → Type 0
Given told D = (x : Disposition) → IsGiven told x → D x

abbrev pub Says : (Flow → Type 0) → (Disposition → Type 0) → FrameBody → Type 0
Says T D (b.Disposition x) = D x
Says T D (b.Flow x) = T x
Says T D other = Unit {0}

says_quiet : (T : Flow → Type 0) (f : Flows T) (told : List Ruling) (D : Disposition → Type 0) (g : Given told D) (x : FrameBody) → is_quiet x ≡ true → Says T D x
says_quiet T f told D g (b.Disposition x) h = absurd cc
says_quiet T f told D g (b.Flow x) h = absurd cc
says_quiet T f told D g other h = tt

each_quiet : (T : Flow → Type 0) (f : Flows T) (told : List Ruling) (D : Disposition → Type 0) (g : Given told D) (xs : List FrameBody) → AreQuiet xs → Each (Says T D) xs
each_quiet T f told D g [] h = tt
each_quiet T f told D g (x ∷ xs) h = (says_quiet T f told D g x h.0, each_quiet T f told D g xs h.1)

each_adds : (T : Flow → Type 0) (f : Flows T) (told : List Ruling) (D : Disposition → Type 0) (g : Given told D) (xs ys : List FrameBody) → Adds xs ys → Each (Says T D) xs → Each (Says T D) ys
each_adds T f told D g xs ys a h = subst (λ zs. Each (Says T D) zs) (sym a.all) (each_both (Says T D) xs a.more h (each_quiet T f told D g a.more a.quiet))

-- ---- the book

-- these numbers were given that state
record Range (told : List Ruling) (first last : ℕ) (state : DeliveryState) : Type 0 where
  order : first ≤ last
  each : (n : ℕ) → first ≤ n → n ≤ last → IsAmong (record { number = n; state = state }) told

abbrev Orders : List Ruling → Order → Type 0
Orders told (asks.Disposition first last settled state) = Range told first last state
Orders told (asks.Flow count credit) = Unit {0}

abbrev Runs : List Ruling → DeliveryState → Option Run → Type 0
Runs told state None = Unit {0}
Runs told state (Some r) = Range told r.first r.last state

record Walks (told : List Ruling) (state : DeliveryState) (w : Walk) : Type 0 where
  orders : Each (Orders told) w.book.orders
  run : Runs told state w.run

one_number : (first n : ℕ) → first ≤ n → n ≤ first → n ≡ first
one_number first n l m = omega arith

new_range : (told : List Ruling) (state : DeliveryState) (number : ℕ) → IsAmong (record { number = number; state = state }) told → Range told number number state
new_range told state number h = record {
  order = omega arith;
  each = λ n l m. subst (λ (i : ℕ). IsAmong (record { number = i; state = state }) told) (sym (one_number number n l m)) h;
}

or_last : (last number n : ℕ) → last + 1 ≡ number → n ≤ number → (n ≤ last) ⊎ (n ≡ number)
or_last last number n e m = by (cases_lt last n)
  where
    by : (last < n) ⊎ (n ≤ last) → (n ≤ last) ⊎ (n ≡ number)
    by (inl h) = inr (omega (arith, h, e, m))
    by (inr h) = inl h

longer_at : (told : List Ruling) (first last number : ℕ) (state : DeliveryState) (n : ℕ) → Range told first last state → IsAmong (record { number = number; state = state }) told → first ≤ n → (n ≤ last) ⊎ (n ≡ number) → IsAmong (record { number = n; state = state }) told
longer_at told first last number state n r h l (inl m) = r.each n l m
longer_at told first last number state n r h l (inr e) = subst (λ (i : ℕ). IsAmong (record { number = i; state = state }) told) (sym e) h

longer : (told : List Ruling) (first last number : ℕ) (state : DeliveryState) → last + 1 ≡ number → Range told first last state → IsAmong (record { number = number; state = state }) told → Range told first number state
longer told first last number state e r h =
    let o = r.order in
    record {
      order = omega (arith, o, e);
      each = λ n l m. longer_at told first last number state n r h l (or_last last number n e m);
    }

closed_orders : (told : List Ruling) (state : DeliveryState) (o : Option Run) (k : Book) → Runs told state o → Each (Orders told) k.orders → Each (Orders told) (closed o state k).orders
closed_orders told state None k r h = h
closed_orders told state (Some r) k q h = each_both (Orders told) k.orders _ h (q, tt)

both_true : (c d : Bool) → (c && d) ≡ true → d ≡ true
both_true true d h = h
both_true false d h = absurd cc

next_number : (last number : ℕ) → (last + 1 == number) ≡ true → last + 1 ≡ number
next_number last number h = grind (arith, nat_tests)

joined_walks : (told : List Ruling) (state : DeliveryState) (c : Bool) (r : Run) (k : Book) (mode : ReceiverSettleMode) (number found : ℕ) → goes_on r mode number ≡ c → Range told r.first r.last state
    → IsAmong (record { number = number; state = state }) told → Each (Orders told) k.orders → Walks told state (joined_at c r k mode number state found)
joined_walks told state true r k mode number found e q h o = record {
  orders = o;
  run = longer told r.first r.last number state (next_number r.last number (both_true (same_mode r.mode mode) (r.last + 1 == number) e)) q h;
}
joined_walks told state false r k mode number found e q h o = record { orders = closed_orders told state (Some r) k q o; run = new_range told state number h }

join_walks : (told : List Ruling) (state : DeliveryState) (o : Option Run) (k : Book) (mode : ReceiverSettleMode) (number found : ℕ) → Runs told state o → IsAmong (record { number = number; state = state }) told
    → Each (Orders told) k.orders → Walks told state (joined o k mode number state found)
join_walks told state None k mode number found r h o = record { orders = o; run = new_range told state number h }
join_walks told state (Some r) k mode number found q h o = joined_walks told state (goes_on r mode number) r k mode number found refl q h o

changed_orders : (mode : ReceiverSettleMode) (x : Kept) (k : Book) (tag : List ℕ) (state : DeliveryState) → (processed_one (changed_at mode x k tag state)).orders ≡ k.orders
changed_orders First x k tag state = refl
changed_orders Second x k tag state = refl

walked_walks : (told : List Ruling) (state : DeliveryState) (o : Option Kept) (mode : ReceiverSettleMode) (w : Walk) (info : DeliveryInfo) → IsAmong (ruling_of state info) told → Walks told state w → Walks told state (walked_at o mode w info state)
walked_walks told state None mode w info h k = record { orders = k.orders; run = k.run }
walked_walks told state (Some x) mode w info h k =
    join_walks told state w.run (processed_one (changed_at mode x w.book info.delivery_tag state)) mode info.delivery_id (min (w.found + 1) 4294967295) k.run h
    (subst (λ (os : List Order). Each (Orders told) os) (sym (changed_orders mode x w.book info.delivery_tag state)) k.orders)

walk_walks : (told : List Ruling) (state : DeliveryState) (view : DisposerView) (infos : List DeliveryInfo) (w : Walk) → Each (λ (r : Ruling). IsAmong r told) (map (ruling_of state) infos) → Walks told state w
    → Walks told state (walk_all view state w infos)
walk_walks told state view [] w h k = k
walk_walks told state view (info ∷ infos) w h k =
    walk_walks told state view infos (walked view state w info) h.1 (walked_walks told state (found_in w.book info.delivery_tag) (mode_for view info) w info h.0 k)

refill_orders : (told : List Ruling) (due current : Bool) (k : Book) (m found : ℕ) → Each (Orders told) k.orders → Each (Orders told) (refill_at due current k m found).book.orders
refill_orders told false current k m found h = h
refill_orders told true true k m found h = each_both (Orders told) k.orders _ h (tt, tt)
refill_orders told true false k m found h = h

refilled_orders : (told : List Ruling) (mode : CreditMode) (k : Book) (attachment found : ℕ) → Each (Orders told) k.orders → Each (Orders told) (refill mode k attachment found).book.orders
refilled_orders told Manual k attachment found h = h
refilled_orders told (Auto m) k attachment found h = refill_orders told _ (k.attachment == attachment) k m found h

none_ordered : (told : List Ruling) (xs : List Order) → xs ≡ [] → Each (Orders told) xs
none_ordered told xs h = subst (λ (os : List Order). Each (Orders told) os) (sym h) tt

book_orders : (told : List Ruling) (k : Book) (view : DisposerView) (infos : List DeliveryInfo) (state : DeliveryState) → k.orders ≡ [] → Each (λ (r : Ruling). IsAmong r told) (map (ruling_of state) infos)
    → Each (Orders told) (disposed_all k view infos state).book.orders
book_orders told k view infos state e h =
    let w : Walk = record { book = k; run = None; found = 0 } in
    let v = walk_all view state w infos in
    let q = walk_walks told state view infos w h (record { orders = none_ordered told k.orders e; run = tt }) in
    refilled_orders told view.credit_mode (closed v.run state v.book) view.attachment v.found (closed_orders told state v.run v.book q.run q.orders)

-- ---- what is written of it

last_is : (first last : ℕ) (c : Bool) → nat_eq first last ≡ c → unwrap_or (if c then None else Some last) first ≡ last
last_is first last true h = grind (arith, nat_tests)
last_is first last false h = refl

said_of : (T : Flow → Type 0) (f : Flows T) (told : List Ruling) (D : Disposition → Type 0) (g : Given told D) (handle : ℕ) (o : Order) → Orders told o → Says T D (frame_for handle o)
said_of T f told D g handle (asks.Disposition first last settled state) r =
    let e : unwrap_or (last_of first last) first ≡ last = last_is first last (nat_eq first last) refl in
    let x : Disposition = record { role = role.Receiver; first = first; last = last_of first last; settled = settled; state = Some state; batchable = false } in
    g x (record {
      state = state;
      says = refl;
      order = subst (λ (n : ℕ). first ≤ n) (sym e) r.order;
      each = λ n l m. r.each n l (subst (λ (i : ℕ). n ≤ i) e m);
    })
said_of T f told D g handle (asks.Flow count credit) r = f (link_flow handle count credit false) (record { count = count; credit = credit; says_count = refl; says_credit = refl })

writing_says : (T : Flow → Type 0) (f : Flows T) (told : List Ruling) (D : Disposition → Type 0) (g : Given told D) (os : List Order) (l : Link) → Each (Orders told) os → Each (Says T D) l.output → Each (Says T D) (writing os l).output
writing_says T f told D g [] l h k = k
writing_says T f told D g (o ∷ os) l h k = writing_says T f told D g os (link.saying (frame_for l.own.handle o) l) h.1 (each_both (Says T D) l.output _ k (said_of T f told D g l.own.handle o h.0, tt))

-- ---- a receiver

-- all that it has written and not handed over says so, and nothing is ordered
record Keeps (T : Flow → Type 0) (D : Disposition → Type 0) (s : State) : Type 0 where
  output : Each (Says T D) s.link.output
  orders : s.book.orders ≡ []

-- nothing is written but that a link is attached or detached, and nothing ordered
record Calm (s t : State) : Type 0 where
  adds : Adds s.link.output t.link.output
  orders : t.book.orders ≡ s.book.orders

calm : (s t : State) → t.link.output ≡ s.link.output → t.book.orders ≡ s.book.orders → Calm s t
calm s t o e = record { adds = adds_same s.link.output t.link.output o; orders = e }

calm_then : (s t u : State) → Calm s t → Calm t u → Calm s u
calm_then s t u a c = record { adds = adds_then s.link.output t.link.output u.link.output a.adds c.adds; orders = c.orders ∙ a.orders }

calm_keeps : (T : Flow → Type 0) (f : Flows T) (told : List Ruling) (D : Disposition → Type 0) (g : Given told D) (s t : State) → Calm s t → Keeps T D s → Keeps T D t
calm_keeps T f told D g s t a k = record { output = each_adds T f told D g s.link.output t.link.output a.adds k.output; orders = a.orders ∙ k.orders }

moved : (s : State) (l : Link) → Moves s.link l → Calm s (record s { link = l })
moved s l a = record { adds = a.adds; orders = refl }

forgotten_calm : (o : Option (List ℕ)) (s : State) → Calm s (forgotten o s)
forgotten_calm None s = calm s s refl refl
forgotten_calm (Some tag) s = calm s _ refl refl

closing_calm : (c : Bool) (condition : List ℕ) (s : State) → Calm s (if c then record s { link = link.closing (Some (record { condition = condition; description = None; info = None })) s.link } else s)
closing_calm true condition s = record { adds = adds_one s.link.output _ refl; orders = refl }
closing_calm false condition s = calm s s refl refl

closed_calm : (condition : List ℕ) (s : State) → Calm s (closed_for condition s)
closed_calm condition s = closing_calm (link.is_attached s.link.phase) condition s

-- a receiver behind one that is calm
via : (s t u : State) → t.link.output ≡ s.link.output → t.book.orders ≡ s.book.orders → Calm t u → Calm s u
via s t u o e a = calm_then s t u (calm s t o e) a

aborted_by : (c : Bool) (tag : Option (List ℕ)) (s : State) → Calm s (if c then goes (forgotten tag (record s { buffer = None })) else closes error.InconsistentFieldInMultiFrameDelivery s).state
aborted_by true tag s = via s (record s { buffer = None }) _ refl refl (forgotten_calm tag (record s { buffer = None }))
aborted_by false tag s = closed_calm (codes "amqp:not-allowed") s

aborted_calm : (o : Option join.Incomplete) (x : Transfer) (s : State) → Calm s (aborted_at o x s).state
aborted_calm None x s = calm s s refl refl
aborted_calm (Some k) x s = aborted_by (join.is_same_delivery k.transfer x) k.transfer.delivery_tag s

given_calm : (c : Bool) (x : Transfer) (payloads : List (List ℕ)) (s : State) → Calm s (given_if c x payloads s).state
given_calm true x payloads s = calm s s refl refl
given_calm false x payloads s = forgotten_calm x.delivery_tag s

complete_by : (c d : Bool) (k : join.Incomplete) (s t : State) → Calm s t → Calm s (if c then fails error.IllegalRcvSettleModeInTransfer (forgotten k.transfer.delivery_tag s) else given_if d k.transfer k.payloads t).state
complete_by true d k s t a = forgotten_calm k.transfer.delivery_tag s
complete_by false d k s t a = calm_then s t _ a (given_calm d k.transfer k.payloads t)

complete_calm : (k : join.Incomplete) (s : State) → Calm s (complete k s).state
complete_calm k s = complete_by _ (nat_lt 0 s.book.credit) k s _ (calm s _ refl refl)

buffered_by : (c : Bool) (k : join.Incomplete) (s : State) → Calm s (if c then goes (record s { buffer = Some k }) else complete k s).state
buffered_by true k s = calm s _ refl refl
buffered_by false k s = complete_calm k s

buffered_calm : (k : join.Incomplete) (s : State) → Calm s (buffered k s).state
buffered_calm k s = buffered_by k.transfer.more k s

recorded_calm : (o : Option Kept) (tag : List ℕ) (state : DeliveryState) (s : State) → Calm s (record s { book = recorded_at o s.book tag state })
recorded_calm None tag state s = calm s _ refl refl
recorded_calm (Some k) tag state s = calm s _ refl refl

stated_by : (o : Option (List ℕ)) (state : DeliveryState) (s : State) → Calm s (stated_at o state s)
stated_by None state s = calm s s refl refl
stated_by (Some tag) state s = recorded_calm (found_in s.book tag) tag state s

stated_calm : (o : Option DeliveryState) (x : Transfer) (s : State) → Calm s (stated o x s)
stated_calm None x s = calm s s refl refl
stated_calm (Some state) x s = stated_by x.delivery_tag state s

entered_by : (c : Bool) (s t : State) → Calm s t → Calm s (if c then s else t)
entered_by true s t a = calm s s refl refl
entered_by false s t a = a

entered_calm : (x : Transfer) (s : State) → Calm s (entered x s)
entered_calm x s = entered_by (unwrap_or x.settled false) s _ (calm s _ refl refl)

settled_by : (c : Bool) (tag : Option (List ℕ)) (s : State) → Calm s (if c then forgotten tag s else s)
settled_by true tag s = forgotten_calm tag s
settled_by false tag s = calm s s refl refl

settled_calm : (x : Transfer) (s : State) → Calm s (settled_if x s)
settled_calm x s = settled_by (unwrap_or x.settled false) x.delivery_tag s

started_by : (o : Option PartError) (state : Option DeliveryState) (x : Transfer) (payload : List ℕ) (s : State) → Calm s (started_unless o state x payload s).state
started_by (Some part.DeliveryTagIsNone) state x payload s = closed_calm (codes "amqp:not-allowed") s
started_by None state x payload s =
    calm_then s (entered x s) _ (entered_calm x s) (calm_then (entered x s) (stated state x (entered x s)) _ (stated_calm state x (entered x s)) (buffered_calm (join.begun x payload) (stated state x (entered x s))))
started_by (Some other) state x payload s = closed_calm (codes "amqp:not-allowed") s

continued_by : (c : Bool) (k : join.Incomplete) (state : Option DeliveryState) (s : State)
    → Calm s (if c then buffered k (stated state k.transfer (settled_if k.transfer (record s { buffer = None }))) else closes error.InconsistentFieldInMultiFrameDelivery s).state
continued_by true k state s =
    let t : State = record s { buffer = None } in
    let u = settled_if k.transfer t in
    let v = stated state k.transfer u in
    via s t _ refl refl (calm_then t u _ (settled_calm k.transfer t) (calm_then u v _ (stated_calm state k.transfer u) (buffered_calm k v)))
continued_by false k state s = closed_calm (codes "amqp:not-allowed") s

joined_calm : (o : Option join.Incomplete) (state : Option DeliveryState) (x : Transfer) (payload : List ℕ) (s : State) → Calm s (joined_to o state x payload s).state
joined_calm None state x payload s = started_by (join.lacks x.delivery_id x.delivery_tag) state x payload s
joined_calm (Some k) state x payload s = continued_by (join.agrees k.transfer x) (join.appended k x payload) state s

whole_by : (c d : Bool) (size : ℕ) (x : Transfer) (payload : List ℕ) (s : State) → Calm s (if c then closes error.DeliveryTagIsNone s else (if d then too_large size s else joined_part x payload s)).state
whole_by true d size x payload s = closed_calm (codes "amqp:not-allowed") s
whole_by false true size x payload s = via s (record s { buffer = None }) _ refl refl (closed_calm (codes "amqp:link:message-size-exceeded") (record s { buffer = None }))
whole_by false false size x payload s = joined_calm s.buffer x.state (without_state x) payload s

taken_by : (c d : Bool) (x : Transfer) (payload : List ℕ) (s : State) → Calm s (if c then aborted_at s.buffer x s else (if d then goes s else taken_whole x payload s)).state
taken_by true d x payload s = aborted_calm s.buffer x s
taken_by false true x payload s = calm s s refl refl
taken_by false false x payload s = whole_by (is_stray_state x s) (is_too_large (total x payload s) s.link.max_message_size) (total x payload s) x payload s

taken_calm : (x : Transfer) (payload : List ℕ) (s : State) → Calm s (taken x payload s).state
unfolding taken
taken_calm x payload s = taken_by x.aborted (x.resume && not (belongs s.buffer x)) x payload s

next_calm : (o : Option (Result Got RecvError)) (s t : State) (go : State → Step) → Calm s t → ((u : State) → Calm u (go u).state) → Calm s (next o t go).state
next_calm None s t go a f = calm_then s t _ a (f t)
next_calm (Some x) s t go a f = a

receiving_calm : (xs : List Incoming) (s : State) → Calm s (receiving xs s).state
receiving_calm [] s = calm s s refl refl
receiving_calm (x ∷ xs) s =
    let u : State = record s { incoming = xs } in
    let t = taken x.transfer x.payload u in
    next_calm t.answer s t.state (λ v. receiving xs v) (via s u t.state refl refl (taken_calm x.transfer x.payload u)) (λ v. receiving_calm xs v)

ended_calm : (o : Option LinkStateError) (s : State) → Calm s (ended_as o s).state
ended_calm None s = calm s s refl refl
ended_calm (Some e) s = calm s s refl refl

received_by : (c : Bool) (s : State) → Calm s (if c then fails (error.LinkStateError IllegalState) s else (let t = receiving s.incoming s in next t.answer t.state ended)).state
received_by true s = calm s s refl refl
received_by false s =
    let t = receiving s.incoming s in
    next_calm t.answer s t.state ended (receiving_calm s.incoming s) (λ u. ended_calm (link.ended_by u.link.remote u.link.stop_reason) u)

received_calm : (s : State) → Calm s (received s).state
received_calm s = received_by s.link.is_closed s

-- ---- what it gives

written_keeps : (T : Flow → Type 0) (f : Flows T) (told : List Ruling) (D : Disposition → Type 0) (g : Given told D) (s : State) → Each (Orders told) s.book.orders → Each (Says T D) s.link.output → Keeps T D (written s)
written_keeps T f told D g s h k = record { output = writing_says T f told D g s.book.orders s.link h k; orders = refl }

undrained_book : (c : Bool) (s : State) → (if c then record s { is_draining = false } else s).book ≡ s.book
undrained_book true s = refl
undrained_book false s = refl

undrained_link : (c : Bool) (s : State) → (if c then record s { is_draining = false } else s).link ≡ s.link
undrained_link true s = refl
undrained_link false s = refl

-- the book has ordered what is given
record Ordered (T : Flow → Type 0) (told : List Ruling) (D : Disposition → Type 0) (s : State) : Type 0 where
  orders : Each (Orders told) s.book.orders
  output : Each (Says T D) s.link.output

in_book : (T : Flow → Type 0) (f : Flows T) (told : List Ruling) (D : Disposition → Type 0) (g : Given told D) (view : DisposerView) (infos : List DeliveryInfo) (state : DeliveryState) (s : State) → Each (λ (r : Ruling). IsAmong r told) (map (ruling_of state) infos) → Keeps T D s
    → Ordered T told D (disposing_in_book view infos state s)
in_book T f told D g view infos state s h k =
    let o = disposed_all s.book view infos state in
    let t : State = record s { book = o.book } in
    record {
      orders = subst (λ (x : Book). Each (Orders told) x.orders) (sym (undrained_book (is_refill o.reply) t)) (book_orders told s.book view infos state k.orders h);
      output = subst (λ (l : Link). Each (Says T D) l.output) (sym (undrained_link (is_refill o.reply) t)) k.output;
    }

disposing_keeps : (T : Flow → Type 0) (f : Flows T) (told : List Ruling) (D : Disposition → Type 0) (g : Given told D) (o : Option IllegalLinkStateError) (view : DisposerView) (infos : List DeliveryInfo) (state : DeliveryState) (s : State) → Each (λ (r : Ruling). IsAmong r told) (map (ruling_of state) infos)
    → Keeps T D s → Keeps T D (disposing_unless o view infos state s).state
disposing_keeps T f told D g (Some e) view infos state s h k = k
disposing_keeps T f told D g None view infos state s h k =
    let q = in_book T f told D g view infos state s h k in written_keeps T f told D g (disposing_in_book view infos state s) q.orders q.output

open_keeps : (T : Flow → Type 0) (f : Flows T) (told : List Ruling) (D : Disposition → Type 0) (g : Given told D) (c : Bool) (s : State) → Ordered T told D s → Keeps T D (if c then written s else unwritten s)
open_keeps T f told D g true s q = written_keeps T f told D g s q.orders q.output
open_keeps T f told D g false s q = record { output = q.output; orders = refl }

accept_keeps : (T : Flow → Type 0) (f : Flows T) (told : List Ruling) (D : Disposition → Type 0) (g : Given told D) (c : Bool) (info : DeliveryInfo) (s : State) → (c ≡ true → IsAmong (ruling_of accepted info) told) → Keeps T D s → Keeps T D (if c then accepted_at_once info s else s)
accept_keeps T f told D g true info s h k =
    let t = disposing_in_book (view_of s.book s.link.own.handle) (info ∷ []) accepted s in
    open_keeps T f told D g (is_open t) t (in_book T f told D g (view_of s.book s.link.own.handle) (info ∷ []) accepted s (h refl, tt) k)
accept_keeps T f told D g false info s h k = k

accepts_now : (told : List Ruling) (c : Bool) (info : DeliveryInfo) (x : Got) → Each (λ (r : Ruling). IsAmong r told) (given_at_once true c (Some (Ok x))) → c ≡ true → IsAmong (ruling_of accepted x.info) told
accepts_now told true info x h e = h.0
accepts_now told false info x h e = absurd cc

behind_keeps : (T : Flow → Type 0) (f : Flows T) (told : List Ruling) (D : Disposition → Type 0) (g : Given told D) (spells : Bool) (o : Option (Result Got RecvError)) (s : State) → Each (λ (r : Ruling). IsAmong r told) (given_at_once spells s.auto_accept o) → Keeps T D s → Keeps T D (given_behind spells o s)
behind_keeps T f told D g true (Some (Ok x)) s h k = accept_keeps T f told D g s.auto_accept x.info s (accepts_now told s.auto_accept x.info x h) k
behind_keeps T f told D g true (Some (Err e)) s h k = k
behind_keeps T f told D g true None s h k = k
behind_keeps T f told D g false o s h k = k

-- a Flow is written
credit_keeps : (T : Flow → Type 0) (f : Flows T) (told : List Ruling) (D : Disposition → Type 0) (g : Given told D) (drain : Bool) (s : State) → Keeps T D s → Keeps T D (telling_credit drain s)
credit_keeps T f told D g drain s k = record {
  output = each_both (Says T D) s.link.output _ k.output (f (link_flow s.link.own.handle s.book.delivery_count s.book.credit drain) (record { count = s.book.delivery_count; credit = s.book.credit; says_count = refl; says_credit = refl }), tt);
  orders = k.orders;
}

giving_keeps : (T : Flow → Type 0) (f : Flows T) (told : List Ruling) (D : Disposition → Type 0) (g : Given told D) (o : Option IllegalLinkStateError) (credit : ℕ) (s : State) → Keeps T D s → Keeps T D (giving_unless o credit s).state
giving_keeps T f told D g (Some e) credit s k = k
giving_keeps T f told D g None credit s k = credit_keeps T f told D g false _ (record { output = k.output; orders = k.orders })

asks_keeps : (T : Flow → Type 0) (f : Flows T) (told : List Ruling) (D : Disposition → Type 0) (g : Given told D) (c : Bool) (s : State) → Keeps T D s → Keeps T D (if c then s else telling_credit true (record s { is_draining = true }))
asks_keeps T f told D g true s k = k
asks_keeps T f told D g false s k = credit_keeps T f told D g true _ (record { output = k.output; orders = k.orders })

drain_keeps : (T : Flow → Type 0) (f : Flows T) (told : List Ruling) (D : Disposition → Type 0) (g : Given told D) (o : Option IllegalLinkStateError) (s : State) → Keeps T D s → Keeps T D (drained_unless o s).state
drain_keeps T f told D g (Some e) s k = k
drain_keeps T f told D g None s k = asks_keeps T f told D g s.is_draining _ (record { output = k.output; orders = k.orders })

told_keeps : (T : Flow → Type 0) (f : Flows T) (told : List Ruling) (D : Disposition → Type 0) (g : Given told D) (o : Option IllegalLinkStateError) (s : State) → Keeps T D s → Keeps T D (told_unless o s).state
told_keeps T f told D g (Some e) s k = k
told_keeps T f told D g None s k = credit_keeps T f told D g false s k

first_keeps : (T : Flow → Type 0) (f : Flows T) (told : List Ruling) (D : Disposition → Type 0) (g : Given told D) (mode : CreditMode) (s : State) → Keeps T D s → Keeps T D (giving_first mode s)
first_keeps T f told D g Manual s k = k
first_keeps T f told D g (Auto credit) s k = credit_keeps T f told D g false _ (record { output = k.output; orders = k.orders })

opens_keeps : (T : Flow → Type 0) (f : Flows T) (told : List Ruling) (D : Disposition → Type 0) (g : Given told D) (c : Bool) (count : Option ℕ) (s : State) → Keeps T D s → Keeps T D (opened_if c count s)
opens_keeps T f told D g true count s k = first_keeps T f told D g s.book.credit_mode _ (record { output = k.output; orders = k.orders })
opens_keeps T f told D g false count s k = k

attach_keeps : (T : Flow → Type 0) (f : Flows T) (told : List Ruling) (D : Disposition → Type 0) (g : Given told D) (x : Attach) (s : State) → Keeps T D s → Keeps T D (attach_read x s)
attach_keeps T f told D g x s k =
    opens_keeps T f told D g (not s.link.is_made && (link.attach_read x s.link).is_made) x.initial_delivery_count (record s { link = link.attach_read x s.link })
    (calm_keeps T f told D g s _ (moved s (link.attach_read x s.link) (attach_moves s.link.phase x s.link)) k)

drains_calm : (c : Bool) (o : Option ℕ) (s : State) → Calm s (drain_read c o s)
drains_calm true (Some count) s = calm s _ refl refl
drains_calm true None s = calm s s refl refl
drains_calm false o s = calm s s refl refl

flow_calm : (p : LinkPhase) (x : Flow) (s : State) → Calm s (flow_in p x s)
flow_calm phase.Attached x s = drains_calm x.drain x.delivery_count s
flow_calm p x s = moved s _ (unexpected_moves s.link.phase s.link)

transfer_calm : (p : LinkPhase) (x : Transfer) (payload : List ℕ) (s : State) → Calm s (transfer_in p x payload s)
transfer_calm phase.Attached x payload s = calm s _ refl refl
transfer_calm p x payload s = moved s _ (unexpected_moves s.link.phase s.link)

disposition_calm : (x : CoveredDelivery) (settled : Bool) (s : State) → Calm s (disposition_read x settled s)
disposition_calm x true s = forgotten_calm (Some x.delivery_tag) s
disposition_calm x false s = calm s s refl refl

-- ---- over its life

-- what a move gives is among what was given
keeps : (T : Flow → Type 0) (f : Flows T) (told : List Ruling) (D : Disposition → Type 0) (g : Given told D) (s : State) (m : Move) → Each (λ (r : Ruling). IsAmong r told) (given_by s m) → Keeps T D s → Keeps T D (after s m)
keeps T f told D g s (receives spells) h k = behind_keeps T f told D g spells (received s).answer (received s).state h (calm_keeps T f told D g s (received s).state (received_calm s) k)
keeps T f told D g s (disposes infos state) h k = disposing_keeps T f told D g (link.disposal_refusal s.link) (view_of s.book s.link.own.handle) infos state s h k
keeps T f told D g s (disposes_by view infos state) h k = disposing_keeps T f told D g (link.disposal_refusal s.link) view infos state s h k
keeps T f told D g s (sets_credit credit) h k = giving_keeps T f told D g (link.disposal_refusal s.link) credit s k
keeps T f told D g s (sets_credit_mode mode) h k = record { output = k.output; orders = k.orders }
keeps T f told D g s (sets_auto_accept value) h k = record { output = k.output; orders = k.orders }
keeps T f told D g s drains h k = drain_keeps T f told D g (link.disposal_refusal s.link) s k
keeps T f told D g s tells_properties h k = told_keeps T f told D g (link.disposal_refusal s.link) s k
keeps T f told D g s polls h k = calm_keeps T f told D g s _ (moved s _ (polled_moves s.link)) k
keeps T f told D g s (parts closes error) h k = calm_keeps T f told D g s _ (moved s _ (parting_moves s.link.is_gone s.link.phase s.link.stop_reason closes error s.link)) k
keeps T f told D g s abandons h k = calm_keeps T f told D g s _ (moved s _ (abandoned_moves s.link.phase s.link.stop_reason s.link)) k
keeps T f told D g s (reattaches handle) h k = calm_keeps T f told D g s _ (moved s _ (reattached_moves handle (map_of (unsettled_of s)) None s.link)) k
keeps T f told D g s stays h k = calm_keeps T f told D g s _ (moved s _ (unplaced_moves s.link)) k
keeps T f told D g s (hears_attach x) h k = attach_keeps T f told D g x s k
keeps T f told D g s (hears_flow x) h k = calm_keeps T f told D g s _ (flow_calm s.link.phase x s) k
keeps T f told D g s (hears_transfer x payload) h k = calm_keeps T f told D g s _ (transfer_calm s.link.phase x payload s) k
keeps T f told D g s (hears_disposition covered settled) h k = calm_keeps T f told D g s _ (disposition_calm covered settled s) k
keeps T f told D g s (hears_detach d) h k = calm_keeps T f told D g s _ (moved s _ (detach_moves s.link.phase d s.link)) k
keeps T f told D g s (stops why) h k = calm_keeps T f told D g s _ (moved s _ (stopped_moves why s.link)) k
keeps T f told D g s hands_over h k = record { output = tt; orders = k.orders }

-- what is handed over was written before
hands : (T : Flow → Type 0) (f : Flows T) (told : List Ruling) (D : Disposition → Type 0) (g : Given told D) (s : State) (m : Move) → Keeps T D s → Each (Says T D) (handed s m)
hands T f told D g s hands_over k = k.output
hands T f told D g s other k = tt

says_all : (T : Flow → Type 0) (f : Flows T) (told : List Ruling) (D : Disposition → Type 0) (g : Given told D) (s : State) (ms : List Move) → Each (λ (r : Ruling). IsAmong r told) (given s ms) → Keeps T D s → (Each (Says T D) (handed_all s ms)) × Each (Says T D) (after_all s ms).link.output
says_all T f told D g s [] h k = (tt, k.output)
says_all T f told D g s (m ∷ ms) h k =
    let first = each_first (λ (r : Ruling). IsAmong r told) (given_by s m) (given (after s m) ms) h in
    let later = each_last (λ (r : Ruling). IsAmong r told) (given_by s m) (given (after s m) ms) h in
    let l = says_all T f told D g (after s m) ms later (keeps T f told D g s m first k) in
    (each_both (Says T D) (handed s m) (handed_all (after s m) ms) (hands T f told D g s m k) l.0, l.1)

-- ---- Dispositions

as_role : (told : List Ruling) (x : Disposition) (r : Role) → x.role ≡ r → (x.role ≡ role.Receiver → IsGiven told x) → AllGiven told (by_receiver r x)
as_role told x role.Receiver e h = (h e, tt)
as_role told x role.Sender e h = tt

-- a Disposition of a receiver says what was given
abbrev Rules : List Ruling → Disposition → Type 0
Rules told x = x.role ≡ role.Receiver → IsGiven told x

one_given : (T : Flow → Type 0) (told : List Ruling) (x : FrameBody) → Says T (Rules told) x → AllGiven told (ruling_in x)
one_given T told (b.Disposition x) h = as_role told x x.role refl h
one_given T told other h = tt

given_both : (told : List Ruling) (xs ys : List Disposition) → AllGiven told xs → AllGiven told ys → AllGiven told (xs ++ ys)
given_both told [] ys h k = k
given_both told (x ∷ xs) ys h k = (h.0, given_both told xs ys h.1 k)

all_given : (T : Flow → Type 0) (told : List Ruling) (xs : List FrameBody) → Each (Says T (Rules told)) xs → AllGiven told (rulings xs)
all_given T told [] h = tt
all_given T told (x ∷ xs) h = given_both told (ruling_in x) (rulings xs) (one_given T told x h.0) (all_given T told xs h.1)

-- at first no Disposition of a receiver is to be written
none_by : (P : Type 0) (x : Disposition) (xs : List Disposition) (r : Role) → r ≡ role.Receiver → by_receiver r x ++ xs ≡ [] → P
none_by P x xs role.Receiver e h = absurd cc
none_by P x xs role.Sender e h = absurd cc

one_unsaid : (T : Flow → Type 0) (told : List Ruling) (x : FrameBody) (xs : List Disposition) → ruling_in x ++ xs ≡ [] → ((y : Flow) → IsAmong y (flow_said x) → T y) → Says T (Rules told) x
one_unsaid T told (b.Disposition x) xs h f = λ e. none_by (IsGiven told x) x xs x.role e h
one_unsaid T told (b.Flow x) xs h f = f x (inl refl)
one_unsaid T told other xs h f = tt

rest_none : {X : Type 0} → (xs ys : List X) → xs ++ ys ≡ [] → ys ≡ []
rest_none [] ys h = h
rest_none (x ∷ xs) ys h = absurd cc

unsaid : (T : Flow → Type 0) (told : List Ruling) (xs : List FrameBody) → rulings xs ≡ [] → ((y : Flow) → IsAmong y (flows xs) → T y) → Each (Says T (Rules told)) xs
unsaid T told [] h f = tt
unsaid T told (x ∷ xs) h f =
    (one_unsaid T told x (rulings xs) h (λ y a. f y (among_first y (flow_said x) (flows xs) a)), unsaid T told xs (rest_none (ruling_in x) (rulings xs) h) (λ y a. f y (among_last y (flow_said x) (flows xs) a)))

-- whatever a receiver goes through
pub says_over_life : (T : Flow → Type 0) (f : Flows T) (told : List Ruling) (D : Disposition → Type 0) (g : Given told D) (s : State) (ms : List Move) → Each (λ (r : Ruling). IsAmong r told) (given s ms) → Each (Says T D) s.link.output → s.book.orders ≡ []
    → Each (Says T D) (giving.written s ms)
says_over_life T f told D g s ms h k o =
    let l = says_all T f told D g s ms h (record { output = k; orders = o }) in each_both (Says T D) (handed_all s ms) (after_all s ms).link.output l.0 l.1

-- a Flow may say anything
abbrev Any : Flow → Type 0
Any x = Unit {0}

pub says_given : (told : List Ruling) (s : State) (ms : List Move) → Each (λ (r : Ruling). IsAmong r told) (given s ms) → IsSilent s → AllGiven told (rulings (giving.written s ms))
says_given told s ms h k =
    all_given Any told (giving.written s ms) (says_over_life Any (λ x t. tt) told (Rules told) (λ x u e. u) s ms h (unsaid Any told s.link.output k.output (λ y a. tt)) k.orders)

pub says_what_is_given : SaysWhatIsGiven
says_what_is_given s ms k = says_given (given s ms) s ms (each_all (λ (r : Ruling). IsAmong r (given s ms)) (given s ms) (λ r a. a)) k

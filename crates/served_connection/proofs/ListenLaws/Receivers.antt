-- A receiver gives a delivery for a Transfer that has waited and ends one.
use Rattle.std.specs.Prelude.{◌≡◌, ◌≤◌, ◌+◌, ℕ, Bool, true, false, not, ◌&&◌, nat_lt, unwrap_or, List, [], ◌∷◌, ◌++◌, Option, Some, None, Result, Ok, Err, if◌then◌else◌, refl}
use Rattle.std.proofs.Common.{sym, ◌∙◌, ap, subst, arith}
use Rattle.amqp_composites.specs.declared.modes.ReceiverSettleMode.{ReceiverSettleMode}
use Rattle.amqp_termini.specs.declared.state.DeliveryState.{DeliveryState}
use Rattle.amqp_performatives.specs.declared.transfer.Transfer.{Transfer}
use Rattle.amqp_parts.specs.declared.incomplete.PartError.{PartError}
use Rattle.amqp_parts.specs.declared.incomplete.PartError.TheVariants as part
use Rattle.amqp_parts.specs.Join as parts
use Rattle.amqp_delivery.specs.Book.{registered, completed}
use Rattle.amqp_link.specs.declared.error.LinkStateError.{LinkStateError}
use Rattle.amqp_link.specs.declared.error.LinkStateError.TheVariants.{IllegalState}
use Rattle.amqp_link.specs.Link as link
use Rattle.amqp_receiver.specs.declared.error.RecvError.{RecvError}
use Rattle.amqp_receiver.specs.declared.error.RecvError.TheVariants as error
use Rattle.amqp_receiver.specs.declared.receiver.Incoming.{Incoming}
use Rattle.amqp_receiver.specs.Receiver.{State}
use Rattle.amqp_receiver.specs.Receiving.{Got, Step, goes, fails, closed_for, error_of, closes, info_of, forgotten, aborted_at, belongs, is_second, is_first, given_if, complete, buffered, stated_at, stated, entered, settled_if, started_unless, started, continued, joined_to, without_state, joined, total as size_of, too_large, is_too_large, is_stray_state, taken_whole, taken, next, receiving, ended_as, ended, received}
use Rattle.served_connection.specs.ListenLaws.Ended.{ends, end_of}
use Rattle.served_connection.proofs.ListenLaws.Totals.{total, total_nil, total_cons}
use Rattle.served_connection.proofs.ListenLaws.Weights.{of_waiting, of_receiver}

-- a delivery that is answered
abbrev pub gave : Option (Result Got RecvError) → ℕ
gave (Some (Ok x)) = 1
gave other = 0

-- a Transfer is taken: those that wait are the same, and where a delivery is answered it ends one
record Takes (x : Transfer) (s : State) (step : Step) : Type 0 where
  incoming : step.state.incoming ≡ s.incoming
  gives : gave step.answer ≤ end_of x

-- nothing is given
silent : (x : Transfer) (s : State) (step : Step) → step.state.incoming ≡ s.incoming → gave step.answer ≡ 0 → Takes x s step
silent x s step i g = record { incoming = i; gives = omega (arith, g) }

either : (P : Step → Type 0) (b : Bool) (t u : Step) → P t → P u → P (if b then t else u)
either P true t u p q = p
either P false t u p q = q

known : (P : Step → Type 0) (b : Bool) (t u : Step) → (b ≡ true → P t) → (b ≡ false → P u) → P (if b then t else u)
known P true t u p q = p refl
known P false t u p q = q refl

-- ---- what leaves those that wait as they are

same_if : (b : Bool) (s t u : State) → s.incoming ≡ u.incoming → t.incoming ≡ u.incoming → (if b then s else t).incoming ≡ u.incoming
same_if true s t u p q = p
same_if false s t u p q = q

forgotten_same : (o : Option (List ℕ)) (s : State) → (forgotten o s).incoming ≡ s.incoming
forgotten_same None s = refl
forgotten_same (Some tag) s = refl

closed_same : (condition : List ℕ) (s : State) → (closed_for condition s).incoming ≡ s.incoming
closed_same condition s = same_if (link.is_attached s.link.phase) (record s { link = link.closing (Some (error_of condition)) s.link }) s s refl refl

stated_at_same : (o : Option (List ℕ)) (x : DeliveryState) (s : State) → (stated_at o x s).incoming ≡ s.incoming
stated_at_same None x s = refl
stated_at_same (Some tag) x s = refl

stated_same : (o : Option DeliveryState) (x : Transfer) (s : State) → (stated o x s).incoming ≡ s.incoming
stated_same None x s = refl
stated_same (Some state) x s = stated_at_same x.delivery_tag state s

entered_same : (x : Transfer) (s : State) → (entered x s).incoming ≡ s.incoming
entered_same x s = same_if (unwrap_or x.settled false) s (record s { book = registered s.book (info_of x) }) s refl refl

settled_same : (x : Transfer) (s : State) → (settled_if x s).incoming ≡ s.incoming
settled_same x s = same_if (unwrap_or x.settled false) (forgotten x.delivery_tag s) s s (forgotten_same x.delivery_tag s) refl

-- ---- one Transfer

closes_takes : (x : Transfer) (e : RecvError) (s : State) → Takes x s (closes e s)
closes_takes x e s = silent x s (closes e s) (closed_same _ s) refl

aborted_takes : (o : Option parts.Incomplete) (x : Transfer) (s : State) → Takes x s (aborted_at o x s)
aborted_takes None x s = silent x s (goes s) refl refl
aborted_takes (Some b) x s =
    let t : State = record s { buffer = None } in
    either (Takes x s) (parts.is_same_delivery b.transfer x) (goes (forgotten b.transfer.delivery_tag t)) (closes error.InconsistentFieldInMultiFrameDelivery s)
    (silent x s (goes (forgotten b.transfer.delivery_tag t)) (forgotten_same b.transfer.delivery_tag t) refl) (closes_takes x error.InconsistentFieldInMultiFrameDelivery s)

-- it ends a delivery
ends_one : (x : Transfer) → x.aborted ≡ false → x.more ≡ false → end_of x ≡ 1
ends_one x a m = ap (λ (b : Bool). if not b && not x.aborted then 1 else 0) m ∙ ap (λ (b : Bool). if not false && not b then 1 else 0) a

given_takes : (b : Bool) (x y : Transfer) (payloads : List (List ℕ)) (s u : State) → end_of x ≡ 1 → u.incoming ≡ s.incoming → Takes x s (given_if b y payloads u)
given_takes true x y payloads s u e i = record { incoming = i; gives = omega (arith, e) }
given_takes false x y payloads s u e i = silent x s (given_if false y payloads u) (forgotten_same y.delivery_tag u ∙ i) refl

complete_takes : (x : Transfer) (b : parts.Incomplete) (s u : State) → end_of x ≡ 1 → u.incoming ≡ s.incoming → Takes x s (complete b u)
complete_takes x b s u e i =
    let v : State = record u { book = completed u.book } in
    let refused = fails error.IllegalRcvSettleModeInTransfer (forgotten b.transfer.delivery_tag u) in
    either (Takes x s) (is_second b.transfer.rcv_settle_mode && is_first u.book.mode) refused (given_if (nat_lt 0 u.book.credit) b.transfer b.payloads v)
    (silent x s refused (forgotten_same b.transfer.delivery_tag u ∙ i) refl) (given_takes (nat_lt 0 u.book.credit) x b.transfer b.payloads s v e i)

buffered_takes : (x : Transfer) (b : parts.Incomplete) (s u : State) → x.aborted ≡ false → b.transfer.more ≡ x.more → u.incoming ≡ s.incoming → Takes x s (buffered b u)
buffered_takes x b s u a m i =
    let v : State = record u { buffer = Some b } in
    known (Takes x s) b.transfer.more (goes v) (complete b u) (λ h. silent x s (goes v) i refl)
    (λ h. complete_takes x b s u (ends_one x a (sym m ∙ h)) i)

started_takes : (o : Option PartError) (state : Option DeliveryState) (x y : Transfer) (payload : List ℕ) (s : State) → x.aborted ≡ false → y.more ≡ x.more → Takes x s (started_unless o state y payload s)
started_takes (Some part.DeliveryTagIsNone) state x y payload s a m = closes_takes x error.DeliveryTagIsNone s
started_takes (Some other) state x y payload s a m = closes_takes x error.DeliveryIdIsNone s
started_takes None state x y payload s a m =
    buffered_takes x (parts.begun y payload) s (stated state y (entered y s)) a m (stated_same state y (entered y s) ∙ entered_same y s)

continued_takes : (b : parts.Incomplete) (state : Option DeliveryState) (x y : Transfer) (payload : List ℕ) (s : State) → x.aborted ≡ false → y.more ≡ x.more → Takes x s (continued b state y payload s)
continued_takes b state x y payload s a m =
    let c = parts.appended b y payload in
    let t : State = record s { buffer = None } in
    let u = settled_if c.transfer t in
    either (Takes x s) (parts.agrees b.transfer y) (buffered c (stated state c.transfer u)) (closes error.InconsistentFieldInMultiFrameDelivery s)
    (buffered_takes x c s (stated state c.transfer u) a m (stated_same state c.transfer u ∙ settled_same c.transfer t)) (closes_takes x error.InconsistentFieldInMultiFrameDelivery s)

joined_takes : (o : Option parts.Incomplete) (state : Option DeliveryState) (x y : Transfer) (payload : List ℕ) (s : State) → x.aborted ≡ false → y.more ≡ x.more → Takes x s (joined_to o state y payload s)
joined_takes None state x y payload s a m = started_takes (parts.lacks y.delivery_id y.delivery_tag) state x y payload s a m
joined_takes (Some b) state x y payload s a m = continued_takes b state x y payload s a m

whole_takes : (x : Transfer) (payload : List ℕ) (s : State) → x.aborted ≡ false → Takes x s (taken_whole x payload s)
whole_takes x payload s a =
    let n = size_of x payload s in
    let large = too_large n s in
    either (Takes x s) (is_stray_state x s) (closes error.DeliveryTagIsNone s) (if is_too_large n s.link.max_message_size then large else joined x payload s) (closes_takes x error.DeliveryTagIsNone s)
    (either (Takes x s) (is_too_large n s.link.max_message_size) large (joined x payload s) (silent x s large (closed_same _ (record s { buffer = None })) refl)
    (joined_takes s.buffer x.state x (without_state x) payload s a refl))

takes : (x : Transfer) (payload : List ℕ) (s : State) → Takes x s (taken x payload s)
unfolding taken
takes x payload s =
    known (Takes x s) x.aborted (aborted_at s.buffer x s) (if x.resume && not (belongs s.buffer x) then goes s else taken_whole x payload s) (λ h. aborted_takes s.buffer x s)
    (λ h. either (Takes x s) (x.resume && not (belongs s.buffer x)) (goes s) (taken_whole x payload s) (silent x s (goes s) refl refl) (whole_takes x payload s h))

-- those that wait stay as they are
pub waiting_same : (x : Transfer) (payload : List ℕ) (s : State) → (taken x payload s).state.incoming ≡ s.incoming
waiting_same x payload s = (takes x payload s).incoming

-- ---- those that wait

-- of those that wait so many are left, and a delivery that is answered was the end of one
abbrev Falls : Step → ℕ → Type 0
Falls step n = gave step.answer + of_receiver step.state ≤ n

next_falls : (a : Option (Result Got RecvError)) (t : State) (go : State → Step) (n m : ℕ) → gave a + of_receiver t ≤ n → m ≤ n → (gave a ≡ 0 → Falls (go t) m) → Falls (next a t go) n
next_falls None t go n m h le f = let g : gave (go t).answer + of_receiver (go t).state ≤ m = f refl in omega (arith, g, le)
next_falls (Some a) t go n m h le f = h

receiving_falls : (xs : List Incoming) (s : State) → s.incoming ≡ xs → Falls (receiving xs s) (total of_waiting xs)
receiving_falls [] s e = let same : of_receiver s ≡ total of_waiting [] = ap (total of_waiting) e in omega (arith, same)
receiving_falls (x ∷ xs) s e =
    let v : State = record s { incoming = xs } in
    let t = taken x.transfer x.payload v in
    let k : Takes x.transfer v t = takes x.transfer x.payload v in
    let same : of_receiver t.state ≡ total of_waiting xs = ap (total of_waiting) k.incoming in
    let all : total of_waiting (x ∷ xs) ≡ end_of x.transfer + total of_waiting xs = total_cons of_waiting x xs in
    let gives : gave t.answer ≤ end_of x.transfer = k.gives in
    next_falls t.answer t.state (λ u. receiving xs u) (total of_waiting (x ∷ xs)) (total of_waiting xs) (omega (arith, same, all, gives)) (omega (arith, all)) (λ g. receiving_falls xs t.state k.incoming)

ended_falls : (o : Option LinkStateError) (s : State) → Falls (ended_as o s) (of_receiver s)
ended_falls None s = omega arith
ended_falls (Some e) s = omega arith

received_by : (closed : Bool) (s : State) → Falls (if closed then fails (error.LinkStateError IllegalState) s else (let t = receiving s.incoming s in next t.answer t.state ended)) (of_receiver s)
received_by true s = omega arith
received_by false s =
    let t = receiving s.incoming s in
    let k : gave t.answer + of_receiver t.state ≤ of_receiver s = receiving_falls s.incoming s refl in
    next_falls t.answer t.state ended (of_receiver s) (of_receiver t.state) k (omega (arith, k)) (λ g. ended_falls (link.ended_by t.state.link.remote t.state.link.stop_reason) t.state)

-- a call that receives
pub received_falls : (s : State) → gave (received s).answer + of_receiver (received s).state ≤ of_receiver s
received_falls s = received_by s.link.is_closed s

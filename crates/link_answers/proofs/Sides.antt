-- What one end of a link stands for, as a frame is read and as a call is made.
use Rattle.std.specs.Prelude.{◌≡◌, ◌⊎◌, ◌&&◌, ℕ, Bool, true, false, is_some, zero, suc, length, slice_get, slice_set, ◌<◌, Contains, List, [], ◌∷◌, ◌++◌, Option, Some, None, Result, Ok, Err, if◌then◌else◌, refl}
use Rattle.std.proofs.Common.{inl, inr, sym, ◌∙◌, ap, arith, subst}
use Rattle.std.proofs.lemmas.List.{length-map, get_or-map}
use Rattle.std.proofs.lemmas.List.Elements.{Contains-append_right, Contains-push}
use Rattle.amqp_composites.specs.declared.error.Error.{Error as AmqpError}
use Rattle.amqp_delivery.specs.declared.info.DeliveryInfo.{DeliveryInfo}
use Rattle.amqp_delivery.specs.declared.info.DisposerView.{DisposerView}
use Rattle.amqp_frames.specs.declared.body.FrameBody.{FrameBody}
use Rattle.amqp_frames.specs.declared.body.FrameBody.TheVariants as b
use Rattle.amqp_frames.specs.declared.shared.CoveredDelivery.{CoveredDelivery}
use Rattle.amqp_link.specs.declared.endpoint.LinkPhase.{LinkPhase}
use Rattle.amqp_link.specs.declared.endpoint.LinkPhase.TheVariants as phase
use Rattle.amqp_link.specs.declared.error.IllegalLinkStateError.{IllegalLinkStateError}
use Rattle.amqp_link.specs.Link as link
use Rattle.amqp_link.specs.Link.{Link}
use Rattle.amqp_link.specs.Parting as parting
use Rattle.amqp_link_calls.specs.Calling.{sends, token_of, having_received, having_told, disposes, sets_credit}
use Rattle.amqp_link_calls.specs.Disposers.{disposes_by}
use Rattle.amqp_link_calls.specs.Leaving.{closes, closed_unless, credit_taken, receiver_closed, closed_side}
use Rattle.amqp_link_calls.specs.Regulating.{regulating, regulates}
use Rattle.amqp_link_calls.specs.Replies.{sent_token, terminal_of}
use Rattle.amqp_link_calls.specs.Side as side
use Rattle.amqp_link_calls.specs.Side.{Side, Sender, Receiver, link_of, role_of}
use Rattle.amqp_link_words.specs.declared.link_call.Disposal.{Disposal}
use Rattle.amqp_link_words.specs.declared.link_call.Sendable.{Sendable}
use Rattle.amqp_link_words.specs.declared.link_reply.LinkReply.{LinkReply}
use Rattle.amqp_link_words.specs.declared.link_reply.LinkReply.TheVariants as reply
use Rattle.amqp_link_words.specs.declared.regulation.Regulation.{Regulation}
use Rattle.amqp_link_words.specs.declared.regulation.Regulation.TheVariants as regulation
use Rattle.amqp_parts.specs.Join.{Incomplete}
use Rattle.amqp_performatives.specs.declared.attach.Attach.{Attach}
use Rattle.amqp_performatives.specs.declared.detach.Detach.{Detach}
use Rattle.amqp_performatives.specs.declared.flow.Flow.{Flow}
use Rattle.amqp_performatives.specs.declared.transfer.Transfer.{Transfer}
use Rattle.amqp_receiver.specs.declared.receiver.Incoming.{Incoming}
use Rattle.amqp_receiver.specs.Receiver.{State as ReceiverState}
use Rattle.amqp_receiver.specs.Receiver as receiver
use Rattle.amqp_receiver.specs.Receiving as receiving
use Rattle.amqp_sender.specs.declared.sender.DeliveryToken.{DeliveryToken}
use Rattle.amqp_sender.specs.declared.error.SendError.{SendError}
use Rattle.amqp_sender.specs.declared.sender.SendReply.{SendReply}
use Rattle.amqp_sender.specs.declared.sender.SendReply.TheVariants.{Sent, Pending}
use Rattle.amqp_sender.specs.declared.sender.Settlement.{Settlement}
use Rattle.amqp_sender.specs.declared.sender.Settlement.TheVariants.{Settled}
use Rattle.amqp_sender.specs.Sender.{State as SenderState}
use Rattle.amqp_sender.specs.Sending.{Made, sending, sent, is_settled, first_settlement, transfer_for, flow_in, flow_read, drained, credit_by}
use Rattle.amqp_sender.specs.Settling.{settlement_of, is_terminal, is_second, place_of, settled, settled_at, outcome_read, echoed}
use Rattle.amqp_sender.specs.Settling as settling
use Rattle.amqp_termini.specs.declared.outcome.Outcome.{Outcome}
use Rattle.amqp_termini.specs.declared.outcome.Outcome.TheVariants.{Accepted}
use Rattle.amqp_termini.specs.declared.state.DeliveryState.{DeliveryState}
use Rattle.amqp_termini.specs.TerminalState.{state_of_terminal}
use Rattle.session_laws.proofs.Sends.{sending_cases}
use Rattle.link_answers.specs.Standing.{Given, Written, HasWritten, IsAnswered, IsDetached, Carries, IsSettled, IsRuled, OutcomeStands}
use Rattle.link_answers.specs.Keeping.{OutcomesStand, WaitStands}
use Rattle.link_answers.proofs.Answers.{outcome_wider}
use Rattle.link_answers.proofs.Links.{under, Wider, wider_more, Turn, turn_same, turn_then, saying_turn, unexpected_turn, closing_turn, attach_turn, detach_turn, polled_turn, parting_turn, abandoned_turn, reattached_turn}
use Rattle.link_answers.proofs.Joining.{waits_still}
use Rattle.link_answers.proofs.Receivers.{Steps, Goes, Stays, waits_of, goes_then, goes_on, stays_then, moved, receives, accepts_at_once, gives, drains, tells_properties, reads_flow, reads_transfer, reads_disposition, read_stays}
use Rattle.link_answers.proofs.Receivers as receivers

-- what waits at one end of a link
abbrev pub waits_in : Side → List Incoming × Option Incomplete
waits_in (Sender s) = ([], None)
waits_in (Receiver s) = waits_of s

-- a frame of that kind is among these
abbrev pub HasSaid : (FrameBody → Type 0) → List FrameBody → Type 0
HasSaid Kind xs = (x : FrameBody) × (Kind x × Contains xs x)

contains_under : (n session : ℕ) (xs : List FrameBody) (x : FrameBody) → Contains xs x → Contains (under n session xs) (n, (session, x))
contains_under n session xs x k =
    let f : FrameBody → Written = λ (y : FrameBody). (n, (session, y)) in
    let long : length (under n session xs) ≡ length xs = length-map xs f in
    let within : k.0 < length (under n session xs) = omega (arith, k.1, long) in
    (k.0, within, get_or-map f xs k.0 x (n, (session, x)) k.1 ∙ ap f k.2)

-- what was said is out
pub said_written : (Kind : FrameBody → Type 0) (n session : ℕ) (w : List Written) (xs : List FrameBody) → HasSaid Kind xs → HasWritten Kind n (w ++ under n session xs)
said_written Kind n session w xs k = (session, (k.0, (k.1.0, Contains-append_right w (under n session xs) (n, (session, k.0)) (contains_under n session xs k.0 k.1.1))))

-- ---- what becomes of messages

pub outcomes_wider : (g : Given) (n : ℕ) (w v : List Written) (a : Side) → Wider w v → OutcomesStand g w n a → OutcomesStand g v n a
outcomes_wider g n w v (Sender s) f k = λ place x h. outcome_wider g w v n x f (k place x h)
outcomes_wider g n w v (Receiver s) f k = k

-- a sender knows as much as before
pub same_outcomes : (g : Given) (n : ℕ) (s t : SenderState) (w v : List Written) → t.settlements ≡ s.settlements → OutcomesStand g w n (Sender s) → OutcomesStand g (w ++ v) n (Sender t)
same_outcomes g n s t w v e k = λ place x h. outcome_wider g w (w ++ v) n x (wider_more w v) (k place x (ap (λ (ys : List Settlement). slice_get ys place) (sym e) ∙ h))

-- of what a Disposition says it is known that it was read
abbrev pub Ruled : Given → Option DeliveryState → Type 0
Ruled g d = (x : Outcome) → settlement_of d ≡ Settled x → IsRuled g x

get_set : {X : Type 0} → (xs : List X) (i j : ℕ) (y z : X) → slice_get (slice_set xs i y) j ≡ Some z → (y ≡ z) ⊎ (slice_get xs j ≡ Some z)
get_set [] zero j y z h = inr h
get_set [] (suc i) j y z h = inr h
get_set (x ∷ xs) zero zero y z h = (let e : y ≡ z = cc in inl e)
get_set (x ∷ xs) zero (suc j) y z h = inr h
get_set (x ∷ xs) (suc i) zero y z h = inr h
get_set (x ∷ xs) (suc i) (suc j) y z h = get_set xs i j y z h

get_last : {X : Type 0} → (xs : List X) (y z : X) (i : ℕ) → slice_get (xs ++ y ∷ []) i ≡ Some z → (y ≡ z) ⊎ (slice_get xs i ≡ Some z)
get_last [] y z zero h = (let e : y ≡ z = cc in inl e)
get_last [] y z (suc i) h = inr h
get_last (x ∷ xs) y z zero h = inr h
get_last (x ∷ xs) y z (suc i) h = get_last xs y z i h

settled_outcomes : (g : Given) (n : ℕ) (o : Option ℕ) (tag : List ℕ) (d : Option DeliveryState) (s : SenderState) (w : List Written) → Ruled g d → OutcomesStand g w n (Sender s) → OutcomesStand g w n (Sender (settled_at o tag (settlement_of d) s))
settled_outcomes g n None tag d s w r k = k
settled_outcomes g n (Some i) tag d s w r k = λ place x h. by x (get_set s.settlements i place (settlement_of d) (Settled x) h) (k place x)
  where
    by : (x : Outcome) {p : Type 0} → (settlement_of d ≡ Settled x) ⊎ p → (p → OutcomeStands g w n x) → OutcomeStands g w n x
    by x (inl e) f = inr (r x e)
    by x (inr e) f = f e

echoed_outcomes : (g : Given) (n : ℕ) (c : Bool) (number : ℕ) (d : Option DeliveryState) (s : SenderState) (w : List Written) → OutcomesStand g w n (Sender s) → OutcomesStand g w n (Sender (echoed c number d s))
echoed_outcomes g n true number d s w k = k
echoed_outcomes g n false number d s w k = k

read_outcomes : (g : Given) (n : ℕ) (c : Bool) (covered : CoveredDelivery) (d : Option DeliveryState) (s : SenderState) (w : List Written) → Ruled g d → OutcomesStand g w n (Sender s) → OutcomesStand g w n (Sender (outcome_read c covered d s))
read_outcomes g n false covered d s w r k = k
read_outcomes g n true covered d s w r k =
    let t : SenderState = settled covered.delivery_tag (settlement_of d) s in
    echoed_outcomes g n (is_some s.link.stop_reason) covered.delivery_id d t w (settled_outcomes g n (place_of covered.delivery_tag s) covered.delivery_tag d s w r k)

disposition_outcomes : (g : Given) (n : ℕ) (covered : CoveredDelivery) (c : Bool) (d : Option DeliveryState) (s : SenderState) (w : List Written) → Ruled g d → OutcomesStand g w n (Sender s) → OutcomesStand g w n (Sender (settling.disposition_read covered c d s))
disposition_outcomes g n covered true d s w r k = settled_outcomes g n (place_of covered.delivery_tag s) covered.delivery_tag d s w r k
disposition_outcomes g n covered false d s w r k = read_outcomes g n (is_second s.link.own.rcv_settle_mode && is_terminal d && is_some (place_of covered.delivery_tag s)) covered d s w r k

-- a message that is sent settled is accepted
sent_outcomes : (g : Given) (n session : ℕ) (payload : List ℕ) (c batchable : Bool) (s : SenderState) (w : List Written) (more : List FrameBody) → (c ≡ true → HasSaid IsSettled more) → OutcomesStand g w n (Sender s)
    → OutcomesStand g (w ++ under n session more) n (Sender (sent payload 0 c batchable s))
sent_outcomes g n session payload c batchable s w more said k = λ place x h. by c x said (get_last s.settlements (first_settlement c) (Settled x) place h) (λ e. outcome_wider g w (w ++ under n session more) n x (wider_more w (under n session more)) (k place x e))
  where
    by : (c : Bool) (x : Outcome) {p : Type 0} → (c ≡ true → HasSaid IsSettled more) → (first_settlement c ≡ Settled x) ⊎ p → (p → OutcomeStands g (w ++ under n session more) n x) → OutcomeStands g (w ++ under n session more) n x
    by true x f (inl e) old = (let same : Accepted (record {}) ≡ x = cc in inl (sym same, said_written IsSettled n session w more (f refl)))
    by false x f (inl e) old = absurd cc
    by c x f (inr e) old = old e

module _ (g : Given) (n session : ℕ) where
  -- its link goes on, and it stays what it is
  pub record Changes (a c : Side) : Type 0 where
    pub turn : Turn g n session (link_of a) (link_of c)
    pub role : role_of c ≡ role_of a
    pub outcomes : (w : List Written) → OutcomesStand g w n a → OutcomesStand g (w ++ under n session turn.more) n c

  pub changes_same : (a : Side) → Changes a a
  changes_same a =
      let t = turn_same g n session (link_of a) (link_of a) refl in
      record { turn = t; role = refl; outcomes = λ w k. outcomes_wider g n w (w ++ under n session t.more) a (wider_more w (under n session t.more)) k }

  abbrev pub sender_goes : (s t : SenderState) → Turn g n session s.link t.link → t.settlements ≡ s.settlements → Changes (Sender s) (Sender t)
  sender_goes s t k e = record { turn = k; role = refl; outcomes = λ w h. same_outcomes g n s t w (under n session k.more) e h }

  abbrev pub receiver_turns : (s t : ReceiverState) → Turn g n session s.link t.link → waits_of t ≡ waits_of s → Changes (Receiver s) (Receiver t)
  receiver_turns s t k i = record { turn = k; role = refl; outcomes = λ w h. subst (λ (x : List Incoming × Option Incomplete). WaitStands g n g.read x.0 x.1) (sym i) h }

  pub linked : (a : Side) (m : Link) → Turn g n session (link_of a) m → Changes a (side.with_link m a)
  linked (Sender s) m t = sender_goes s (record s { link = m }) t refl
  linked (Receiver s) m t = receiver_turns s (record s { link = m }) t refl

  pub steps : Steps (Turn g n session)
  steps = record {
    same = turn_same g n session;
    next = turn_then g n session;
    says = saying_turn g n session;
    closes = closing_turn g n session;
    unexpected = unexpected_turn g n session;
  }

  receiver_goes : (s t : ReceiverState) → Stays (Turn g n session) steps s t → Changes (Receiver s) (Receiver t)
  receiver_goes s t k = receiver_turns s t k.keeps k.waits

  -- ---- what is read

  pub polled_changes : (a : Side) → Changes a (side.polled a)
  polled_changes a = linked a (link.polled (link_of a)).link (polled_turn g n session (link_of a))

  pub attach_changes : (x : Attach) (a : Side) → IsAnswered g n → Changes a (side.attach_read x a)
  attach_changes x (Sender s) k = sender_goes s _ (attach_turn g n session x s.link k) refl
  attach_changes x (Receiver s) k = receiver_goes s (receiver.attach_read x s) (read_stays (Turn g n session) steps x s (attach_turn g n session x s.link k))

  drains_turn : (c : Bool) (s t : SenderState) → t.link ≡ s.link → Turn g n session s.link (if c then drained t else t).link
  drains_turn true s t e = turn_then g n session s.link t.link (drained t).link (turn_same g n session s.link t.link e) (saying_turn g n session _ t.link)
  drains_turn false s t e = turn_same g n session s.link t.link e

  flow_turn : (p : LinkPhase) (x : Flow) (s : SenderState) → Turn g n session s.link (flow_in p x s).link
  flow_turn phase.Attached x s = drains_turn x.drain s (record s { credit = credit_by x s }) refl
  flow_turn p x s = unexpected_turn g n session s.link

  credited_settlements : (c : Bool) (s t : SenderState) → t.settlements ≡ s.settlements → (if c then drained t else t).settlements ≡ s.settlements
  credited_settlements true s t e = e
  credited_settlements false s t e = e

  flow_settlements : (p : LinkPhase) (x : Flow) (s : SenderState) → (flow_in p x s).settlements ≡ s.settlements
  flow_settlements phase.Attached x s = credited_settlements x.drain s (record s { credit = credit_by x s }) refl
  flow_settlements p x s = refl

  pub flow_changes : (x : Flow) (a : Side) → Changes a (side.flow_read x a)
  flow_changes x (Sender s) = sender_goes s (flow_read x s) (flow_turn s.link.phase x s) (flow_settlements s.link.phase x s)
  flow_changes x (Receiver s) = receiver_goes s (receiver.flow_read x s) (reads_flow (Turn g n session) steps x s)

  handed_stand : (p : LinkPhase) (x : Transfer) (payload : List ℕ) (s : ReceiverState) → WaitStands g n g.read (s.incoming ++ record { transfer = x; payload = payload } ∷ []) s.buffer → WaitStands g n g.read s.incoming s.buffer
      → WaitStands g n g.read (receiver.transfer_in p x payload s).incoming (receiver.transfer_in p x payload s).buffer
  handed_stand phase.Attached x payload s h k = h
  handed_stand p x payload s h k = k

  pub transfer_changes : (x : Transfer) (payload : List ℕ) (a : Side) → WaitStands g n g.read ((waits_in a).0 ++ record { transfer = x; payload = payload } ∷ []) (waits_in a).1 → Changes a (side.transfer_read x payload a)
  transfer_changes x payload (Sender s) h = sender_goes s _ (unexpected_turn g n session s.link) refl
  transfer_changes x payload (Receiver s) h =
      let a = reads_transfer (Turn g n session) steps x payload s in record { turn = a.keeps; role = refl; outcomes = λ w k. handed_stand s.link.phase x payload s h k }

  pub detach_changes : (d : Detach) (a : Side) → IsDetached (λ x. x ≡ d) g n → Changes a (side.detach_read d a)
  detach_changes d a k = linked a (link.detach_read d (link_of a)) (detach_turn g n session d k (link_of a))

  settles_turn : (o : Option ℕ) (tag : List ℕ) (x : Settlement) (s : SenderState) → Turn g n session s.link (settled_at o tag x s).link
  settles_turn None tag x s = turn_same g n session s.link s.link refl
  settles_turn (Some place) tag x s = turn_same g n session s.link s.link refl

  echoes_turn : (c : Bool) (number : ℕ) (x : Option DeliveryState) (s : SenderState) → Turn g n session s.link (echoed c number x s).link
  echoes_turn true number x s = turn_same g n session s.link s.link refl
  echoes_turn false number x s = saying_turn g n session _ s.link

  outcome_turn : (c : Bool) (covered : CoveredDelivery) (x : Option DeliveryState) (s : SenderState) → Turn g n session s.link (outcome_read c covered x s).link
  outcome_turn false covered x s = turn_same g n session s.link s.link refl
  outcome_turn true covered x s =
      let t : SenderState = settled covered.delivery_tag (settlement_of x) s in
      turn_then g n session s.link t.link _ (settles_turn (place_of covered.delivery_tag s) covered.delivery_tag (settlement_of x) s) (echoes_turn (is_some s.link.stop_reason) covered.delivery_id x t)

  disposition_turn : (covered : CoveredDelivery) (c : Bool) (x : Option DeliveryState) (s : SenderState) → Turn g n session s.link (settling.disposition_read covered c x s).link
  disposition_turn covered true x s = settles_turn (place_of covered.delivery_tag s) covered.delivery_tag (settlement_of x) s
  disposition_turn covered false x s = outcome_turn (is_second s.link.own.rcv_settle_mode && is_terminal x && is_some (place_of covered.delivery_tag s)) covered x s

  pub sender_disposition : (covered : CoveredDelivery) (c : Bool) (x : Option DeliveryState) (s : SenderState) → Ruled g x → Changes (Sender s) (Sender (settling.disposition_read covered c x s))
  sender_disposition covered c x s r =
      let t = disposition_turn covered c x s in
      record {
        turn = t;
        role = refl;
        outcomes = λ w k. outcomes_wider g n w (w ++ under n session t.more) (Sender (settling.disposition_read covered c x s)) (wider_more w (under n session t.more)) (disposition_outcomes g n covered c x s w r k);
      }

  pub receiver_disposition : (covered : CoveredDelivery) (c : Bool) (s : ReceiverState) → Changes (Receiver s) (Receiver (receiving.disposition_read covered c s))
  receiver_disposition covered c s = receiver_goes s (receiving.disposition_read covered c s) (reads_disposition (Turn g n session) steps covered c s)

  -- ---- how it is left

  pub parts_changes : (c : Bool) (x : Option AmqpError) (a : Side) → Changes a (side.parts c x a).side
  parts_changes c x a = linked a (parting.parting c x (link_of a)).link (parting_turn g n session c x (link_of a))

  pub abandoned_changes : (a : Side) → Changes a (side.abandoned a)
  abandoned_changes a = linked a (parting.abandoned (link_of a)) (abandoned_turn g n session (link_of a))

  pub reattached_changes : (handle : ℕ) (a : Side) → parting.wants_handle (link_of a).phase ≡ true → Changes a (side.reattached handle a)
  reattached_changes handle (Sender s) h = sender_goes s _ (reattached_turn g n session handle _ _ s.link h) refl
  reattached_changes handle (Receiver s) h = receiver_turns s _ (reattached_turn g n session handle _ _ s.link h) refl

  parted_receiver : (x : Option AmqpError) (s : ReceiverState) → Turn g n session s.link (closes x s).state.link
  parted_receiver x s = parting_turn g n session true x s.link

  unless_turn : (e : Option IllegalLinkStateError) (x : AmqpError) (s t : ReceiverState) → Turn g n session s.link t.link → Turn g n session s.link (closed_unless e x t).state.link
  unless_turn (Some e) x s t k = k
  unless_turn None x s t k = turn_then g n session s.link t.link _ k (parted_receiver (Some x) t)

  receiver_turn : (x : Option AmqpError) (s : ReceiverState) → Turn g n session s.link (receiver_closed x s).state.link
  receiver_turn None s = parted_receiver None s
  receiver_turn (Some x) s = unless_turn (credit_taken s).answer x s (credit_taken s).state (gives (Turn g n session) steps 0 s).keeps

  closed_waits : (e : Option IllegalLinkStateError) (x : AmqpError) (s t : ReceiverState) → waits_of t ≡ waits_of s → waits_of (closed_unless e x t).state ≡ waits_of s
  closed_waits (Some e) x s t i = i
  closed_waits None x s t i = i

  pub receiver_waits : (x : Option AmqpError) (s : ReceiverState) → waits_of (receiver_closed x s).state ≡ waits_of s
  receiver_waits None s = refl
  receiver_waits (Some x) s = closed_waits (credit_taken s).answer x s (credit_taken s).state (gives (Turn g n session) steps 0 s).waits

  pub closed_changes : (x : Option AmqpError) (a : Side) → Changes a (closed_side x a).side
  closed_changes x (Sender s) = parts_changes true x (Sender s)
  closed_changes x (Receiver s) = receiver_turns s _ (receiver_turn x s) (receiver_waits x s)

  -- ---- calls

  -- what is sent is said
  record SendsWell (x : Sendable) (s : SenderState) (m : Made) : Type 0 where
    turn : Turn g n session s.link m.state.link
    carries : (token : DeliveryToken) → m.answer ≡ Ok (Sent token) → HasSaid (Carries x.payload) turn.more
    outcomes : (w : List Written) → OutcomesStand g w n (Sender s) → OutcomesStand g (w ++ under n session turn.more) n (Sender m.state)

  unsent : (x : Sendable) (s : SenderState) (r : Result SendReply SendError) → ((token : DeliveryToken) → r ≡ Ok (Sent token) → ⊥) → SendsWell x s (record { state = s; answer = r })
  unsent x s r f =
      let t = turn_same g n session s.link s.link refl in
      record { turn = t; carries = λ token h. absurd (f token h); outcomes = λ w k. same_outcomes g n s s w (under n session t.more) refl k }

  sent_well : (x : Sendable) (s : SenderState) (c : Bool) (r : Result SendReply SendError) → SendsWell x s (record { state = sent x.payload 0 c x.batchable s; answer = r })
  sent_well x s c r =
      let y : FrameBody = b.Transfer (transfer_for s 0 c x.batchable) x.payload in
      record {
        turn = saying_turn g n session y s.link;
        carries = λ token e. (y, (refl, Contains-push [] y));
        outcomes = λ w k. sent_outcomes g n session x.payload c x.batchable s w (y ∷ []) (λ e. (y, (ap Some e, Contains-push [] y))) k;
      }

  sending_well : (x : Sendable) (s : SenderState) → SendsWell x s (sending x.payload 0 x.settled x.batchable s)
  sending_well x s =
      sending_cases (λ (m : Made). SendsWell x s m) x.payload 0 x.settled x.batchable s (λ e. unsent x s (Err e) (λ token h. cc)) (unsent x s (Ok Pending) (λ token h. cc))
      (λ c h. sent_well x s (is_settled s.link.own.snd_settle_mode x.settled) _)

  pub record Sends (x : Sendable) (a : Side) : Type 0 where
    pub changes : Changes a (sends x a).side
    pub carries : (token : DeliveryToken) → token_of x a ≡ Some token → HasSaid (Carries x.payload) changes.turn.more

  token_answer : (r : Result SendReply SendError) (token : DeliveryToken) → sent_token r ≡ Some token → r ≡ Ok (Sent token)
  token_answer (Ok (Sent other)) token h = let s : other ≡ token = cc in ap (λ (t : DeliveryToken). Ok (Sent t)) s
  token_answer (Ok Pending) token h = absurd cc
  token_answer (Err e) token h = absurd cc

  pub sends_changes : (x : Sendable) (a : Side) → Sends x a
  sends_changes x (Sender s) =
      let r = sending_well x s in
      record { changes = record { turn = r.turn; role = refl; outcomes = r.outcomes }; carries = λ token h. r.carries token (token_answer (sending x.payload 0 x.settled x.batchable s).answer token h) }
  sends_changes x (Receiver s) = record { changes = changes_same (Receiver s); carries = λ token h. absurd cc }

  pub disposes_changes : (x : Disposal) (infos : List DeliveryInfo) (a : Side) → Changes a (disposes x infos a).side
  disposes_changes x infos (Sender s) = changes_same (Sender s)
  disposes_changes x infos (Receiver s) = receiver_goes s _ (receivers.disposes (Turn g n session) steps infos (state_of_terminal (terminal_of x)) s)

  pub disposes_by_changes : (view : DisposerView) (x : Disposal) (infos : List DeliveryInfo) (a : Side) → Changes a (disposes_by view x infos a).side
  disposes_by_changes view x infos (Sender s) = changes_same (Sender s)
  disposes_by_changes view x infos (Receiver s) = receiver_goes s _ (receivers.disposes_by (Turn g n session) steps view infos (state_of_terminal (terminal_of x)) s)

  pub credit_changes : (credit : ℕ) (a : Side) → Changes a (sets_credit credit a).side
  credit_changes credit (Sender s) = changes_same (Sender s)
  credit_changes credit (Receiver s) = receiver_goes s _ (gives (Turn g n session) steps credit s)

  regulating_changes : (x : Regulation) (s : ReceiverState) → Changes (Receiver s) (Receiver (regulating x s).state)
  regulating_changes (regulation.CreditMode mode) s = receiver_turns s _ (turn_same g n session s.link s.link refl) refl
  regulating_changes (regulation.AutoAccept value) s = receiver_turns s _ (turn_same g n session s.link s.link refl) refl
  regulating_changes regulation.Drain s = receiver_goes s _ (drains (Turn g n session) steps s)
  regulating_changes regulation.Properties s = receiver_goes s _ (tells_properties (Turn g n session) steps s)

  pub regulates_changes : (x : Regulation) (a : Side) → Changes a (regulates x a).side
  regulates_changes x (Sender s) = changes_same (Sender s)
  regulates_changes x (Receiver s) = regulating_changes x s

  told_goes : (answer : LinkReply) (s : ReceiverState) → Goes (Turn g n session) steps s (having_told answer s)
  told_goes (reply.Delivery info message) s =
      let t = (receiving.received s).state in
      goes_then (Turn g n session) steps s t _ (receives (Turn g n session) steps s) (goes_on (Turn g n session) steps t _ (accepts_at_once (Turn g n session) steps info t))
  told_goes answer s = receives (Turn g n session) steps s

  told_waits : (answer : LinkReply) (s : ReceiverState) → WaitStands g n g.read s.incoming s.buffer → WaitStands g n g.read (having_told answer s).incoming (having_told answer s).buffer
  told_waits (reply.Delivery info message) s k =
      let t = (receiving.received s).state in
      let a = accepts_at_once (Turn g n session) steps info t in
      subst (λ (x : List Incoming × Option Incomplete). WaitStands g n g.read x.0 x.1) (sym a.waits) (waits_still g n g.read s k)
  told_waits answer s k = waits_still g n g.read s k

  pub received_changes : (answer : LinkReply) (a : Side) → Changes a (having_received answer a)
  received_changes answer (Sender s) = changes_same (Sender s)
  received_changes answer (Receiver s) =
      let a = told_goes answer s in record { turn = a.keeps; role = refl; outcomes = λ w k. told_waits answer s k }

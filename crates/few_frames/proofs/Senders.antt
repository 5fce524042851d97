-- What each move of a sender makes it write.
use Rattle.std.specs.Prelude.{◌≡◌, ℕ, ◌+◌, ◌-◌, ◌<◌, ◌≤◌, Bool, true, false, nat_lt, min, is_some, ◌&&◌, get_or, slice_set, position, swap_remove, List, [], ◌∷◌, ◌++◌, length, Option, Some, None, Err, if◌then◌else◌, refl}
use Rattle.std.proofs.Common.{sym, ◌∙◌, ap, append-nil, append_assoc, subst, arith}
use Rattle.std.proofs.lemmas.List.{length-append, length-take, length-set}
use Rattle.std.specs.Str.{bytes_eq}
use Rattle.std.specs.Map.{lookup, keys_of}
use Rattle.indexmap.specs.IndexMap.{insert_entry, swap_remove_entry}
use Rattle.indexmap.proofs.MapLemmas.{Found-position, Missing-position, swap_remove_entry-found}
use Rattle.amqp_composites.specs.declared.modes.Role.TheVariants as role
use Rattle.amqp_termini.specs.declared.state.DeliveryState.{DeliveryState}
use Rattle.amqp_performatives.specs.declared.detach.Detach.{Detach}
use Rattle.amqp_performatives.specs.declared.flow.Flow.{Flow}
use Rattle.amqp_frames.specs.declared.body.FrameBody.{FrameBody}
use Rattle.amqp_frames.specs.declared.body.FrameBody.TheVariants as b
use Rattle.amqp_frames.specs.declared.shared.CoveredDelivery.{CoveredDelivery}
use Rattle.amqp_link.specs.declared.endpoint.LinkPhase.{LinkPhase}
use Rattle.amqp_link.specs.declared.endpoint.LinkPhase.TheVariants as phase
use Rattle.amqp_link.specs.declared.error.DetachError.TheVariants.{IllegalState}
use Rattle.amqp_link.specs.declared.error.LinkStateError.{LinkStateError}
use Rattle.amqp_link.specs.Link as link
use Rattle.amqp_sender.specs.declared.error.SendError.TheVariants as error
use Rattle.amqp_sender.specs.declared.sender.Settlement.{Settlement}
use Rattle.amqp_sender.specs.Sender.{State}
use Rattle.amqp_sender.specs.Sending.{tells, sending, sending_unless, sending_with, is_settled, is_too_large, flow_in, drained, credit_by, tag_of}
use Rattle.amqp_sender.specs.Sending.{sent as having_sent}
use Rattle.amqp_sender.specs.Settling.{settlement_of, place_of, settled, settled_at, outcome_read, echoed, disposition_read, is_second, is_terminal}
use Rattle.session_laws.specs.Sending.{Move, sends, polls, parts, abandons, reattaches, stays, hears_attach, hears_flow, hears_transfer, hears_disposition, hears_detach, stops, hands_over, after, after_all, handed, handed_all, written}
use Rattle.few_frames.specs.Kinds.{AsksNone, AskNone, Each, one_if}
use Rattle.few_frames.specs.Links.{may_write}
use Rattle.few_frames.specs.Senders.{IsMade, SenderMakesFew, SenderAsksNone, IsDue, cost, SenderWritesFew}
use Rattle.few_frames.proofs.Counts.{none_both, none_when, none_left, none_right, each_when}
use Rattle.few_frames.proofs.Links as of
use Rattle.few_frames.proofs.Links.{IsDetach, unexpected_goes, attach_goes, detach_goes, polled_goes, parting_goes, abandoned_goes, stopped_goes, unplaced_goes, wanted_few}

-- at most one frame is written, and M holds of it
pub record Adds (M : FrameBody → Type 0) (xs ys : List FrameBody) : Type 0 where
  pub new : List FrameBody
  pub written : ys ≡ xs ++ new
  pub made : Each M new
  pub few : length new ≤ 1

-- the frames that attach and detach its link, and those for deliveries that are not settled
abbrev pub left : State → ℕ
left s = may_write s.link.phase + length s.unsettled

pub record Goes (M : FrameBody → Type 0) (cost : ℕ) (s t : State) : Type 0 where
  pub adds : Adds M s.link.output t.link.output
  pub count : length adds.new + left t ≤ left s + cost

-- ---- by its link

linked : (M N : FrameBody → Type 0) (s t : State) → ((x : FrameBody) → M x → N x) → t.unsettled ≡ s.unsettled → of.Goes M s.link t.link → Goes N 0 s t
linked M N s t f e g =
    let u : length t.unsettled ≡ length s.unsettled = ap length e in
    let k = g.left in
    record { adds = record { new = g.new; written = g.written; made = each_when M N f g.new g.made; few = g.few }; count = omega arith }

none : (M : FrameBody → Type 0) (cost : ℕ) (s t : State) → t.link ≡ s.link → length t.unsettled ≤ length s.unsettled + cost → Goes M cost s t
none M cost s t e u =
    let p : may_write t.link.phase ≡ may_write s.link.phase = ap (λ (x : link.Link). may_write x.phase) e in
    record { adds = record { new = []; written = ap (λ (x : link.Link). x.output) e ∙ sym (append-nil s.link.output); made = tt; few = omega arith }; count = omega arith }

-- ---- a message

inserted_by : (c : Bool) (e : List ℕ × ℕ) (v : ℕ) (xs ys : List (List ℕ × ℕ)) → length ys ≤ length xs + 1 → length (if c then (e.0, v) ∷ xs else e ∷ ys) ≤ length (e ∷ xs) + 1
inserted_by true e v xs ys h = omega arith
inserted_by false e v xs ys h = omega arith

inserted : (k : List ℕ) (v : ℕ) (xs : List (List ℕ × ℕ)) → length (insert_entry bytes_eq xs k v) ≤ length xs + 1
inserted k v [] = omega arith
inserted k v (e ∷ xs) = inserted_by (bytes_eq k e.0) e v xs (insert_entry bytes_eq xs k v) (inserted k v xs)

entered : (c : Bool) (tag : List ℕ) (n : ℕ) (xs : List (List ℕ × ℕ)) → length (if c then xs else insert_entry bytes_eq xs tag n) ≤ length xs + 1
entered true tag n xs = omega arith
entered false tag n xs = inserted tag n xs

send_goes : (payload : List ℕ) (format : ℕ) (wanted : Option Bool) (batchable settled : Bool) (s : State) → Goes (IsMade (sends payload format wanted batchable)) 2 s (having_sent payload format settled batchable s)
send_goes payload format wanted batchable settled s =
    let e = entered settled (tag_of s.delivery_count) (length s.settlements) s.unsettled in
    record { adds = record { new = _ ∷ []; written = refl; made = (tt, tt); few = omega arith }; count = omega arith }

with_credit : (payload : List ℕ) (format : ℕ) (wanted : Option Bool) (batchable settled : Bool) (s : State) (c : Bool) → Goes (IsMade (sends payload format wanted batchable)) 2 s (sending_with c payload format settled batchable s).state
with_credit payload format wanted batchable settled s true = send_goes payload format wanted batchable settled s
with_credit payload format wanted batchable settled s false = none (IsMade (sends payload format wanted batchable)) 2 s s refl (omega arith)

unless_detaching : (payload : List ℕ) (format : ℕ) (wanted : Option Bool) (batchable settled : Bool) (s : State) (d : Bool)
    → Goes (IsMade (sends payload format wanted batchable)) 2 s (if d then tells (Err (error.Detached IllegalState)) s else sending_with (nat_lt 0 s.credit) payload format settled batchable s).state
unless_detaching payload format wanted batchable settled s true = none (IsMade (sends payload format wanted batchable)) 2 s s refl (omega arith)
unless_detaching payload format wanted batchable settled s false = with_credit payload format wanted batchable settled s (nat_lt 0 s.credit)

unless_refused : (payload : List ℕ) (format : ℕ) (wanted : Option Bool) (batchable settled : Bool) (s : State) (o : Option LinkStateError)
    → Goes (IsMade (sends payload format wanted batchable)) 2 s (sending_unless o payload format settled batchable s).state
unless_refused payload format wanted batchable settled s (Some e) = none (IsMade (sends payload format wanted batchable)) 2 s s refl (omega arith)
unless_refused payload format wanted batchable settled s None = unless_detaching payload format wanted batchable settled s (link.is_detaching s.link.phase)

unless_large : (payload : List ℕ) (format : ℕ) (wanted : Option Bool) (batchable settled : Bool) (s : State) (c : Bool)
    → Goes (IsMade (sends payload format wanted batchable)) 2 s (if c then tells (Err (error.MessageSizeExceeded (length payload) s.link.max_message_size)) s else sending_unless (link.refusal s.link) payload format settled batchable s).state
unless_large payload format wanted batchable settled s true = none (IsMade (sends payload format wanted batchable)) 2 s s refl (omega arith)
unless_large payload format wanted batchable settled s false = unless_refused payload format wanted batchable settled s (link.refusal s.link)

sending_goes : (payload : List ℕ) (format : ℕ) (wanted : Option Bool) (batchable : Bool) (s : State) → Goes (IsMade (sends payload format wanted batchable)) 2 s (sending payload format wanted batchable s).state
sending_goes payload format wanted batchable s = unless_large payload format wanted batchable (is_settled s.link.own.snd_settle_mode wanted) s (is_too_large (length payload) s.link.max_message_size)

-- ---- what is read

-- a Detach that closes the link, for a frame that has no place
closes_for : (x : Flow) (y : FrameBody) → IsDetach true y → IsMade (hears_flow x) y
closes_for x (b.Detach y) h = h
closes_for x other h = absurd h

more : (M : FrameBody → Type 0) (n : ℕ) (s t : State) → Goes M 0 s t → Goes M n s t
more M n s t g = let c = g.count in record { adds = g.adds; count = omega arith }

credited_goes : (c : Bool) (x : Flow) (s : State) → x.drain ≡ c → Goes (IsMade (hears_flow x)) (one_if x.drain) s (if c then drained (record s { credit = credit_by x s }) else record s { credit = credit_by x s })
credited_goes true x s e =
    let d : one_if x.drain ≡ 1 = ap one_if e in
    record { adds = record { new = _ ∷ []; written = refl; made = ((e, refl), tt); few = omega arith }; count = omega arith }
credited_goes false x s e = none (IsMade (hears_flow x)) (one_if x.drain) s (record s { credit = credit_by x s }) refl (omega arith)

unexpected_flow : (x : Flow) (s : State) → Goes (IsMade (hears_flow x)) (one_if x.drain) s (record s { link = link.unexpected s.link })
unexpected_flow x s =
    let t : State = record s { link = link.unexpected s.link } in
    more (IsMade (hears_flow x)) (one_if x.drain) s t (linked (IsDetach true) (IsMade (hears_flow x)) s t (closes_for x) refl (unexpected_goes s.link.phase s.link))

flow_goes : (p : LinkPhase) (x : Flow) (s : State) → Goes (IsMade (hears_flow x)) (one_if x.drain) s (flow_in p x s)
flow_goes phase.Attached x s = credited_goes x.drain x s refl
flow_goes p x s = unexpected_flow x s

removed_at : (t : List ℕ) (es : List (List ℕ × ℕ)) (k : ℕ) → lookup (bytes_eq t) es ≡ Some k → (p : Option ℕ) → position (bytes_eq t) (keys_of es) ≡ p → length (swap_remove_entry (bytes_eq t) es) + 1 ≡ length es
removed_at t es k found None is = let m = Missing-position (bytes_eq t) es is in absurd cc
removed_at t es k found (Some i) is =
    let f = Found-position (bytes_eq t) es i is in
    let w : i < length es = f.within in
    let d : List ℕ × ℕ = (t, k) in
    let e : length (swap_remove_entry (bytes_eq t) es) ≡ length (swap_remove es i d) = ap length (swap_remove_entry-found (bytes_eq t) es i d is) in
    let a : length (swap_remove es i d) ≡ min (length es - 1) (length (slice_set es i (get_or es (length es - 1) d))) = length-take (length es - 1) (slice_set es i (get_or es (length es - 1) d)) in
    let c = length-set es i (get_or es (length es - 1) d) in
    omega arith

-- a delivery that is settled is not among the others any more
settled_less : (o : Option ℕ) (tag : List ℕ) (x : Settlement) (s : State) → place_of tag s ≡ o → length (settled_at o tag x s).unsettled + one_if (is_some o) ≡ length s.unsettled
settled_less None tag x s e = omega arith
settled_less (Some place) tag x s e = removed_at tag s.unsettled place e (position (bytes_eq tag) (keys_of s.unsettled)) refl

settled_link : (o : Option ℕ) (tag : List ℕ) (x : Settlement) (s : State) → (settled_at o tag x s).link ≡ s.link
settled_link None tag x s = refl
settled_link (Some place) tag x s = refl

settled_goes : (M : FrameBody → Type 0) (tag : List ℕ) (x : Settlement) (s : State) → Goes M 0 s (settled tag x s)
settled_goes M tag x s = let e = settled_less (place_of tag s) tag x s refl in none M 0 s (settled tag x s) (settled_link (place_of tag s) tag x s) (omega arith)

last_of_three : (a c d : Bool) → (a && c && d) ≡ true → d ≡ true
last_of_three true true d h = h
last_of_three true false d h = absurd cc
last_of_three false c d h = absurd cc

echoed_goes : (c : Bool) (covered : CoveredDelivery) (x : Option DeliveryState) (s : State) → is_some (place_of covered.delivery_tag s) ≡ true
    → Goes (IsMade (hears_disposition covered false x)) 0 s (echoed c covered.delivery_id x (settled covered.delivery_tag (settlement_of x) s))
echoed_goes true covered x s h = settled_goes (IsMade (hears_disposition covered false x)) covered.delivery_tag (settlement_of x) s
echoed_goes false covered x s h =
    let t = settled covered.delivery_tag (settlement_of x) s in
    let k : t.link ≡ s.link = settled_link (place_of covered.delivery_tag s) covered.delivery_tag (settlement_of x) s in
    let p : may_write t.link.phase ≡ may_write s.link.phase = ap (λ (l : link.Link). may_write l.phase) k in
    let e : length t.unsettled + one_if (is_some (place_of covered.delivery_tag s)) ≡ length s.unsettled = settled_less (place_of covered.delivery_tag s) covered.delivery_tag (settlement_of x) s refl in
    let f : one_if (is_some (place_of covered.delivery_tag s)) ≡ 1 = ap one_if h in
    let y : FrameBody = b.Disposition (record { role = role.Sender; first = covered.delivery_id; last = None; settled = true; state = x; batchable = false }) in
    record { adds = record { new = y ∷ []; written = ap (λ (l : link.Link). l.output ++ y ∷ []) k; made = ((refl, refl), tt); few = omega arith }; count = omega arith }

outcome_goes : (c : Bool) (covered : CoveredDelivery) (x : Option DeliveryState) (s : State) → (is_second s.link.own.rcv_settle_mode && is_terminal x && is_some (place_of covered.delivery_tag s)) ≡ c
    → Goes (IsMade (hears_disposition covered false x)) 0 s (outcome_read c covered x s)
outcome_goes false covered x s h = none (IsMade (hears_disposition covered false x)) 0 s s refl (omega arith)
outcome_goes true covered x s h = echoed_goes (is_some s.link.stop_reason) covered x s (last_of_three (is_second s.link.own.rcv_settle_mode) (is_terminal x) (is_some (place_of covered.delivery_tag s)) h)

disposition_goes : (covered : CoveredDelivery) (settles : Bool) (x : Option DeliveryState) (s : State) → Goes (IsMade (hears_disposition covered settles x)) 0 s (disposition_read covered settles x s)
disposition_goes covered true x s = settled_goes (IsMade (hears_disposition covered true x)) covered.delivery_tag (settlement_of x) s
disposition_goes covered false x s = outcome_goes (is_second s.link.own.rcv_settle_mode && is_terminal x && is_some (place_of covered.delivery_tag s)) covered x s refl

-- ---- one move

-- what a move takes off and leaves is what there was, and what is new
pub record Steps (s : State) (m : Move) : Type 0 where
  pub adds : Adds (IsMade m) s.link.output (handed s m ++ (after s m).link.output)
  pub count : IsDue s m → length adds.new + left (after s m) ≤ left s + cost m

stepped : (s : State) (m : Move) → handed s m ≡ [] → Goes (IsMade m) (cost m) s (after s m) → Steps s m
stepped s m e g = record {
  adds = record { new = g.adds.new; written = ap (λ (xs : List FrameBody). xs ++ (after s m).link.output) e ∙ g.adds.written; made = g.adds.made; few = g.adds.few };
  count = λ d. g.count;
}

by_detach : (N : FrameBody → Type 0) (c : Bool) → ((y : Detach) → y.closed ≡ c → N (b.Detach y)) → (y : FrameBody) → IsDetach c y → N y
by_detach N c f (b.Detach y) h = f y h
by_detach N c f other h = absurd h

by_none : (N : FrameBody → Type 0) (y : FrameBody) → ⊥ → N y
by_none N y h = absurd h

reattach_steps : (s : State) (handle : ℕ) → Steps s (reattaches handle)
reattach_steps s handle = record {
  adds = record { new = _ ∷ []; written = refl; made = (tt, tt); few = omega arith };
  count = λ d. (let e = wanted_few s.link.phase d in omega arith);
}

steps : (s : State) (m : Move) → Steps s m
steps s (sends payload format settled batchable) = stepped s (sends payload format settled batchable) refl (sending_goes payload format settled batchable s)
steps s polls = stepped s polls refl (linked (λ x. ⊥) (IsMade polls) s (after s polls) (by_none (IsMade polls)) refl (polled_goes s.link))
steps s (parts closes error) = stepped s (parts closes error) refl (linked (IsDetach closes) (IsMade (parts closes error)) s (after s (parts closes error)) (by_detach (IsMade (parts closes error)) closes (λ y h. h)) refl (parting_goes s.link.is_gone s.link.phase s.link.stop_reason closes error s.link))
steps s abandons = stepped s abandons refl (linked (IsDetach true) (IsMade abandons) s (after s abandons) (by_detach (IsMade abandons) true (λ y h. h)) refl (abandoned_goes s.link.phase s.link.stop_reason s.link))
steps s (reattaches handle) = reattach_steps s handle
steps s stays = stepped s stays refl (linked (λ x. ⊥) (IsMade stays) s (after s stays) (by_none (IsMade stays)) refl (unplaced_goes s.link))
steps s (hears_attach x) = stepped s (hears_attach x) refl (linked (IsDetach true) (IsMade (hears_attach x)) s (after s (hears_attach x)) (by_detach (IsMade (hears_attach x)) true (λ y h. h)) refl (attach_goes s.link.phase x s.link))
steps s (hears_flow x) = stepped s (hears_flow x) refl (flow_goes s.link.phase x s)
steps s hears_transfer = stepped s hears_transfer refl (linked (IsDetach true) (IsMade hears_transfer) s (after s hears_transfer) (by_detach (IsMade hears_transfer) true (λ y h. h)) refl (unexpected_goes s.link.phase s.link))
steps s (hears_disposition covered settles x) = stepped s (hears_disposition covered settles x) refl (disposition_goes covered settles x s)
steps s (hears_detach d) = stepped s (hears_detach d) refl (linked (IsDetach d.closed) (IsMade (hears_detach d)) s (after s (hears_detach d)) (by_detach (IsMade (hears_detach d)) d.closed (λ y h. h)) refl (detach_goes s.link.phase d s.link))
steps s (stops why) = stepped s (stops why) refl (linked (λ x. ⊥) (IsMade (stops why)) s (after s (stops why)) (by_none (IsMade (stops why))) refl (stopped_goes why s.link))
steps s hands_over = record {
  adds = record { new = []; written = refl; made = tt; few = omega arith };
  count = λ d. omega arith;
}

pub sender_makes_few : SenderMakesFew
sender_makes_few s m = (let g = (steps s m).adds in record { new = g.new; written = g.written; made = g.made; few = g.few })

-- ---- over a life

written_behind : (s : State) (m : Move) (ms : List Move) → written s (m ∷ ms) ≡ handed s m ++ written (after s m) ms
written_behind s m ms = append_assoc (handed s m) (handed_all (after s m) ms) (after_all (after s m) ms).link.output

behind_count : (h w c o n t : ℕ) → w ≡ h + c → h + t ≡ o + n → w + t ≡ o + n + c
behind_count h w c o n t e f = omega arith

grown : (s : State) (m : Move) (ms : List Move) (new : List FrameBody) → handed s m ++ (after s m).link.output ≡ s.link.output ++ new
    → length (written s (m ∷ ms)) + length (after s m).link.output ≡ length s.link.output + length new + length (written (after s m) ms)
grown s m ms new e =
    behind_count (length (handed s m)) (length (written s (m ∷ ms))) (length (written (after s m) ms)) (length s.link.output) (length new) (length (after s m).link.output)
    (ap length (written_behind s m ms) ∙ length-append (handed s m) (written (after s m) ms))
    (sym (length-append (handed s m) (after s m).link.output) ∙ (ap length e ∙ length-append s.link.output new))

pub sender_writes_few : SenderWritesFew
sender_writes_few s [] d = omega arith
sender_writes_few s (m ∷ ms) d =
    let g = steps s m in
    let c = g.count d.0 in
    let r = sender_writes_few (after s m) ms d.1 in
    let e = grown s m ms g.adds.new g.adds.written in
    omega arith

flow_none : (m : Move) (y : Flow) → IsMade m (b.Flow y) → y.echo ≡ false
flow_none (hears_flow x) y h = h.1
flow_none m y h = absurd h

made_none : (m : Move) (y : FrameBody) → IsMade m y → AsksNone y
made_none m (b.Flow y) h = flow_none m y h
made_none m (b.Open y) h = tt
made_none m (b.Begin y) h = tt
made_none m (b.Attach y) h = tt
made_none m (b.Transfer y payload) h = tt
made_none m (b.Disposition y) h = tt
made_none m (b.Detach y) h = tt
made_none m (b.End y) h = tt
made_none m (b.Close y) h = tt
made_none m b.Empty h = tt

pub sender_asks_none : SenderAsksNone
sender_asks_none s [] h = h
sender_asks_none s (m ∷ ms) h =
    let t = after s m in
    let g = (steps s m).adds in
    let all : AskNone (handed s m ++ t.link.output) = subst AskNone (sym g.written) (none_both s.link.output g.new h (none_when (IsMade m) (made_none m) g.new g.made)) in
    let later = sender_asks_none t ms (none_right (handed s m) t.link.output all) in
    subst AskNone (sym (written_behind s m ms)) (none_both (handed s m) (written t ms) (none_left (handed s m) t.link.output all) later)

-- What a sender writes, and its credit.
use Rattle.std.specs.Prelude.{◌≡◌, ◌≢◌, ℕ, ◌-◌, ◌<◌, Bool, true, false, nat_lt, is_some, ◌&&◌, List, [], ◌∷◌, ◌++◌, length, map, Option, Some, None, Ok, Err, unwrap_or, if◌then◌else◌, refl}
use Rattle.std.proofs.Common.{sym, ◌∙◌, ap, append-nil, append_assoc, subst, arith}
use Rattle.std.proofs.lemmas.Bool.Decides.{nat_tests}
use Rattle.std.proofs.lemmas.Grind.{flat_map-append}
use Rattle.std.proofs.lemmas.List.{map-append}
use Rattle.amqp_termini.specs.declared.state.DeliveryState.{DeliveryState}
use Rattle.amqp_performatives.specs.declared.flow.Flow.{Flow}
use Rattle.amqp_frames.specs.declared.shared.CoveredDelivery.{CoveredDelivery}
use Rattle.amqp_link.specs.declared.endpoint.LinkPhase.{LinkPhase}
use Rattle.amqp_link.specs.declared.endpoint.LinkPhase.TheVariants as phase
use Rattle.amqp_link.specs.declared.error.DetachError.TheVariants.{IllegalState}
use Rattle.amqp_link.specs.declared.error.LinkStateError.{LinkStateError}
use Rattle.amqp_link.specs.Link as link
use Rattle.amqp_link.specs.Numbers.{minus, plus}
use Rattle.amqp_sender.specs.declared.error.SendError.{SendError}
use Rattle.amqp_sender.specs.declared.error.SendError.TheVariants as error
use Rattle.amqp_sender.specs.declared.sender.SendReply.TheVariants.{Sent, Pending}
use Rattle.amqp_sender.specs.declared.sender.Settlement.{Settlement}
use Rattle.amqp_sender.specs.Parting.{map_of, all_told}
use Rattle.amqp_sender.specs.Sender.{State}
use Rattle.amqp_sender.specs.Sending.{Made, tells, sending, sending_unless, sending_with, sent as having_sent, is_settled, is_too_large, flow_in, drained, credit_by}
use Rattle.amqp_sender.specs.Settling.{settlement_of, place_of, settled, settled_at, outcome_read, echoed, disposition_read, is_second, is_terminal}
use Rattle.session_laws.specs.Messages.{Message, part_of, transfer_in, transfers}
use Rattle.session_laws.specs.Sending.{Move, sends, polls, parts, abandons, reattaches, stays, hears_attach, hears_flow, hears_transfer, hears_disposition, hears_detach, stops, hands_over, after, after_all, handed, handed_all, written, message_for, sent_if, sent_by, sent, Grant, grant_in, granted, granted_in, Keeps, ComesShort, IsShort, WritesWhatIsSent, SendsForCredit, TakesCredit, KeepsCredit}
use Rattle.session_laws.proofs.Links.{Fixed, fixed, fixed_same, fixed_then, said, unexpected_moves, attach_moves, detach_moves, polled_moves, parting_moves, abandoned_moves, unplaced_moves, reattached_moves, stopped_moves}

-- ---- a call that sends

-- the sender behind a message that is sent
abbrev pub behind : List ℕ → ℕ → Option Bool → Bool → State → Made
behind payload format settled batchable s =
    tells (Ok (Sent (record { place = length s.settlements }))) (having_sent payload format (is_settled s.link.own.snd_settle_mode settled) batchable s)

with_credit : (P : Made → Type 0) (payload : List ℕ) (format : ℕ) (settled : Option Bool) (batchable : Bool) (s : State) → P (tells (Ok Pending) s)
    → (0 < s.credit → P (behind payload format settled batchable s)) → (c : Bool) → nat_lt 0 s.credit ≡ c → P (sending_with c payload format (is_settled s.link.own.snd_settle_mode settled) batchable s)
with_credit P payload format settled batchable s waits goes true h = goes (grind (arith, nat_tests))
with_credit P payload format settled batchable s waits goes false h = waits

unless_detaching : (P : Made → Type 0) (payload : List ℕ) (format : ℕ) (settled : Option Bool) (batchable : Bool) (s : State) → ((e : SendError) → P (tells (Err e) s)) → P (tells (Ok Pending) s)
    → (0 < s.credit → P (behind payload format settled batchable s)) → (d : Bool)
    → P (if d then tells (Err (error.Detached IllegalState)) s else sending_with (nat_lt 0 s.credit) payload format (is_settled s.link.own.snd_settle_mode settled) batchable s)
unless_detaching P payload format settled batchable s fails waits goes true = fails _
unless_detaching P payload format settled batchable s fails waits goes false = with_credit P payload format settled batchable s waits goes (nat_lt 0 s.credit) refl

unless_refused : (P : Made → Type 0) (payload : List ℕ) (format : ℕ) (settled : Option Bool) (batchable : Bool) (s : State) → ((e : SendError) → P (tells (Err e) s)) → P (tells (Ok Pending) s)
    → (0 < s.credit → P (behind payload format settled batchable s)) → (o : Option LinkStateError) → P (sending_unless o payload format (is_settled s.link.own.snd_settle_mode settled) batchable s)
unless_refused P payload format settled batchable s fails waits goes (Some e) = fails _
unless_refused P payload format settled batchable s fails waits goes None = unless_detaching P payload format settled batchable s fails waits goes (link.is_detaching s.link.phase)

unless_large : (P : Made → Type 0) (payload : List ℕ) (format : ℕ) (settled : Option Bool) (batchable : Bool) (s : State) → ((e : SendError) → P (tells (Err e) s)) → P (tells (Ok Pending) s)
    → (0 < s.credit → is_too_large (length payload) s.link.max_message_size ≡ false → P (behind payload format settled batchable s)) → (c : Bool) → is_too_large (length payload) s.link.max_message_size ≡ c
    → P (if c then tells (Err (error.MessageSizeExceeded (length payload) s.link.max_message_size)) s else sending_unless (link.refusal s.link) payload format (is_settled s.link.own.snd_settle_mode settled) batchable s)
unless_large P payload format settled batchable s fails waits goes true h = fails _
unless_large P payload format settled batchable s fails waits goes false h = unless_refused P payload format settled batchable s fails waits (λ c. goes c h) (link.refusal s.link)

-- it is refused, or waits, or the message is sent
pub sending_cases : (P : Made → Type 0) (payload : List ℕ) (format : ℕ) (settled : Option Bool) (batchable : Bool) (s : State) → ((e : SendError) → P (tells (Err e) s)) → P (tells (Ok Pending) s)
    → (0 < s.credit → is_too_large (length payload) s.link.max_message_size ≡ false → P (behind payload format settled batchable s)) → P (sending payload format settled batchable s)
sending_cases P payload format settled batchable s fails waits goes = unless_large P payload format settled batchable s fails waits goes (is_too_large (length payload) s.link.max_message_size) refl

-- ---- what is written

-- so many messages more are written
abbrev Adds : State → State → List Message → Type 0
Adds s t xs = transfers t.link.output ≡ transfers s.link.output ++ map part_of xs

adds_none : (s t : State) → transfers t.link.output ≡ transfers s.link.output → Adds s t []
adds_none s t h = h ∙ sym (append-nil (transfers s.link.output))

sending_adds : (s : State) (payload : List ℕ) (format : ℕ) (settled : Option Bool) (batchable : Bool) → Adds s (after s (sends payload format settled batchable)) (sent_by s (sends payload format settled batchable))
sending_adds s payload format settled batchable =
    sending_cases (λ (m : Made). Adds s m.state (sent_if m.answer (message_for s payload format settled batchable))) payload format settled batchable s
    (λ e. adds_none s s refl) (adds_none s s refl) (λ c h. flat_map-append transfer_in s.link.output _)

drained_written : (s : State) → transfers (drained s).link.output ≡ transfers s.link.output
drained_written s = said s.link.output _ refl

credited_written : (c : Bool) (t s : State) → transfers (drained t).link.output ≡ transfers s.link.output → transfers t.link.output ≡ transfers s.link.output → transfers (if c then drained t else t).link.output ≡ transfers s.link.output
credited_written true t s d h = d
credited_written false t s d h = h

flow_written : (p : LinkPhase) (x : Flow) (s : State) → transfers (flow_in p x s).link.output ≡ transfers s.link.output
flow_written phase.Attached x s = credited_written x.drain (record s { credit = credit_by x s }) s (said s.link.output _ refl) refl
flow_written p x s = (unexpected_moves s.link.phase s.link).written

settled_link : (o : Option ℕ) (tag : List ℕ) (x : Settlement) (s : State) → (settled_at o tag x s).link ≡ s.link
settled_link None tag x s = refl
settled_link (Some place) tag x s = refl

echoed_written : (c : Bool) (number : ℕ) (x : Option DeliveryState) (s : State) → transfers (echoed c number x s).link.output ≡ transfers s.link.output
echoed_written true number x s = refl
echoed_written false number x s = said s.link.output _ refl

-- whether the sender settles first
abbrev pub settles_first : CoveredDelivery → Option DeliveryState → State → Bool
settles_first covered x s = is_second s.link.own.rcv_settle_mode && is_terminal x && is_some (place_of covered.delivery_tag s)

outcome_written : (c : Bool) (covered : CoveredDelivery) (x : Option DeliveryState) (s : State) → transfers (outcome_read c covered x s).link.output ≡ transfers s.link.output
outcome_written false covered x s = refl
outcome_written true covered x s = echoed_written (is_some s.link.stop_reason) covered.delivery_id x (settled covered.delivery_tag (settlement_of x) s) ∙ ap (λ (l : link.Link). transfers l.output) (settled_link (place_of covered.delivery_tag s) covered.delivery_tag (settlement_of x) s)

disposition_written : (covered : CoveredDelivery) (settled : Bool) (x : Option DeliveryState) (s : State) → transfers (disposition_read covered settled x s).link.output ≡ transfers s.link.output
disposition_written covered true x s = ap (λ (l : link.Link). transfers l.output) (settled_link (place_of covered.delivery_tag s) covered.delivery_tag (settlement_of x) s)
disposition_written covered false x s = outcome_written (settles_first covered x s) covered x s

-- what a move takes off and leaves is what there was and what it sends
adds : (s : State) (m : Move) → transfers (handed s m ++ (after s m).link.output) ≡ transfers s.link.output ++ map part_of (sent_by s m)
adds s (sends payload format settled batchable) = sending_adds s payload format settled batchable
adds s polls = adds_none s (after s polls) (polled_moves s.link).written
adds s (parts closes error) = adds_none s (after s (parts closes error)) (parting_moves s.link.is_gone s.link.phase s.link.stop_reason closes error s.link).written
adds s abandons = adds_none s (after s abandons) (abandoned_moves s.link.phase s.link.stop_reason s.link).written
adds s (reattaches handle) = adds_none s (after s (reattaches handle)) (reattached_moves handle (map_of (all_told s.unsettled)) (Some s.delivery_count) s.link).written
adds s stays = adds_none s (after s stays) (unplaced_moves s.link).written
adds s (hears_attach x) = adds_none s (after s (hears_attach x)) (attach_moves s.link.phase x s.link).written
adds s (hears_flow x) = adds_none s (after s (hears_flow x)) (flow_written s.link.phase x s)
adds s hears_transfer = adds_none s (after s hears_transfer) (unexpected_moves s.link.phase s.link).written
adds s (hears_disposition covered settled x) = adds_none s (after s (hears_disposition covered settled x)) (disposition_written covered settled x s)
adds s (hears_detach d) = adds_none s (after s (hears_detach d)) (detach_moves s.link.phase d s.link).written
adds s (stops why) = adds_none s (after s (stops why)) (stopped_moves why s.link).written
adds s hands_over = ap transfers (append-nil s.link.output) ∙ sym (append-nil (transfers s.link.output))

-- ---- over its life

pub writes_what_is_sent : WritesWhatIsSent
writes_what_is_sent s [] = sym (append-nil (transfers s.link.output))
writes_what_is_sent s (m ∷ ms) =
    let t = after s m in
    let out = (after_all t ms).link.output in
    ap transfers (append_assoc (handed s m) (handed_all t ms) out)
    ∙ (flat_map-append transfer_in (handed s m) (written t ms)
    ∙ (ap (λ ys. transfers (handed s m) ++ ys) (writes_what_is_sent t ms)
    ∙ (sym (append_assoc (transfers (handed s m)) (transfers t.link.output) (map part_of (sent t ms)))
    ∙ (ap (λ ys. ys ++ map part_of (sent t ms)) (sym (flat_map-append transfer_in (handed s m) t.link.output) ∙ adds s m)
    ∙ (append_assoc (transfers s.link.output) (map part_of (sent_by s m)) (map part_of (sent t ms))
    ∙ ap (λ ys. transfers s.link.output ++ ys) (sym (map-append part_of (sent_by s m) (sent t ms))))))))

-- ---- credit

-- where something is sent, one of the credit is taken
abbrev Takes : State → List Message → State → Type 0
Takes s xs t = xs ≢ [] → TakesCredit s t

takes_none : (s t : State) → Takes s [] t
takes_none s t h = absurd (h refl)

pub sends_for_credit : SendsForCredit
sends_for_credit s (sends payload format settled batchable) =
    sending_cases (λ (m : Made). Takes s (sent_if m.answer (message_for s payload format settled batchable)) m.state) payload format settled batchable s
    (λ e. takes_none s s) (takes_none s s) (λ c h n. record { had = c; left = refl; count = refl })
sends_for_credit s polls = takes_none s _
sends_for_credit s (parts closes error) = takes_none s _
sends_for_credit s abandons = takes_none s _
sends_for_credit s (reattaches handle) = takes_none s _
sends_for_credit s stays = takes_none s _
sends_for_credit s (hears_attach x) = takes_none s _
sends_for_credit s (hears_flow x) = takes_none s _
sends_for_credit s hears_transfer = takes_none s _
sends_for_credit s (hears_disposition covered settled x) = takes_none s _
sends_for_credit s (hears_detach d) = takes_none s _
sends_for_credit s (stops why) = takes_none s _
sends_for_credit s hands_over = takes_none s _

-- numbers go round at 2^32
ahead : (count from given : ℕ) → given < 4294967296 → 0 < given - minus count from → (given - minus count from) - 1 ≡ given - minus (plus count 1) from
ahead count from given short some = omega arith

spends : (g : Grant) (s : State) (c n : ℕ) → g.credit < 4294967296 → 0 < s.credit → c ≡ s.credit - 1 → n ≡ plus s.delivery_count 1 → Keeps g s → c ≡ g.credit - minus n g.count
spends g s c n short some e f k =
    let p : 0 < g.credit - minus s.delivery_count g.count = subst (λ x. 0 < x) k some in
    e ∙ ap (λ x. x - 1) k ∙ ahead s.delivery_count g.count g.credit short p ∙ ap (λ x. g.credit - minus x g.count) (sym f)

sending_keeps : (g : Grant) (s : State) (payload : List ℕ) (format : ℕ) (settled : Option Bool) (batchable : Bool) → g.credit < 4294967296 → Keeps g s → Keeps g (after s (sends payload format settled batchable))
sending_keeps g s payload format settled batchable short k =
    sending_cases (λ (m : Made). Keeps g m.state) payload format settled batchable s (λ e. k) k (λ c h. spends g s _ _ short c refl refl k)

used_up : (count from given : ℕ) → given < 4294967296 → 0 ≡ given - minus (plus count (given - minus count from)) from
used_up count from given short = omega arith

credited_keeps : (c : Bool) (count from given : ℕ) → given < 4294967296 → (s : State) → s.credit ≡ given - minus count from → s.delivery_count ≡ count
    → (if c then drained s else s).credit ≡ given - minus (if c then drained s else s).delivery_count from
credited_keeps true count from given short s e f =
    let a : plus s.delivery_count s.credit ≡ plus count (given - minus count from) = ap (λ x. plus x s.credit) f ∙ ap (λ x. plus count x) e in
    used_up count from given short ∙ ap (λ x. given - minus x from) (sym a)
credited_keeps false count from given short s e f = e ∙ ap (λ x. given - minus x from) (sym f)

short_or : (o : Option ℕ) → IsShort o → unwrap_or o 0 < 4294967296
short_or None h = omega arith
short_or (Some n) h = h

pub record Kept (g : Grant) (s : State) : Type 0 where
  pub short : g.credit < 4294967296
  pub is : Keeps g s

flow_keeps : (p : LinkPhase) (g : Grant) (s : State) (x : Flow) → IsShort x.link_credit → Kept g s → Kept (granted_in p x s g) (flow_in p x s)
flow_keeps phase.Attached g s x h k = record { short = short_or x.link_credit h; is = credited_keeps x.drain s.delivery_count (grant_in x s).count (grant_in x s).credit (short_or x.link_credit h) (record s { credit = credit_by x s }) refl refl }
flow_keeps p g s x h k = record { short = k.short; is = k.is }

pub record Same (s t : State) : Type 0 where
  pub credit : t.credit ≡ s.credit
  pub count : t.delivery_count ≡ s.delivery_count

same_keeps : (g : Grant) (s t : State) → Same s t → Kept g s → Kept g t
same_keeps g s t h k = record { short = k.short; is = h.credit ∙ k.is ∙ ap (λ x. g.credit - minus x g.count) (sym h.count) }

settled_same : (o : Option ℕ) (tag : List ℕ) (x : Settlement) (s : State) → Same s (settled_at o tag x s)
settled_same None tag x s = record { credit = refl; count = refl }
settled_same (Some place) tag x s = record { credit = refl; count = refl }

echoed_same : (c : Bool) (number : ℕ) (x : Option DeliveryState) (s t : State) → Same s t → Same s (echoed c number x t)
echoed_same true number x s t h = h
echoed_same false number x s t h = record { credit = h.credit; count = h.count }

outcome_same : (c : Bool) (covered : CoveredDelivery) (x : Option DeliveryState) (s : State) → Same s (outcome_read c covered x s)
outcome_same false covered x s = record { credit = refl; count = refl }
outcome_same true covered x s = echoed_same (is_some s.link.stop_reason) covered.delivery_id x s (settled covered.delivery_tag (settlement_of x) s) (settled_same (place_of covered.delivery_tag s) covered.delivery_tag (settlement_of x) s)

pub disposition_same : (covered : CoveredDelivery) (settled : Bool) (x : Option DeliveryState) (s : State) → Same s (disposition_read covered settled x s)
disposition_same covered true x s = settled_same (place_of covered.delivery_tag s) covered.delivery_tag (settlement_of x) s
disposition_same covered false x s = outcome_same (settles_first covered x s) covered x s

pub nothing_given : (n : ℕ) → 0 ≡ 0 - n
nothing_given n = omega arith

pub keeps : (g : Grant) (s : State) (m : Move) → ComesShort m → Kept g s → Kept (granted s m g) (after s m)
keeps g s (sends payload format settled batchable) h k = record { short = k.short; is = sending_keeps g s payload format settled batchable k.short k.is }
keeps g s polls h k = record { short = k.short; is = k.is }
keeps g s (parts closes error) h k = record { short = k.short; is = k.is }
keeps g s abandons h k = record { short = k.short; is = k.is }
keeps g s (reattaches handle) h k = record { short = omega arith; is = nothing_given _ }
keeps g s stays h k = record { short = k.short; is = k.is }
keeps g s (hears_attach x) h k = record { short = k.short; is = k.is }
keeps g s (hears_flow x) h k = flow_keeps s.link.phase g s x h k
keeps g s hears_transfer h k = record { short = k.short; is = k.is }
keeps g s (hears_disposition covered settled x) h k = same_keeps g s _ (disposition_same covered settled x s) k
keeps g s (hears_detach d) h k = record { short = k.short; is = k.is }
keeps g s (stops why) h k = record { short = k.short; is = k.is }
keeps g s hands_over h k = record { short = k.short; is = k.is }

pub keeps_credit : KeepsCredit
keeps_credit g s [] short h k = k
keeps_credit g s (m ∷ ms) short h k =
    let t = keeps g s m h.0 (record { short = short; is = k }) in
    keeps_credit (granted s m g) (after s m) ms t.short h.1 t.is

-- ---- the limit of messages

-- the messages have a size that the link takes
abbrev pub Fits : ℕ → List Message → Type 0
Fits limit [] = Unit {0}
Fits limit (x ∷ xs) = (is_too_large (length x.payload) limit ≡ false) × Fits limit xs

fit_both : (limit : ℕ) (xs ys : List Message) → Fits limit xs → Fits limit ys → Fits limit (xs ++ ys)
fit_both limit [] ys h k = k
fit_both limit (x ∷ xs) ys h k = (h.0, fit_both limit xs ys h.1 k)

-- what a move sends, and what it leaves of the link
record FitsAt (s : State) (xs : List Message) (t : State) : Type 0 where
  link : Fixed s.link t.link
  fits : Fits s.link.max_message_size xs

fits_none : (s t : State) → Fixed s.link t.link → FitsAt s [] t
fits_none s t h = record { link = h; fits = tt }

same_link : (s t : State) → t.link.phase ≡ s.link.phase → t.link.max_message_size ≡ s.link.max_message_size → Fixed s.link t.link
same_link s t p m = fixed_same s.link t.link p m

sending_fits : (s : State) (payload : List ℕ) (format : ℕ) (settled : Option Bool) (batchable : Bool) → FitsAt s (sent_by s (sends payload format settled batchable)) (after s (sends payload format settled batchable))
sending_fits s payload format settled batchable =
    sending_cases (λ (m : Made). FitsAt s (sent_if m.answer (message_for s payload format settled batchable)) m.state) payload format settled batchable s
    (λ e. fits_none s s (same_link s s refl refl)) (fits_none s s (same_link s s refl refl)) (λ c h. record { link = fixed_same s.link _ refl refl; fits = (h, tt) })

drained_link : (c : Bool) (s t : State) → Fixed s.link t.link → Fixed s.link (if c then drained t else t).link
drained_link true s t h = fixed_then s.link t.link _ h (fixed_same t.link _ refl refl)
drained_link false s t h = h

flow_link : (p : LinkPhase) (x : Flow) (s : State) → Fixed s.link (flow_in p x s).link
flow_link phase.Attached x s = drained_link x.drain s (record s { credit = credit_by x s }) (fixed_same s.link _ refl refl)
flow_link p x s = fixed _ _ (unexpected_moves s.link.phase s.link)

settled_fixed : (o : Option ℕ) (tag : List ℕ) (x : Settlement) (s : State) → Fixed s.link (settled_at o tag x s).link
settled_fixed None tag x s = fixed_same s.link _ refl refl
settled_fixed (Some place) tag x s = fixed_same s.link _ refl refl

echoed_link : (c : Bool) (number : ℕ) (x : Option DeliveryState) (s t : State) → Fixed s.link t.link → Fixed s.link (echoed c number x t).link
echoed_link true number x s t h = h
echoed_link false number x s t h = fixed_then s.link t.link _ h (fixed_same t.link _ refl refl)

outcome_link : (c : Bool) (covered : CoveredDelivery) (x : Option DeliveryState) (s : State) → Fixed s.link (outcome_read c covered x s).link
outcome_link false covered x s = fixed_same s.link _ refl refl
outcome_link true covered x s = echoed_link (is_some s.link.stop_reason) covered.delivery_id x s (settled covered.delivery_tag (settlement_of x) s) (settled_fixed (place_of covered.delivery_tag s) covered.delivery_tag (settlement_of x) s)

disposition_link : (covered : CoveredDelivery) (settled : Bool) (x : Option DeliveryState) (s : State) → Fixed s.link (disposition_read covered settled x s).link
disposition_link covered true x s = settled_fixed (place_of covered.delivery_tag s) covered.delivery_tag (settlement_of x) s
disposition_link covered false x s = outcome_link (settles_first covered x s) covered x s

fits_at : (s : State) (m : Move) → FitsAt s (sent_by s m) (after s m)
fits_at s (sends payload format settled batchable) = sending_fits s payload format settled batchable
fits_at s polls = fits_none s _ (fixed _ _ (polled_moves s.link))
fits_at s (parts closes error) = fits_none s _ (fixed _ _ (parting_moves s.link.is_gone s.link.phase s.link.stop_reason closes error s.link))
fits_at s abandons = fits_none s _ (fixed _ _ (abandoned_moves s.link.phase s.link.stop_reason s.link))
fits_at s (reattaches handle) = fits_none s _ (fixed _ _ (reattached_moves handle (map_of (all_told s.unsettled)) (Some s.delivery_count) s.link))
fits_at s stays = fits_none s _ (fixed _ _ (unplaced_moves s.link))
fits_at s (hears_attach x) = fits_none s _ (fixed _ _ (attach_moves s.link.phase x s.link))
fits_at s (hears_flow x) = fits_none s _ (flow_link s.link.phase x s)
fits_at s hears_transfer = fits_none s _ (fixed _ _ (unexpected_moves s.link.phase s.link))
fits_at s (hears_disposition covered settled x) = fits_none s _ (disposition_link covered settled x s)
fits_at s (hears_detach d) = fits_none s _ (fixed _ _ (detach_moves s.link.phase d s.link))
fits_at s (stops why) = fits_none s _ (fixed _ _ (stopped_moves why s.link))
fits_at s hands_over = fits_none s _ (fixed_same s.link _ refl refl)

-- a link that both ends have attached sends nothing that is larger than its limit
pub all_fit : (limit : ℕ) (s : State) (ms : List Move) → link.is_awaited s.link.phase ≡ false → s.link.max_message_size ≡ limit → Fits limit (sent s ms)
all_fit limit s [] h e = tt
all_fit limit s (m ∷ ms) h e =
    let f = fits_at s m in
    fit_both limit (sent_by s m) (sent (after s m) ms) (subst (λ n. Fits n (sent_by s m)) e f.fits) (all_fit limit (after s m) ms (f.link.met h) (f.link.size h ∙ e))

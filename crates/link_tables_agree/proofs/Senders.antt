-- What a sender keeps, and on which handle it sends.
use Rattle.std.specs.Prelude.{◌≡◌, ℕ, nat_lt, Bool, true, false, ◌&&◌, ◌||◌, is_some, length, List, [], ◌∷◌, ◌++◌, map, Option, Some, None, Err, if◌then◌else◌, refl}
use Rattle.std.proofs.Common.{sym, subst, append-nil}
use Rattle.amqp_termini.specs.declared.state.DeliveryState.{DeliveryState}
use Rattle.amqp_performatives.specs.declared.flow.Flow.{Flow}
use Rattle.amqp_frames.specs.declared.shared.CoveredDelivery.{CoveredDelivery}
use Rattle.amqp_link.specs.declared.endpoint.LinkPhase.{LinkPhase}
use Rattle.amqp_link.specs.declared.endpoint.LinkPhase.TheVariants as phase
use Rattle.amqp_link.specs.declared.error.DetachError.TheVariants.{IllegalState}
use Rattle.amqp_link.specs.declared.error.LinkStateError.{LinkStateError}
use Rattle.amqp_link.specs.declared.error.LinkStateError.TheVariants as state
use Rattle.amqp_link.specs.Link.{is_heard, is_attached, is_detaching, or_else, ended_by, refusal}
use Rattle.amqp_sender.specs.declared.error.SendError.TheVariants as error
use Rattle.amqp_sender.specs.declared.sender.Settlement.{Settlement}
use Rattle.amqp_sender.specs.Parting.{map_of, all_told}
use Rattle.amqp_sender.specs.Sender.{State}
use Rattle.amqp_sender.specs.Sending.{Made, tells, sending, sending_unless, sending_with, is_settled, is_too_large, flow_in, drained, credit_by}
use Rattle.amqp_sender.specs.Settling.{settled, settled_at, place_of, settlement_of, echoed, outcome_read, disposition_read, is_second, is_terminal}
use Rattle.session_laws.specs.Messages.{Message, part_of, transfers}
use Rattle.session_laws.specs.Sending.{Move, sends, polls, parts, abandons, reattaches, stays, hears_attach, hears_flow, hears_transfer, hears_disposition, hears_detach, stops, hands_over, after, after_all, handed, message_for, sent_if, sent_by}
use Rattle.session_laws.proofs.Sends.{sending_cases, writes_what_is_sent}
use Rattle.link_lives.specs.Lives.{Event, sender_tells, sender_told}
use Rattle.link_tables_agree.specs.Sound.{AllOn}
use Rattle.link_tables_agree.proofs.Links.{Heard, heard_then, unexpected_keeps, attach_keeps, detach_keeps, polled_keeps, parting_keeps, abandoned_keeps, unplaced_keeps, reattached_keeps, stopped_keeps}
use Rattle.link_tables_agree.proofs.Says.{on_both, Say, say_last, AllTold, told_both, wrote_told, sent_told}

-- ---- a sender keeps its handle as long as it is heard

abbrev Stays : State → State → Type 0
Stays s t = Heard s.link t.link

sending_stays : (payload : List ℕ) (format : ℕ) (wanted : Option Bool) (batchable : Bool) (s : State) → Stays s (sending payload format wanted batchable s).state
sending_stays payload format wanted batchable s = sending_cases (λ (m : Made). Stays s m.state) payload format wanted batchable s (λ e h. (h, refl)) (λ h. (h, refl)) (λ c l h. (h, refl))

credited_stays : (c : Bool) (x : Flow) (s : State) → Stays s (if c then drained (record s { credit = credit_by x s }) else record s { credit = credit_by x s })
credited_stays true x s = λ h. (h, refl)
credited_stays false x s = λ h. (h, refl)

flow_stays : (p : LinkPhase) (x : Flow) (s : State) → Stays s (flow_in p x s)
flow_stays phase.Attached x s = credited_stays x.drain x s
flow_stays p x s = (unexpected_keeps s.link).heard

settled_stays : (o : Option ℕ) (tag : List ℕ) (x : Settlement) (s : State) → Stays s (settled_at o tag x s)
settled_stays None tag x s = λ h. (h, refl)
settled_stays (Some place) tag x s = λ h. (h, refl)

echoed_stays : (c : Bool) (number : ℕ) (x : Option DeliveryState) (s t : State) → Stays s t → Stays s (echoed c number x t)
echoed_stays true number x s t h = h
echoed_stays false number x s t h = h

outcome_stays : (c : Bool) (covered : CoveredDelivery) (x : Option DeliveryState) (s : State) → Stays s (outcome_read c covered x s)
outcome_stays false covered x s = λ h. (h, refl)
outcome_stays true covered x s =
    echoed_stays (is_some s.link.stop_reason) covered.delivery_id x s (settled covered.delivery_tag (settlement_of x) s)
    (settled_stays (place_of covered.delivery_tag s) covered.delivery_tag (settlement_of x) s)

disposition_stays : (covered : CoveredDelivery) (settles : Bool) (x : Option DeliveryState) (s : State) → Stays s (disposition_read covered settles x s)
disposition_stays covered true x s = settled_stays (place_of covered.delivery_tag s) covered.delivery_tag (settlement_of x) s
disposition_stays covered false x s = outcome_stays (is_second s.link.own.rcv_settle_mode && is_terminal x && is_some (place_of covered.delivery_tag s)) covered x s

move_stays : (s : State) (m : Move) → Stays s (after s m)
move_stays s (sends payload format wanted batchable) = sending_stays payload format wanted batchable s
move_stays s polls = (polled_keeps s.link).heard
move_stays s (parts closes x) = (parting_keeps closes x s.link).heard
move_stays s abandons = (abandoned_keeps s.link).heard
move_stays s (reattaches handle) = (reattached_keeps handle (map_of (all_told s.unsettled)) (Some s.delivery_count) s.link).heard
move_stays s stays = (unplaced_keeps s.link).heard
move_stays s (hears_attach x) = (attach_keeps x s.link).heard
move_stays s (hears_flow x) = flow_stays s.link.phase x s
move_stays s hears_transfer = (unexpected_keeps s.link).heard
move_stays s (hears_disposition covered settles x) = disposition_stays covered settles x s
move_stays s (hears_detach d) = (detach_keeps d s.link).heard
move_stays s (stops why) = (stopped_keeps why s.link).heard
move_stays s hands_over = λ h. (h, refl)

-- ---- it sends while it is heard

heard_if : (p : LinkPhase) → (is_attached p || is_detaching p) ≡ true → is_heard p ≡ true
heard_if phase.Attached h = refl
heard_if phase.DetachSent h = refl
heard_if phase.AttachSent h = refl
heard_if phase.DetachExpected h = refl
heard_if phase.Refused h = refl
heard_if phase.CloseSent h = refl
heard_if p h = absurd cc

takes : (closed : Bool) (o : Option LinkStateError) (a : Bool) → (if closed then Some state.IllegalState else or_else o (if a then None else Some state.IllegalState)) ≡ None → a ≡ true
takes true o a h = absurd cc
takes false (Some x) a h = absurd cc
takes false None true h = refl
takes false None false h = absurd cc

taken_heard : (s : State) → refusal s.link ≡ None → is_heard s.link.phase ≡ true
taken_heard s h = heard_if s.link.phase (takes s.link.is_closed (ended_by s.link.remote s.link.stop_reason) (is_attached s.link.phase || is_detaching s.link.phase) h)

module _ (Q : ℕ → Type 0) (m : Message) where
  with_on : (c : Bool) (payload : List ℕ) (format : ℕ) (settles batchable : Bool) (s : State) → Q m.handle → AllOn Q (map part_of (sent_if (sending_with c payload format settles batchable s).answer m))
  with_on true payload format settles batchable s q = (q, tt)
  with_on false payload format settles batchable s q = tt

  at_on : (d : Bool) (payload : List ℕ) (format : ℕ) (settles batchable : Bool) (s : State) → Q m.handle
      → AllOn Q (map part_of (sent_if (if d then tells (Err (error.Detached IllegalState)) s else sending_with (nat_lt 0 s.credit) payload format settles batchable s).answer m))
  at_on true payload format settles batchable s q = tt
  at_on false payload format settles batchable s q = with_on (nat_lt 0 s.credit) payload format settles batchable s q

  unless_on : (o : Option LinkStateError) (payload : List ℕ) (format : ℕ) (settles batchable : Bool) (s : State) → (o ≡ None → Q m.handle)
      → AllOn Q (map part_of (sent_if (sending_unless o payload format settles batchable s).answer m))
  unless_on (Some e) payload format settles batchable s q = tt
  unless_on None payload format settles batchable s q = at_on (is_detaching s.link.phase) payload format settles batchable s (q refl)

  if_on : (c : Bool) (payload : List ℕ) (format : ℕ) (settles batchable : Bool) (s : State) → (refusal s.link ≡ None → Q m.handle)
      → AllOn Q (map part_of (sent_if (if c then tells (Err (error.MessageSizeExceeded (length payload) s.link.max_message_size)) s else sending_unless (refusal s.link) payload format settles batchable s).answer m))
  if_on true payload format settles batchable s q = tt
  if_on false payload format settles batchable s q = unless_on (refusal s.link) payload format settles batchable s q

module _ (Q : ℕ → Type 0) where
  sent_on : (s : State) (m : Move) → (is_heard s.link.phase ≡ true → Q s.link.own.handle) → AllOn Q (map part_of (sent_by s m))
  sent_on s (sends payload format wanted batchable) q =
      if_on Q (message_for s payload format wanted batchable) (is_too_large (length payload) s.link.max_message_size) payload format (is_settled s.link.own.snd_settle_mode wanted) batchable s
      (λ r. q (taken_heard s r))
  sent_on s other q = tt

  -- what a move takes off and what it leaves
  written_on : (s : State) (m : Move) → Say Q s.link.output → (is_heard s.link.phase ≡ true → Q s.link.own.handle) → Say Q ((handed s m ++ []) ++ (after s m).link.output)
  written_on s m p q =
      subst (AllOn Q) (sym (writes_what_is_sent s (m ∷ [])))
      (on_both Q (transfers s.link.output) (map part_of (sent_by s m ++ [])) p (subst (λ xs. AllOn Q (map part_of xs)) (sym (append-nil (sent_by s m))) (sent_on s m q)))

  left_on : (s : State) (m : Move) → Say Q s.link.output → (is_heard s.link.phase ≡ true → Q s.link.own.handle) → Say Q (after s m).link.output
  left_on s m p q = say_last Q (handed s m ++ []) (after s m).link.output (written_on s m p q)

  tells_on : (session : ℕ) (s : State) (m : Move) → Say Q s.link.output → AllTold Q session (sender_tells session s m)
  tells_on session s hands_over p = wrote_told Q session s.link.output p
  tells_on session s m p = sent_told Q session (sent_by s m)

  still_on : (s t : State) → Heard s.link t.link → (is_heard s.link.phase ≡ true → Q s.link.own.handle) → is_heard t.link.phase ≡ true → Q t.link.own.handle
  still_on s t k q h = let a = k h in subst Q (sym a.1) (q a.0)

  pub record Speaks (session : ℕ) (s t : State) (es : List Event) : Type 0 where
    pub heard : Heard s.link t.link
    pub output : Say Q t.link.output
    pub told : AllTold Q session es

  pub sender_speaks : (session : ℕ) (s : State) (ms : List Move) → Say Q s.link.output → (is_heard s.link.phase ≡ true → Q s.link.own.handle) → Speaks session s (after_all s ms) (sender_told session s ms)
  sender_speaks session s [] p q = record { heard = λ h. (h, refl); output = p; told = tt }
  sender_speaks session s (m ∷ ms) p q =
      let t = after s m in
      let k = move_stays s m in
      let r = sender_speaks session t ms (left_on s m p q) (still_on s t k q) in
      record {
        heard = heard_then s.link t.link (after_all t ms).link k r.heard;
        output = r.output;
        told = told_both Q session (sender_tells session s m) (sender_told session t ms) (tells_on session s m p) r.told;
      }

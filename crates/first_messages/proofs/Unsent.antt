-- A sender that knows of no message has sent none.
use Rattle.std.specs.Prelude.{◌≡◌, ℕ, zero, suc, Bool, true, false, is_some, List, [], ◌∷◌, ◌++◌, map, slice_set, Option, Some, None, if◌then◌else◌, refl}
use Rattle.std.proofs.Common.{◌∙◌, ap}
use Rattle.amqp_termini.specs.declared.state.DeliveryState.{DeliveryState}
use Rattle.amqp_performatives.specs.declared.flow.Flow.{Flow}
use Rattle.amqp_frames.specs.declared.shared.CoveredDelivery.{CoveredDelivery}
use Rattle.amqp_link.specs.declared.endpoint.LinkPhase.{LinkPhase}
use Rattle.amqp_link.specs.declared.endpoint.LinkPhase.TheVariants as phase
use Rattle.amqp_sender.specs.declared.sender.Settlement.{Settlement}
use Rattle.amqp_sender.specs.Sender.{State as SenderState}
use Rattle.amqp_sender.specs.Sending.{Made, drained, credit_by, flow_in}
use Rattle.amqp_sender.specs.Settling.{settlement_of, is_terminal, is_second, settled_at, echoed, outcome_read, disposition_read}
use Rattle.amqp_sender.specs.Settling as settling
use Rattle.session_laws.specs.Messages.{part_of}
use Rattle.session_laws.specs.Sending as sending
use Rattle.session_laws.specs.Sending.{Move, after, after_all, handed_all, written, message_for, sent_if, sent_by, sent}
use Rattle.session_laws.proofs.Sends.{sending_cases, writes_what_is_sent}
use Rattle.first_messages.specs.Before.{UnsentWritesNone}

-- ---- what becomes of deliveries is kept

set_none : (xs : List Settlement) (i : ℕ) (a : Settlement) → slice_set xs i a ≡ [] → xs ≡ []
set_none [] i a h = refl
set_none (x ∷ xs) zero a h = absurd cc
set_none (x ∷ xs) (suc i) a h = absurd cc

settled_none : (o : Option ℕ) (tag : List ℕ) (x : Settlement) (s : SenderState) → (settled_at o tag x s).settlements ≡ [] → s.settlements ≡ []
settled_none None tag x s h = h
settled_none (Some place) tag x s h = set_none s.settlements place x h

echoed_none : (b : Bool) (number : ℕ) (x : Option DeliveryState) (s : SenderState) → (echoed b number x s).settlements ≡ [] → s.settlements ≡ []
echoed_none true number x s h = h
echoed_none false number x s h = h

outcome_none : (b : Bool) (covered : CoveredDelivery) (x : Option DeliveryState) (s : SenderState) → (outcome_read b covered x s).settlements ≡ [] → s.settlements ≡ []
outcome_none false covered x s h = h
outcome_none true covered x s h =
    let tag = covered.delivery_tag in
    let place = settling.place_of tag s in
    settled_none place tag (settlement_of x) s (echoed_none (is_some s.link.stop_reason) covered.delivery_id x (settled_at place tag (settlement_of x) s) h)

read_none : (covered : CoveredDelivery) (settled : Bool) (x : Option DeliveryState) (s : SenderState) → (disposition_read covered settled x s).settlements ≡ [] → s.settlements ≡ []
read_none covered true x s h = settled_none (settling.place_of covered.delivery_tag s) covered.delivery_tag (settlement_of x) s h
read_none covered false x s h = outcome_none _ covered x s h

credit_none : (c : Bool) (s : SenderState) → (if c then drained s else s).settlements ≡ [] → s.settlements ≡ []
credit_none true s h = h
credit_none false s h = h

flow_none : (p : LinkPhase) (x : Flow) (s : SenderState) → (flow_in p x s).settlements ≡ [] → s.settlements ≡ []
flow_none phase.Attached x s h = credit_none x.drain (record s { credit = credit_by x s }) h
flow_none p x s h = h

pushed_some : (xs : List Settlement) (x : Settlement) → xs ++ x ∷ [] ≡ [] → ⊥
pushed_some [] x h = cc
pushed_some (y ∷ ys) x h = cc

-- ---- a sender

move_unsent : (s : SenderState) (m : Move) → (after s m).settlements ≡ [] → (s.settlements ≡ []) × (sent_by s m ≡ [])
move_unsent s (sending.sends payload format settled batchable) =
    sending_cases (λ (m : Made). m.state.settlements ≡ [] → (s.settlements ≡ []) × (sent_if m.answer (message_for s payload format settled batchable) ≡ [])) payload format settled batchable s
    (λ e h. (h, refl)) (λ h. (h, refl)) (λ c l h. absurd (pushed_some s.settlements _ h))
move_unsent s (sending.hears_flow x) = λ h. (flow_none s.link.phase x s h, refl)
move_unsent s (sending.hears_disposition covered settled x) = λ h. (read_none covered settled x s h, refl)
move_unsent s m = λ h. (h, refl)

moves_unsent : (s : SenderState) (ms : List Move) → (after_all s ms).settlements ≡ [] → (s.settlements ≡ []) × (sent s ms ≡ [])
moves_unsent s [] h = (h, refl)
moves_unsent s (m ∷ ms) h =
    let r = moves_unsent (after s m) ms h in
    let p = move_unsent s m r.0 in
    (p.0, ap (λ xs. xs ++ sent (after s m) ms) p.1 ∙ r.1)

pub unsent_writes_none : UnsentWritesNone
unsent_writes_none s ms h =
    let r = moves_unsent s ms h in
    record {
      knew = r.0;
      sent = r.1;
      written = λ e. writes_what_is_sent s ms ∙ (ap (λ xs. xs ++ map part_of (sent s ms)) e ∙ ap (map part_of) r.1);
    }

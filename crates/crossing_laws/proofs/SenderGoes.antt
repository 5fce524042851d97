-- What a sender goes through, its link goes through.
use Rattle.std.specs.Prelude.{◌≡◌, ℕ, nat_lt, length, Bool, true, false, ◌&&◌, is_some, List, Option, Some, None, if◌then◌else◌, refl}
use Rattle.amqp_composites.specs.declared.modes.Role.TheVariants as role
use Rattle.amqp_link.specs.amqp_frames.amqp_termini.declared.state.DeliveryState.{DeliveryState}
use Rattle.amqp_link.specs.amqp_frames.declared.body.FrameBody.TheVariants as b
use Rattle.amqp_link.specs.amqp_frames.declared.shared.CoveredDelivery.{CoveredDelivery}
use Rattle.amqp_link.specs.amqp_performatives.declared.flow.Flow.{Flow}
use Rattle.amqp_link.specs.declared.endpoint.LinkPhase.{LinkPhase}
use Rattle.amqp_link.specs.declared.endpoint.LinkPhase.TheVariants as phase
use Rattle.amqp_link.specs.declared.error.LinkStateError.{LinkStateError}
use Rattle.amqp_link.specs.Link as link
use Rattle.amqp_link.specs.Numbers.{plus, link_flow}
use Rattle.amqp_sender.specs.declared.sender.Settlement.{Settlement}
use Rattle.amqp_sender.specs.Sender.{State}
use Rattle.amqp_sender.specs.Sending.{Made, is_too_large, is_settled, transfer_for, sending_with, sending_unless, sending, credit_by, drained, flow_in}
use Rattle.amqp_sender.specs.Settling.{settlement_of, is_terminal, place_of, settled_at, settled, echoed, is_second, outcome_read, disposition_read}
use Rattle.crossing_laws.specs.Moving.{SenderMovesItsLink}
use Rattle.crossing_laws.specs.Lives as life
use Rattle.crossing_laws.proofs.Goings.{Goes, stays, same, by, onwards}

either : (c : Bool) (s t u : State) → Goes s.link t.link → Goes s.link u.link → Goes s.link (if c then t else u).link
either true s t u p q = p
either false s t u p q = q

made : (c : Bool) (s : State) (a d : Made) → Goes s.link a.state.link → Goes s.link d.state.link → Goes s.link (if c then a else d).state.link
made true s a d p q = p
made false s a d p q = q

sends_with : (c : Bool) (payload : List ℕ) (format : ℕ) (t batchable : Bool) (s : State) → Goes s.link (sending_with c payload format t batchable s).state.link
sends_with true payload format t batchable s = by s.link (life.says (b.Transfer (transfer_for s format t batchable) payload))
sends_with false payload format t batchable s = stays s.link

sends_unless : (o : Option LinkStateError) (payload : List ℕ) (format : ℕ) (t batchable : Bool) (s : State) → Goes s.link (sending_unless o payload format t batchable s).state.link
sends_unless (Some e) payload format t batchable s = stays s.link
sends_unless None payload format t batchable s = made (link.is_detaching s.link.phase) s _ (sending_with (nat_lt 0 s.credit) payload format t batchable s) (stays s.link) (sends_with (nat_lt 0 s.credit) payload format t batchable s)

sends : (payload : List ℕ) (format : ℕ) (wanted : Option Bool) (batchable : Bool) (s : State) → Goes s.link (sending payload format wanted batchable s).state.link
sends payload format wanted batchable s =
    let t = is_settled s.link.own.snd_settle_mode wanted in
    made (is_too_large (length payload) s.link.max_message_size) s _ (sending_unless (link.refusal s.link) payload format t batchable s) (stays s.link) (sends_unless (link.refusal s.link) payload format t batchable s)

flows : (p : LinkPhase) (x : Flow) (s : State) → Goes s.link (flow_in p x s).link
flows phase.Attached x s =
    let t : State = record s { credit = credit_by x s } in
    either x.drain s (drained t) t (by s.link (life.says (b.Flow (link_flow s.link.own.handle (plus t.delivery_count t.credit) 0 true)))) (stays s.link)
flows p x s = by s.link life.hears_other

settles : (o : Option ℕ) (tag : List ℕ) (x : Settlement) (s : State) → (settled_at o tag x s).link ≡ s.link
settles None tag x s = refl
settles (Some place) tag x s = refl

echoes : (c : Bool) (number : ℕ) (x : Option DeliveryState) (s t : State) → t.link ≡ s.link → Goes s.link (echoed c number x t).link
echoes true number x s t e = same s.link t.link e
echoes false number x s t e =
    onwards s.link t.link (echoed false number x t).link (same s.link t.link e)
    (by t.link (life.says (b.Disposition (record { role = role.Sender; first = number; last = None; settled = true; state = x; batchable = false }))))

outcomes : (c : Bool) (covered : CoveredDelivery) (x : Option DeliveryState) (s : State) → Goes s.link (outcome_read c covered x s).link
outcomes false covered x s = stays s.link
outcomes true covered x s =
    let t = settled covered.delivery_tag (settlement_of x) s in
    echoes (is_some s.link.stop_reason) covered.delivery_id x s t (settles (place_of covered.delivery_tag s) covered.delivery_tag (settlement_of x) s)

dispositions : (covered : CoveredDelivery) (t : Bool) (x : Option DeliveryState) (s : State) → Goes s.link (disposition_read covered t x s).link
dispositions covered true x s = same s.link _ (settles (place_of covered.delivery_tag s) covered.delivery_tag (settlement_of x) s)
dispositions covered false x s = outcomes (is_second s.link.own.rcv_settle_mode && is_terminal x && is_some (place_of covered.delivery_tag s)) covered x s

pub sender_moves_its_link : SenderMovesItsLink
unfolding Goes
sender_moves_its_link = record {
  sends = sends;
  hears_flow = λ x s. flows s.link.phase x s;
  hears_disposition = dispositions;
}

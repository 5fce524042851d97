-- What a link with waiting calls hears of its peer (OASIS AMQP 1.0, part 2, section 2.6).
use Rattle.std.specs.Prelude.{ℕ, Bool, true, List, slice_get, Option, Some, None}
use Rattle.amqp_termini.specs.declared.state.DeliveryState.{DeliveryState}
use Rattle.amqp_performatives.specs.declared.attach.Attach.{Attach}
use Rattle.amqp_performatives.specs.declared.detach.Detach.{Detach}
use Rattle.amqp_performatives.specs.declared.flow.Flow.{Flow}
use Rattle.amqp_performatives.specs.declared.transfer.Transfer.{Transfer}
use Rattle.amqp_frames.specs.declared.shared.CoveredDelivery.{CoveredDelivery}
use Rattle.amqp_link_words.specs.amqp_sender.Sender as sender
use Rattle.amqp_link_words.specs.amqp_sender.Settling as settling
use Rattle.amqp_link_words.specs.amqp_receiver.Receiving as receiving
use Rattle.amqp_link_calls.specs.Side as side
use Rattle.amqp_link_calls.specs.Side.{Side, Sender, Receiver}
use Rattle.amqp_link_calls.specs.Called.{Called, with_side}
use Rattle.amqp_link_calls.specs.Answering.{attach_answered, attach_answered_now, outcomes_answered, outcomes_answered_now, outcome_answered}
use Rattle.amqp_link_calls.specs.Leaving.{part_answered, part_answered_now}

-- the peer's Attach was read
abbrev pub attach_read : Attach → Called → Called
attach_read x s = attach_answered_now (with_side (side.attach_read x s.side) s)

-- the peer's Flow was read
abbrev pub flow_read : Flow → Called → Called
flow_read x s = with_side (side.flow_read x s.side) s

-- a Transfer was read
abbrev pub transfer_read : Transfer → List ℕ → Called → Called
transfer_read x payload s = with_side (side.transfer_read x payload s.side) s

-- the peer's Detach was read
abbrev pub detach_read : Detach → Called → Called
detach_read d s = outcomes_answered_now (part_answered_now (attach_answered_now (with_side (side.detach_read d s.side) s)))

-- the session is over: each call that waits is answered
abbrev pub concluded : Called → Called
concluded s = outcomes_answered (part_answered (attach_answered (record s { is_concluded = true })))

-- it is known what has become of the delivery that was unsettled at that place, if there was one
abbrev pub is_done : Option ℕ → sender.State → Bool
is_done None s = true
is_done (Some place) s = settling.is_known (slice_get s.settlements place)

-- then the call that waits for its outcome is answered
abbrev pub done_answered : Option ℕ → Bool → Called → Called
done_answered (Some place) true s = outcome_answered place s
done_answered place is_done s = s

-- a Disposition was read for a delivery of this link
abbrev pub disposition_at : Side → CoveredDelivery → Bool → Option DeliveryState → Called → Called
disposition_at (Sender t) covered settled x s =
    let u = settling.disposition_read covered settled x t in
    let place = settling.place_of covered.delivery_tag t in done_answered place (is_done place u) (with_side (Sender u) s)
disposition_at (Receiver t) covered settled x s = with_side (Receiver (receiving.disposition_read covered settled t)) s

abbrev pub disposition_read : CoveredDelivery → Bool → Option DeliveryState → Called → Called
disposition_read covered settled x s = disposition_at s.side covered settled x s

-- the peer says no more of it
abbrev pub is_settled_by : Side → CoveredDelivery → Bool → Option DeliveryState → Bool
is_settled_by (Sender t) covered settled x =
    is_done (settling.place_of covered.delivery_tag t) (settling.disposition_read covered settled x t)
is_settled_by (Receiver t) covered settled x = settled

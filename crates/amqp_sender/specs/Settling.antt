-- What becomes of the deliveries of a sender (OASIS AMQP 1.0, part 2, sections 2.6.12 and 2.7.6, and part 3, section 3.4).
use Rattle.std.specs.Prelude.{◌≡◌, ℕ, Bool, true, false, is_some, ◌&&◌, List, slice_get, slice_set, Option, Some, None, Result, Ok, Err}
use Rattle.std.specs.Map.{lookup}
use Rattle.std.specs.Str.{bytes_eq}
use Rattle.indexmap.specs.IndexMap.{swap_remove_entry}
use Rattle.amqp_composites.specs.declared.modes.ReceiverSettleMode.{ReceiverSettleMode}
use Rattle.amqp_composites.specs.declared.modes.ReceiverSettleMode.TheVariants.{First, Second}
use Rattle.amqp_composites.specs.declared.modes.Role.TheVariants as role
use Rattle.amqp_termini.specs.declared.outcome.Outcome.TheVariants as outcome
use Rattle.amqp_termini.specs.declared.state.DeliveryState.{DeliveryState}
use Rattle.amqp_termini.specs.declared.state.DeliveryState.TheVariants as state
use Rattle.amqp_link.specs.amqp_frames.declared.body.FrameBody.TheVariants as b
use Rattle.amqp_link.specs.amqp_frames.declared.shared.CoveredDelivery.{CoveredDelivery}
use Rattle.amqp_link.specs.declared.error.LinkStateError.{LinkStateError}
use Rattle.amqp_link.specs.declared.error.LinkStateError.TheVariants as refused
use Rattle.amqp_link.specs.Link as link
use Rattle.amqp_sender.specs.declared.error.SendError.{SendError}
use Rattle.amqp_sender.specs.declared.error.SendError.TheVariants as error
use Rattle.amqp_sender.specs.declared.sender.OutcomePoll.{OutcomePoll}
use Rattle.amqp_sender.specs.declared.sender.OutcomePoll.TheVariants.{Pending, Ready}
use Rattle.amqp_sender.specs.declared.sender.Settlement.{Settlement}
use Rattle.amqp_sender.specs.declared.sender.Settlement.TheVariants.{Unsettled, Settled, NonTerminal, Illegal}
use Rattle.amqp_sender.specs.Sender.{State}

-- what a delivery comes to that is settled in that state
abbrev pub settlement_of : Option DeliveryState → Settlement
settlement_of None = NonTerminal
settlement_of (Some (state.Received x)) = NonTerminal
settlement_of (Some (state.Accepted x)) = Settled (outcome.Accepted x)
settlement_of (Some (state.Rejected x)) = Settled (outcome.Rejected x)
settlement_of (Some (state.Released x)) = Settled (outcome.Released x)
settlement_of (Some (state.Modified x)) = Settled (outcome.Modified x)
settlement_of (Some (state.Declared x)) = Settled (outcome.Declared x)
settlement_of (Some (state.TransactionalState x)) = Illegal

-- a state in which a delivery ends
abbrev pub is_terminal : Option DeliveryState → Bool
is_terminal None = false
is_terminal (Some (state.Received x)) = false
is_terminal (Some (state.TransactionalState x)) = false
is_terminal (Some other) = true

-- the place of the delivery of that tag, where it is not settled
abbrev pub place_of : List ℕ → State → Option ℕ
place_of tag s = lookup (bytes_eq tag) s.unsettled

-- it is settled, and the tag is free
abbrev pub settled_at : Option ℕ → List ℕ → Settlement → State → State
settled_at None tag x s = s
settled_at (Some place) tag x s = record s { settlements = slice_set s.settlements place x; unsettled = swap_remove_entry (bytes_eq tag) s.unsettled }

abbrev pub settled : List ℕ → Settlement → State → State
settled tag x s = settled_at (place_of tag s) tag x s

-- the sender settles too, and says so (section 2.6.12)
abbrev pub saying_settled : ℕ → Option DeliveryState → State → State
saying_settled number x s = record s { link = link.saying (b.Disposition (record { role = role.Sender; first = number; last = None; settled = true; state = x; batchable = false })) s.link }

-- no frame goes out in a session that has stopped
abbrev pub echoed : Bool → ℕ → Option DeliveryState → State → State
echoed true number x s = s
echoed false number x s = saying_settled number x s

abbrev pub is_second : ReceiverSettleMode → Bool
is_second First = false
is_second Second = true

-- the receiver does not settle: in mode Second the sender settles first, once the state is one in which the delivery ends
abbrev pub outcome_read : Bool → CoveredDelivery → Option DeliveryState → State → State
outcome_read false covered x s = s
outcome_read true covered x s = echoed (is_some s.link.stop_reason) covered.delivery_id x (settled covered.delivery_tag (settlement_of x) s)

-- a Disposition was read for a delivery of this link: the first that settles it counts
abbrev pub disposition_read : CoveredDelivery → Bool → Option DeliveryState → State → State
disposition_read covered true x s = settled covered.delivery_tag (settlement_of x) s
disposition_read covered false x s = outcome_read (is_second s.link.own.rcv_settle_mode && is_terminal x && is_some (place_of covered.delivery_tag s)) covered x s

-- ---- the outcome

abbrev pub unsettled_answer : Option LinkStateError → Result OutcomePoll SendError
unsettled_answer None = Ok Pending
unsettled_answer (Some e) = Err (error.LinkStateError e)

abbrev pub answer_for : Option Settlement → State → Result OutcomePoll SendError
answer_for None s = Err (error.LinkStateError refused.IllegalState)
answer_for (Some (Settled x)) s = Ok (Ready x)
answer_for (Some NonTerminal) s = Err error.NonTerminalDeliveryState
answer_for (Some Illegal) s = Err error.IllegalDeliveryState
answer_for (Some Unsettled) s = unsettled_answer (link.settlement_refusal s.link)

-- what is told of the delivery at a place
abbrev pub outcome_at : ℕ → State → Result OutcomePoll SendError
outcome_at place s = answer_for (slice_get s.settlements place) s

-- what is answered, unless memory runs out
abbrev pub TellsOutcome : Result OutcomePoll SendError → Result OutcomePoll SendError → Type 0
TellsOutcome (Err (error.Memory a)) answer = Unit {0}
TellsOutcome result answer = result ≡ answer

-- whether it is known what has become of a delivery
abbrev pub is_known : Option Settlement → Bool
is_known (Some Unsettled) = false
is_known other = true

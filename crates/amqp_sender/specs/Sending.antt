-- How a message is sent by credit (OASIS AMQP 1.0, part 2, sections 2.6.7 and 2.7.5).
use Rattle.std.specs.Prelude.{◌≡◌, ℕ, ◌-◌, Bool, true, false, not, nat_eq, nat_lt, ◌&&◌, List, [], ◌∷◌, ◌++◌, length, Option, Some, None, unwrap_or, Result, Ok, Err, if◌then◌else◌}
use Rattle.std.specs.Int.{w32, to_be_bytes}
use Rattle.std.specs.Str.{bytes_eq}
use Rattle.indexmap.specs.IndexMap.{insert_entry}
use Rattle.amqp_composites.specs.declared.modes.SenderSettleMode.{SenderSettleMode}
use Rattle.amqp_composites.specs.declared.modes.SenderSettleMode.TheVariants as mode
use Rattle.amqp_termini.specs.declared.outcome.Outcome.TheVariants.{Accepted}
use Rattle.amqp_link.specs.amqp_performatives.declared.flow.Flow.{Flow}
use Rattle.amqp_link.specs.amqp_performatives.declared.transfer.Transfer.{Transfer}
use Rattle.amqp_link.specs.amqp_frames.declared.body.FrameBody.TheVariants as b
use Rattle.amqp_link.specs.declared.endpoint.LinkPhase.{LinkPhase}
use Rattle.amqp_link.specs.declared.endpoint.LinkPhase.TheVariants as phase
use Rattle.amqp_link.specs.declared.error.DetachError.TheVariants.{IllegalState}
use Rattle.amqp_link.specs.declared.error.LinkStateError.{LinkStateError}
use Rattle.amqp_link.specs.Link as link
use Rattle.amqp_link.specs.Numbers.{minus, plus, link_flow}
use Rattle.amqp_sender.specs.declared.error.SendError.{SendError}
use Rattle.amqp_sender.specs.declared.error.SendError.TheVariants as error
use Rattle.amqp_sender.specs.declared.sender.SendReply.{SendReply}
use Rattle.amqp_sender.specs.declared.sender.SendReply.TheVariants.{Sent, Pending}
use Rattle.amqp_sender.specs.declared.sender.Settlement.{Settlement}
use Rattle.amqp_sender.specs.declared.sender.Settlement.TheVariants.{Unsettled, Settled}
use Rattle.amqp_sender.specs.Sender.{State}

-- a limit of 0 is none
abbrev pub is_too_large : ℕ → ℕ → Bool
is_too_large size limit = not (nat_eq limit 0) && nat_lt limit size

-- whether a delivery is sent settled (section 2.8.2)
abbrev pub is_settled : SenderSettleMode → Option Bool → Bool
is_settled mode.Settled wanted = true
is_settled mode.Unsettled wanted = false
is_settled mode.Mixed wanted = unwrap_or wanted false

-- the tag of a delivery is the delivery-count before it
abbrev pub tag_of : ℕ → List ℕ
tag_of count = to_be_bytes w32 count

-- its Transfer, which has no number yet
abbrev pub transfer_for : State → ℕ → Bool → Bool → Transfer
transfer_for s format settled batchable = record { handle = s.link.own.handle; delivery_id = None; delivery_tag = Some (tag_of s.delivery_count); message_format = Some format; settled = Some settled; more = false; rcv_settle_mode = None; state = None; resume = false; aborted = false; batchable = batchable }

-- a delivery that is sent settled is taken (section 2.6.12)
abbrev pub first_settlement : Bool → Settlement
first_settlement true = Settled (Accepted (record {}))
first_settlement false = Unsettled

-- it is kept what becomes of the delivery
abbrev pub entered : List ℕ → Bool → State → State
entered tag settled s = record s { settlements = s.settlements ++ first_settlement settled ∷ []; unsettled = if settled then s.unsettled else insert_entry bytes_eq s.unsettled tag (length s.settlements) }

-- a delivery takes one of the credit
abbrev pub spent : State → State
spent s = record s { credit = s.credit - 1; delivery_count = plus s.delivery_count 1 }

abbrev pub sent : List ℕ → ℕ → Bool → Bool → State → State
sent payload format settled batchable s = spent (entered (tag_of s.delivery_count) settled (record s { link = link.saying (b.Transfer (transfer_for s format settled batchable) payload) s.link }))

-- what a call that sends comes to: the sender behind it, and its answer
pub record Made : Type 0 where
  pub state : State
  pub answer : Result SendReply SendError

abbrev pub tells : Result SendReply SendError → State → Made
tells answer s = record { state = s; answer = answer }

abbrev pub sending_with : Bool → List ℕ → ℕ → Bool → Bool → State → Made
sending_with true payload format settled batchable s = tells (Ok (Sent (record { place = length s.settlements }))) (sent payload format settled batchable s)
sending_with false payload format settled batchable s = tells (Ok Pending) s

abbrev pub sending_unless : Option LinkStateError → List ℕ → ℕ → Bool → Bool → State → Made
sending_unless (Some e) payload format settled batchable s = tells (Err (error.LinkStateError e)) s
sending_unless None payload format settled batchable s =
    if link.is_detaching s.link.phase then tells (Err (error.Detached IllegalState)) s else sending_with (nat_lt 0 s.credit) payload format settled batchable s

abbrev pub sending : List ℕ → ℕ → Option Bool → Bool → State → Made
sending payload format wanted batchable s =
    if is_too_large (length payload) s.link.max_message_size then tells (Err (error.MessageSizeExceeded (length payload) s.link.max_message_size)) s else sending_unless (link.refusal s.link) payload format (is_settled s.link.own.snd_settle_mode wanted) batchable s

-- a result, the sender before and behind it: for want of memory nothing changes, else it is what is made
abbrev pub Answers : Result SendReply SendError → Made → State → State → Type 0
Answers (Err (error.Memory a)) made old new = new ≡ old
Answers result made old new = (made.answer ≡ result) × (new ≡ made.state)

-- ---- credit

-- what the receiver gives, less what it did not yet know of (section 2.6.7)
abbrev pub credit_by : Flow → State → ℕ
credit_by x s = unwrap_or x.link_credit 0 - minus s.delivery_count (unwrap_or x.delivery_count (unwrap_or s.link.own.initial_delivery_count 0))

-- the credit is used up at once, and the receiver is told (section 2.6.7)
abbrev pub drained : State → State
drained s = record s { link = link.saying (b.Flow (link_flow s.link.own.handle (plus s.delivery_count s.credit) 0 true)) s.link; credit = 0; delivery_count = plus s.delivery_count s.credit }

abbrev pub credited : Flow → State → State
credited x s = if x.drain then drained (record s { credit = credit_by x s }) else record s { credit = credit_by x s }

abbrev pub flow_in : LinkPhase → Flow → State → State
flow_in phase.Attached x s = credited x s
flow_in other x s = record s { link = link.unexpected s.link }

-- the receiver's Flow was read
abbrev pub flow_read : Flow → State → State
flow_read x s = flow_in s.link.phase x s

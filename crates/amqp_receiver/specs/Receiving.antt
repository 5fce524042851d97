-- How messages are received from the Transfers that wait (OASIS AMQP 1.0, part 2, sections 2.6.14 and 2.7.5).
use Rattle.std.specs.Prelude.{◌≡◌, ℕ, nat_eq, nat_lt, Bool, true, false, not, ◌&&◌, is_none, is_some, List, [], ◌∷◌, Option, Some, None, unwrap_or, Result, Ok, Err, codes, if◌then◌else◌}
use Rattle.amqp_composites.specs.declared.error.Error.{Error as AmqpError}
use Rattle.amqp_composites.specs.declared.modes.ReceiverSettleMode.{ReceiverSettleMode}
use Rattle.amqp_composites.specs.declared.modes.ReceiverSettleMode.TheVariants.{First, Second}
use Rattle.amqp_termini.specs.declared.state.DeliveryState.{DeliveryState}
use Rattle.amqp_performatives.specs.declared.transfer.Transfer.{Transfer}
use Rattle.amqp_link.specs.amqp_frames.declared.shared.CoveredDelivery.{CoveredDelivery}
use Rattle.amqp_parts.specs.declared.incomplete.PartError.{PartError}
use Rattle.amqp_parts.specs.declared.incomplete.PartError.TheVariants as part
use Rattle.amqp_parts.specs.Join as parts
use Rattle.amqp_delivery.specs.Book.{registered, without, recorded, completed}
use Rattle.amqp_delivery.specs.declared.info.DeliveryInfo.{DeliveryInfo}
use Rattle.amqp_link.specs.declared.error.LinkStateError.{LinkStateError}
use Rattle.amqp_link.specs.declared.error.LinkStateError.TheVariants as refused
use Rattle.amqp_link.specs.Link as link
use Rattle.amqp_receiver.specs.declared.error.RecvError.{RecvError}
use Rattle.amqp_receiver.specs.declared.error.RecvError.TheVariants as error
use Rattle.amqp_receiver.specs.declared.receiver.Incoming.{Incoming}
use Rattle.amqp_receiver.specs.declared.receiving.Received.{Received}
use Rattle.amqp_receiver.specs.Receiver.{State}

-- a delivery that is complete: what names it, the format of its message, and the bytes of its parts
pub record Got : Type 0 where
  pub info : DeliveryInfo
  pub message_format : Option ℕ
  pub payloads : List (List ℕ)

abbrev pub got : Received → Got
got x = record { info = x.info; message_format = x.message_format; payloads = x.payloads.items }

-- what a Transfer that waits comes to: the receiver behind it, and what is answered, if anything is
pub record Step : Type 0 where
  pub state : State
  pub answer : Option (Result Got RecvError)

abbrev pub goes : State → Step
goes s = record { state = s; answer = None }

abbrev pub gives : Got → State → Step
gives x s = record { state = s; answer = Some (Ok x) }

abbrev pub fails : RecvError → State → Step
fails e s = record { state = s; answer = Some (Err e) }

-- a result and the receiver behind it are what the step makes, unless memory ran out
abbrev pub Steps : Result (Option Received) RecvError → Step → State → Type 0
Steps (Ok None) step new = (step.answer ≡ None) × (new ≡ step.state)
Steps (Ok (Some x)) step new = (step.answer ≡ Some (Ok (got x))) × (new ≡ step.state)
Steps (Err (error.Memory a)) step new = Unit {0}
Steps (Err e) step new = (step.answer ≡ Some (Err e)) × (new ≡ step.state)

-- the link is closed for a Transfer that has no place, where it is still attached
abbrev pub error_of : List ℕ → AmqpError
error_of condition = record { condition = condition; description = None; info = None }

abbrev pub closed_for : List ℕ → State → State
closed_for condition s = if link.is_attached s.link.phase then record s { link = link.closing (Some (error_of condition)) s.link } else s

abbrev pub closes : RecvError → State → Step
closes e s = fails e (closed_for (codes "amqp:not-allowed") s)

-- what the parts of a delivery have said together
abbrev pub info_of : Transfer → DeliveryInfo
info_of x = record { delivery_id = unwrap_or x.delivery_id 0; delivery_tag = unwrap_or x.delivery_tag []; rcv_settle_mode = x.rcv_settle_mode }

-- the delivery is not unsettled any more
abbrev pub forgotten : Option (List ℕ) → State → State
forgotten None s = s
forgotten (Some tag) s = record s { book = without s.book tag }

-- the sender's Disposition was read (part 2, section 2.6.12)
abbrev pub disposition_read : CoveredDelivery → Bool → State → State
disposition_read covered settled s = if settled then forgotten (Some covered.delivery_tag) s else s

-- ---- the rows

abbrev pub aborted_at : Option parts.Incomplete → Transfer → State → Step
aborted_at None x s = goes s
aborted_at (Some b) x s = if parts.is_same_delivery b.transfer x then goes (forgotten b.transfer.delivery_tag (record s { buffer = None })) else closes error.InconsistentFieldInMultiFrameDelivery s

-- the Transfer goes on with the delivery that was begun
abbrev pub belongs : Option parts.Incomplete → Transfer → Bool
belongs None x = false
belongs (Some b) x = parts.is_same_delivery b.transfer x

abbrev pub size_before : Option parts.Incomplete → Transfer → ℕ
size_before None x = 0
size_before (Some b) x = if parts.is_same_delivery b.transfer x then b.size else 0

-- a limit of 0 is none
abbrev pub is_too_large : ℕ → ℕ → Bool
is_too_large size limit = not (nat_eq limit 0) && nat_lt limit size

abbrev pub is_second : Option ReceiverSettleMode → Bool
is_second (Some Second) = true
is_second other = false

abbrev pub is_first : ReceiverSettleMode → Bool
is_first First = true
is_first Second = false

-- the delivery is given where there is credit for it
abbrev pub given_if : Bool → Transfer → List (List ℕ) → State → Step
given_if true x payloads s = gives (record { info = info_of x; message_format = x.message_format; payloads = payloads }) s
given_if false x payloads s = fails error.TransferLimitExceeded (forgotten x.delivery_tag s)

-- the last part has come: the delivery-count moves, and one of the credit is taken if there is some
abbrev pub complete : parts.Incomplete → State → Step
complete b s = if is_second b.transfer.rcv_settle_mode && is_first s.book.mode then fails error.IllegalRcvSettleModeInTransfer (forgotten b.transfer.delivery_tag s) else given_if (nat_lt 0 s.book.credit) b.transfer b.payloads (record s { book = completed s.book })

abbrev pub buffered : parts.Incomplete → State → Step
buffered b s = if b.transfer.more then goes (record s { buffer = Some b }) else complete b s

-- what was said of an unsettled delivery
abbrev pub stated_at : Option (List ℕ) → DeliveryState → State → State
stated_at None state s = s
stated_at (Some tag) state s = record s { book = recorded s.book tag state }

abbrev pub stated : Option DeliveryState → Transfer → State → State
stated None x s = s
stated (Some state) x s = stated_at x.delivery_tag state s

-- a delivery that is not settled is unsettled from its first part on, until a part says that it is settled
abbrev pub entered : Transfer → State → State
entered x s = if unwrap_or x.settled false then s else record s { book = registered s.book (info_of x) }

abbrev pub settled_if : Transfer → State → State
settled_if x s = if unwrap_or x.settled false then forgotten x.delivery_tag s else s

abbrev pub started_unless : Option PartError → Option DeliveryState → Transfer → List ℕ → State → Step
started_unless (Some part.DeliveryTagIsNone) state x payload s = closes error.DeliveryTagIsNone s
started_unless (Some other) state x payload s = closes error.DeliveryIdIsNone s
started_unless None state x payload s = buffered (parts.begun x payload) (stated state x (entered x s))

-- a first part
abbrev pub started : Option DeliveryState → Transfer → List ℕ → State → Step
started state x payload s = started_unless (parts.lacks x.delivery_id x.delivery_tag) state x payload s

-- a further part
abbrev pub continued : parts.Incomplete → Option DeliveryState → Transfer → List ℕ → State → Step
continued b state x payload s = if parts.agrees b.transfer x then buffered (parts.appended b x payload) (stated state (parts.appended b x payload).transfer (settled_if (parts.appended b x payload).transfer (record s { buffer = None }))) else closes error.InconsistentFieldInMultiFrameDelivery s

abbrev pub joined_to : Option parts.Incomplete → Option DeliveryState → Transfer → List ℕ → State → Step
joined_to None state x payload s = started state x payload s
joined_to (Some b) state x payload s = continued b state x payload s

abbrev pub without_state : Transfer → Transfer
without_state x = record x { state = None }

abbrev pub joined : Transfer → List ℕ → State → Step
joined x payload s = joined_to s.buffer x.state (without_state x) payload s

-- all bytes of a delivery are counted up to 2^64 - 1
abbrev pub total : Transfer → List ℕ → State → ℕ
total x payload s = parts.counted (size_before s.buffer x) payload

abbrev pub too_large : ℕ → State → Step
too_large size s = fails (error.MessageSizeExceeded size s.link.max_message_size) (closed_for (codes "amqp:link:message-size-exceeded") (record s { buffer = None }))

-- a state says of no delivery what it is
abbrev pub is_stray_state : Transfer → State → Bool
is_stray_state x s = is_some x.state && is_none x.delivery_tag && is_none s.buffer

abbrev pub taken_whole : Transfer → List ℕ → State → Step
taken_whole x payload s = if is_stray_state x s then closes error.DeliveryTagIsNone s else (if is_too_large (total x payload s) s.link.max_message_size then too_large (total x payload s) s else joined x payload s)

-- a Transfer is taken: one that is aborted, one that resumes a delivery of which nothing is known here, or a part
unfoldable pub taken : Transfer → List ℕ → State → Step
taken x payload s = if x.aborted then aborted_at s.buffer x s else (if x.resume && not (belongs s.buffer x) then goes s else taken_whole x payload s)

-- ---- the call

abbrev pub next : Option (Result Got RecvError) → State → (State → Step) → Step
next None s go = go s
next (Some answer) s go = record { state = s; answer = Some answer }

-- these wait: they are taken in order until one answers
abbrev pub receiving : List Incoming → State → Step
receiving [] s = goes s
receiving (x ∷ xs) s = let t = taken x.transfer x.payload (record s { incoming = xs }) in next t.answer t.state (λ u. receiving xs u)

-- nothing waits any more
abbrev pub ended_as : Option LinkStateError → State → Step
ended_as None s = goes s
ended_as (Some e) s = fails (error.LinkStateError e) s

abbrev pub ended : State → Step
ended s = ended_as (link.ended_by s.link.remote s.link.stop_reason) s

abbrev pub received : State → Step
received s = if s.link.is_closed then fails (error.LinkStateError refused.IllegalState) s else (let t = receiving s.incoming s in next t.answer t.state ended)

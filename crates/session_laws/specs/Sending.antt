-- What a sender goes through: its calls and what it hears, one after another (OASIS AMQP 1.0, part 2, section 2.6).
use Rattle.std.specs.Prelude.{◌≡◌, ◌≢◌, ℕ, ◌-◌, ◌<◌, Bool, List, [], ◌∷◌, ◌++◌, map, Option, Some, None, unwrap_or, Result, Ok}
use Rattle.amqp_composites.specs.declared.error.Error.{Error as AmqpError}
use Rattle.amqp_termini.specs.declared.state.DeliveryState.{DeliveryState}
use Rattle.amqp_performatives.specs.declared.attach.Attach.{Attach}
use Rattle.amqp_performatives.specs.declared.detach.Detach.{Detach}
use Rattle.amqp_performatives.specs.declared.flow.Flow.{Flow}
use Rattle.amqp_frames.specs.declared.body.FrameBody.{FrameBody}
use Rattle.amqp_frames.specs.declared.shared.CoveredDelivery.{CoveredDelivery}
use Rattle.amqp_frames.specs.declared.shared.SessionStopReason.{SessionStopReason}
use Rattle.amqp_link.specs.declared.endpoint.LinkPhase.{LinkPhase}
use Rattle.amqp_link.specs.declared.endpoint.LinkPhase.TheVariants as phase
use Rattle.amqp_link.specs.Link as link
use Rattle.amqp_link.specs.Numbers.{minus, plus}
use Rattle.amqp_link.specs.Parting as parting
use Rattle.amqp_sender.specs.declared.error.SendError.{SendError}
use Rattle.amqp_sender.specs.declared.sender.SendReply.{SendReply}
use Rattle.amqp_sender.specs.declared.sender.SendReply.TheVariants.{Sent}
use Rattle.amqp_sender.specs.Parting.{reattached}
use Rattle.amqp_sender.specs.Sender.{State}
use Rattle.amqp_sender.specs.Sending.{sending, tag_of, is_settled, flow_read}
use Rattle.amqp_sender.specs.Settling.{disposition_read}
use Rattle.session_laws.specs.Messages.{Message, part_of, transfers}

-- A call: to send, to learn how far the attach is, to detach or close, to abandon, to attach again, or that there is no handle for that.
-- What is heard: each frame, and that the session has stopped. All that is to be written is taken off.
pub data Move : Type 0 where
  sends : List ℕ → ℕ → Option Bool → Bool → Move
  polls : Move
  parts : Bool → Option AmqpError → Move
  abandons : Move
  reattaches : ℕ → Move
  stays : Move
  hears_attach : Attach → Move
  hears_flow : Flow → Move
  hears_transfer : Move
  hears_disposition : CoveredDelivery → Bool → Option DeliveryState → Move
  hears_detach : Detach → Move
  stops : SessionStopReason → Move
  hands_over : Move

abbrev pub with_link : link.Link → State → State
with_link l s = record s { link = l }

-- the sender behind a move
abbrev pub after : State → Move → State
after s (sends payload format settled batchable) = (sending payload format settled batchable s).state
after s polls = with_link (link.polled s.link).link s
after s (parts closes error) = with_link (parting.parting closes error s.link).link s
after s abandons = with_link (parting.abandoned s.link) s
after s (reattaches handle) = reattached handle s
after s stays = with_link (parting.unplaced s.link) s
after s (hears_attach x) = with_link (link.attach_read x s.link) s
after s (hears_flow x) = flow_read x s
after s hears_transfer = with_link (link.unexpected s.link) s
after s (hears_disposition covered settled x) = disposition_read covered settled x s
after s (hears_detach d) = with_link (link.detach_read d s.link) s
after s (stops why) = with_link (link.stopped why s.link) s
after s hands_over = with_link (record s.link { output = [] }) s

abbrev pub after_all : State → List Move → State
after_all s [] = s
after_all s (m ∷ ms) = after_all (after s m) ms

-- the frames that a move takes off
abbrev pub handed : State → Move → List FrameBody
handed s hands_over = s.link.output
handed s other = []

abbrev pub handed_all : State → List Move → List FrameBody
handed_all s [] = []
handed_all s (m ∷ ms) = handed s m ++ handed_all (after s m) ms

-- all frames that it has written, in order: those that were taken off, and those that are still to be
abbrev pub written : State → List Move → List FrameBody
written s ms = handed_all s ms ++ (after_all s ms).link.output

-- ---- what was sent

-- the message of a call that sends
abbrev pub message_for : State → List ℕ → ℕ → Option Bool → Bool → Message
message_for s payload format settled batchable = record { handle = s.link.own.handle; tag = tag_of s.delivery_count; format = format; settled = is_settled s.link.own.snd_settle_mode settled; batchable = batchable; payload = payload }

abbrev pub sent_if : Result SendReply SendError → Message → List Message
sent_if (Ok (Sent x)) m = m ∷ []
sent_if other m = []

-- it is sent where the call is answered so
abbrev pub sent_by : State → Move → List Message
sent_by s (sends payload format settled batchable) = sent_if (sending payload format settled batchable s).answer (message_for s payload format settled batchable)
sent_by s other = []

-- the messages that were sent, in order
abbrev pub sent : State → List Move → List Message
sent s [] = []
sent s (m ∷ ms) = sent_by s m ++ sent (after s m) ms

-- ---- credit

-- what a receiver has given: so many deliveries behind that delivery-count (section 2.6.7)
pub record Grant : Type 0 where
  pub count : ℕ
  pub credit : ℕ

-- what a Flow gives: one without a count has not seen a delivery
abbrev pub grant_in : Flow → State → Grant
grant_in x s = record { count = unwrap_or x.delivery_count (unwrap_or s.link.own.initial_delivery_count 0); credit = unwrap_or x.link_credit 0 }

abbrev pub granted_in : LinkPhase → Flow → State → Grant → Grant
granted_in phase.Attached x s g = grant_in x s
granted_in other x s g = g

-- the last Flow counts that is read while the link is attached, and nothing is given before the first on a further attachment
abbrev pub granted : State → Move → Grant → Grant
granted s (hears_flow x) g = granted_in s.link.phase x s g
granted s (reattaches handle) g = record g { credit = 0 }
granted s other g = g

abbrev pub granted_all : State → List Move → Grant → Grant
granted_all s [] g = g
granted_all s (m ∷ ms) g = granted_all (after s m) ms (granted s m g)

-- the credit is what was given, less what has been sent since
abbrev pub Keeps : Grant → State → Type 0
Keeps g s = s.credit ≡ g.credit - minus s.delivery_count g.count

-- the credit of a Flow, if it has one, is a number of 32 bits, as it is in each frame
abbrev pub IsShort : Option ℕ → Type 0
IsShort None = Unit {0}
IsShort (Some n) = n < 4294967296

abbrev pub ComesShort : Move → Type 0
ComesShort (hears_flow x) = IsShort x.link_credit
ComesShort other = Unit {0}

abbrev pub AllShort : List Move → Type 0
AllShort [] = Unit {0}
AllShort (m ∷ ms) = ComesShort m × AllShort ms

-- ---- laws

-- the Transfers that a sender writes are those of the messages that it has sent, in order
abbrev pub WritesWhatIsSent : Type 0
WritesWhatIsSent = (s : State) (ms : List Move) → transfers (written s ms) ≡ transfers s.link.output ++ map part_of (sent s ms)

-- a message that is sent takes one of the credit, where there is some, and moves the delivery-count by one
pub record TakesCredit (s t : State) : Type 0 where
  pub had : 0 < s.credit
  pub left : t.credit ≡ s.credit - 1
  pub count : t.delivery_count ≡ plus s.delivery_count 1

abbrev pub SendsForCredit : Type 0
SendsForCredit = (s : State) (m : Move) → sent_by s m ≢ [] → TakesCredit s (after s m)

-- whatever a sender goes through: its credit is what its receiver gave last, less what it has sent since
abbrev pub KeepsCredit : Type 0
KeepsCredit = (g : Grant) (s : State) (ms : List Move) → g.credit < 4294967296 → AllShort ms → Keeps g s → Keeps (granted_all s ms g) (after_all s ms)

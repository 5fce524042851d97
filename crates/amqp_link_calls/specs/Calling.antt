-- What calls on a link come to (OASIS AMQP 1.0, part 2, sections 2.6.7 and 2.6.12).
use Rattle.std.specs.Prelude.{◌≡◌, ◌⊎◌, ℕ, nat_eq, Bool, true, false, if◌then◌else◌, List, Option, Some, None, Ok, Err}
use Rattle.indexmap.specs.IndexMap.{insert_entry, swap_remove_entry}
use Rattle.amqp_termini.specs.TerminalState.{state_of_terminal}
use Rattle.amqp_messages.specs.Reading.{IsTheMessage, SpellsMessage}
use Rattle.amqp_delivery.specs.declared.info.DeliveryInfo.{DeliveryInfo}
use Rattle.amqp_link.specs.declared.error.IllegalLinkStateError.TheVariants as illegal
use Rattle.amqp_link.specs.declared.error.LinkStateError.TheVariants.{IllegalState}
use Rattle.amqp_link_words.specs.amqp_sender.declared.sender.DeliveryToken.{DeliveryToken}
use Rattle.amqp_link_words.specs.amqp_sender.Sender as sender
use Rattle.amqp_link_words.specs.amqp_sender.Sending as sending
use Rattle.amqp_link_words.specs.amqp_receiver.declared.error.RecvError.{RecvError}
use Rattle.amqp_link_words.specs.amqp_receiver.declared.error.RecvError.TheVariants.{LinkStateError, MessageDecode}
use Rattle.amqp_link_words.specs.amqp_receiver.AutoAccept.{auto_accepted}
use Rattle.amqp_link_words.specs.amqp_receiver.Delivering.{all_bytes}
use Rattle.amqp_link_words.specs.amqp_receiver.Disposing.{disposed}
use Rattle.amqp_link_words.specs.amqp_receiver.Receiver as receiver
use Rattle.amqp_link_words.specs.amqp_receiver.Receiving.{Got, Step, received}
use Rattle.amqp_link_words.specs.declared.link_call.Disposal.{Disposal}
use Rattle.amqp_link_words.specs.declared.link_call.Sendable.{Sendable}
use Rattle.amqp_link_words.specs.declared.link_reply.LinkReply.{LinkReply}
use Rattle.amqp_link_words.specs.declared.link_reply.LinkReply.TheVariants as reply
use Rattle.amqp_link_calls.specs.Answering.{outcome_now}
use Rattle.amqp_link_calls.specs.Called.{Called, with_side, awaits_outcome}
use Rattle.amqp_link_calls.specs.Replies.{no_sender, sent_reply, sent_token, is_pending, disposal_reply, credit_reply, terminal_of}
use Rattle.amqp_link_calls.specs.Side.{Side, Sender, Receiver}

-- what a call comes to: the side behind it, and its answer
pub record Made : Type 0 where
  pub side : Side
  pub reply : LinkReply

abbrev pub answers : LinkReply → Side → Made
answers reply s = record { side = s; reply = reply }

-- ---- a call that sends

-- the message goes out in format 0
abbrev pub sending_of : Sendable → sender.State → sending.Made
sending_of x s = sending.sending x.payload 0 x.settled x.batchable s

abbrev pub sends : Sendable → Side → Made
sends x (Sender s) = let m = sending_of x s in answers (sent_reply m.answer) (Sender m.state)
sends x (Receiver s) = answers no_sender (Receiver s)

-- the delivery that is sent
abbrev pub token_of : Sendable → Side → Option DeliveryToken
token_of x (Sender s) = sent_token (sending_of x s).answer
token_of x (Receiver s) = None

abbrev pub having_sent : Sendable → Called → Called
having_sent x s = with_side (sends x s.side).side s

-- ---- a call for an outcome

abbrev pub awaiting : Bool → ℕ → ℕ → Called → Called
awaiting true name place s = record s { waiting = insert_entry nat_eq s.waiting place name }
awaiting false name place s = s

-- it waits while nothing is known
abbrev pub outcome_asked : ℕ → ℕ → Called → Called
outcome_asked name place s = awaiting (is_pending (outcome_now place s)) name place s

-- the time of the call of that name is over: it waits no more
abbrev pub outcome_given_up : ℕ → ℕ → Called → Called
outcome_given_up name place s =
    if awaits_outcome name place s then record s { waiting = swap_remove_entry (nat_eq place) s.waiting } else s

-- ---- a call that receives

-- the receiver behind that answer: a message that is given is accepted, where that is to be done at once
abbrev pub having_told : LinkReply → receiver.State → receiver.State
having_told (reply.Delivery info message) s = auto_accepted info (received s).state
having_told answer s = (received s).state

abbrev pub having_received : LinkReply → Side → Side
having_received answer (Sender s) = Sender s
having_received answer (Receiver s) = Receiver (having_told answer s)

-- a delivery was complete whose bytes spell no message
abbrev pub IsUnreadable : RecvError → Got → Type 0
IsUnreadable (MessageDecode info source) x = (info ≡ x.info) × IsTheMessage (Err source) (SpellsMessage (all_bytes x.payloads))
IsUnreadable other x = ⊥

-- nothing was complete; or a delivery was, and this is its message; or this is why there is none
abbrev pub TellsReceived : LinkReply → Step → Type 0
TellsReceived reply.Pending step = step.answer ≡ None
TellsReceived (reply.Delivery info message) step =
    (x : Got) × ((step.answer ≡ Some (Ok x)) × (info ≡ x.info) × IsTheMessage (Ok message.value) (SpellsMessage (all_bytes x.payloads)))
TellsReceived (reply.RecvError e) step =
    (step.answer ≡ Some (Err e)) ⊎ ((x : Got) × ((step.answer ≡ Some (Ok x)) × IsUnreadable e x))
TellsReceived other step = ⊥

abbrev pub Receives : LinkReply → Side → Type 0
Receives answer (Sender s) = answer ≡ reply.RecvError (LinkStateError IllegalState)
Receives answer (Receiver s) = TellsReceived answer (received s)

-- ---- calls that settle deliveries and give credit

abbrev pub disposing : Disposal → List DeliveryInfo → receiver.State → receiver.Made
disposing x infos s = disposed infos (state_of_terminal (terminal_of x)) s

abbrev pub disposes : Disposal → List DeliveryInfo → Side → Made
disposes x infos (Sender s) = answers (reply.DispositionError illegal.IllegalState) (Sender s)
disposes x infos (Receiver s) = let m = disposing x infos s in answers (disposal_reply m.answer) (Receiver m.state)

abbrev pub sets_credit : ℕ → Side → Made
sets_credit credit (Sender s) = answers (reply.FlowError illegal.IllegalState) (Sender s)
sets_credit credit (Receiver s) = let m = receiver.credit_set credit s in answers (credit_reply m.answer) (Receiver m.state)

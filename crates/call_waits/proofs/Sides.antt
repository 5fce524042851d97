-- What one end of a link keeps as it goes on.
use Rattle.std.specs.Prelude.{ℕ, Bool, List, [], Option, refl}
use Rattle.amqp_composites.specs.declared.error.Error.{Error as AmqpError}
use Rattle.amqp_performatives.specs.declared.attach.Attach.{Attach}
use Rattle.amqp_performatives.specs.declared.flow.Flow.{Flow}
use Rattle.amqp_performatives.specs.declared.transfer.Transfer.{Transfer}
use Rattle.amqp_termini.specs.TerminalState.{state_of_terminal}
use Rattle.amqp_delivery.specs.declared.info.DeliveryInfo.{DeliveryInfo}
use Rattle.amqp_delivery.specs.declared.info.DisposerView.{DisposerView}
use Rattle.amqp_link.specs.Link as link
use Rattle.amqp_link.specs.Link.{Link}
use Rattle.amqp_link_words.specs.declared.link_call.Disposal.{Disposal}
use Rattle.amqp_link_words.specs.declared.link_call.Sendable.{Sendable}
use Rattle.amqp_link_words.specs.declared.link_reply.LinkReply.{LinkReply}
use Rattle.amqp_link_words.specs.declared.link_reply.LinkReply.TheVariants as reply
use Rattle.amqp_link_words.specs.declared.regulation.Regulation.{Regulation}
use Rattle.amqp_link_words.specs.declared.regulation.Regulation.TheVariants as regulation
use Rattle.amqp_link_calls.specs.Calling.{sends, having_told, having_received, disposing, disposes, sets_credit}
use Rattle.amqp_link_calls.specs.Disposers.{disposing_by, disposes_by}
use Rattle.amqp_link_calls.specs.Regulating.{regulating, regulates}
use Rattle.amqp_link_calls.specs.Replies.{terminal_of}
use Rattle.amqp_link_calls.specs.Side as side
use Rattle.amqp_link_calls.specs.Side.{Side, Sender, Receiver, link_of, with_link}
use Rattle.amqp_receiver.specs.Receiver.{State as ReceiverState, flow_read, transfer_read, credit_set}
use Rattle.amqp_receiver.specs.Regulating.{credit_mode_set, auto_accept_set}
use Rattle.amqp_sender.specs.Sender.{State as SenderState}
use Rattle.amqp_sender.specs.Sending.{sending, flow_read as sender_flow}
use Rattle.call_waits.specs.Waits.{IsUnsettled}
use Rattle.call_waits.proofs.Links as links
use Rattle.call_waits.proofs.Links.{Stays, Awaits, LetGo, attach_stays, unexpected_keeps, polled_keeps, parting_keeps, abandoned_lets}
use Rattle.call_waits.proofs.Receivers as receivers
use Rattle.call_waits.proofs.Senders as senders

-- its link stays as it is, and a delivery of which nothing was told does
pub record Holds (s t : Side) : Type 0 where
  pub stays : Stays (link_of s) (link_of t)
  pub unsettled : (place : ℕ) → IsUnsettled place s → IsUnsettled place t

-- and an answer of the peer to its Attach is awaited still
pub record Keeps (s t : Side) : Type 0 where
  pub holds : Holds s t
  pub awaits : Awaits (link_of s) (link_of t)

pub keeps_on : (s : Side) → Keeps s s
keeps_on s = record { holds = record { stays = (links.keeps_on (link_of s)).stays; unsettled = λ place h. h }; awaits = λ h. h }

-- ---- its link goes on

pub unsettled_link : (m : Link) (s : Side) (place : ℕ) → IsUnsettled place s → IsUnsettled place (with_link m s)
unsettled_link m (Sender s) place h = h
unsettled_link m (Receiver s) place h = h

pub linked : (m : Link) (s : Side) → links.Keeps (link_of s) m → Keeps s (with_link m s)
linked m (Sender s) k = record { holds = record { stays = k.stays; unsettled = λ place h. h }; awaits = k.awaits }
linked m (Receiver s) k = record { holds = record { stays = k.stays; unsettled = λ place h. h }; awaits = k.awaits }

pub written_keeps : (s : Side) → Keeps s (with_link (record (link_of s) { output = [] }) s)
written_keeps s =
    linked (record (link_of s) { output = [] }) s (record { stays = record { done = λ h. (h, refl, refl); remote = refl; gone = refl; stop = refl }; awaits = λ h. h })

pub polls_keeps : (s : Side) → Keeps s (side.polled s)
polls_keeps s = linked (link.polled (link_of s)).link s (polled_keeps (link_of s))

pub parts_keeps : (closes : Bool) (x : Option AmqpError) (s : Side) → Keeps s (side.parts closes x s).side
parts_keeps closes x (Sender s) = let k = parting_keeps closes x s.link in record { holds = record { stays = k.stays; unsettled = λ place h. h }; awaits = k.awaits }
parts_keeps closes x (Receiver s) = let k = parting_keeps closes x s.link in record { holds = record { stays = k.stays; unsettled = λ place h. h }; awaits = k.awaits }

pub lets_go : (s : Side) → LetGo (link_of s) (link_of (side.abandoned s))
lets_go (Sender s) = abandoned_lets s.link
lets_go (Receiver s) = abandoned_lets s.link

-- ---- senders and receivers

sent : (s t : SenderState) → senders.Keeping s t → Keeps (Sender s) (Sender t)
sent s t k = record { holds = record { stays = k.link.stays; unsettled = k.unsettled }; awaits = k.link.awaits }

received : (s t : ReceiverState) → receivers.Stays s t → Keeps (Receiver s) (Receiver t)
received s t k = record { holds = record { stays = k.keeps.stays; unsettled = λ place h. h }; awaits = k.keeps.awaits }

pub sends_keeps : (x : Sendable) (s : Side) → Keeps s (sends x s).side
sends_keeps x (Sender s) = sent s (sending x.payload 0 x.settled x.batchable s).state (senders.sending_keeping x.payload 0 x.settled x.batchable s)
sends_keeps x (Receiver s) = keeps_on (Receiver s)

told_stays : (answer : LinkReply) (s : ReceiverState) → receivers.Stays s (having_told answer s)
told_stays (reply.Delivery info message) s = receivers.accepting_stays info s
told_stays answer s = receivers.receives_stays s

pub receives_keeps : (answer : LinkReply) (s : Side) → Keeps s (having_received answer s)
receives_keeps answer (Sender s) = keeps_on (Sender s)
receives_keeps answer (Receiver s) = received s (having_told answer s) (told_stays answer s)

pub disposes_keeps : (x : Disposal) (infos : List DeliveryInfo) (s : Side) → Keeps s (disposes x infos s).side
disposes_keeps x infos (Sender s) = keeps_on (Sender s)
disposes_keeps x infos (Receiver s) = received s (disposing x infos s).state (receivers.disposed_stays infos (state_of_terminal (terminal_of x)) s)

pub disposes_by_keeps : (view : DisposerView) (x : Disposal) (infos : List DeliveryInfo) (s : Side) → Keeps s (disposes_by view x infos s).side
disposes_by_keeps view x infos (Sender s) = keeps_on (Sender s)
disposes_by_keeps view x infos (Receiver s) = received s (disposing_by view x infos s).state (receivers.disposed_by_stays view infos (state_of_terminal (terminal_of x)) s)

pub credit_keeps : (credit : ℕ) (s : Side) → Keeps s (sets_credit credit s).side
credit_keeps credit (Sender s) = keeps_on (Sender s)
credit_keeps credit (Receiver s) = received s (credit_set credit s).state (receivers.credit_set_stays credit s)

regulating_stays : (x : Regulation) (s : ReceiverState) → receivers.Stays s (regulating x s).state
regulating_stays (regulation.CreditMode mode) s = receivers.same_link s (credit_mode_set mode s) refl
regulating_stays (regulation.AutoAccept value) s = receivers.same_link s (auto_accept_set value s) refl
regulating_stays regulation.Drain s = receivers.drain_asked_stays s
regulating_stays regulation.Properties s = receivers.properties_stay s

pub regulates_keeps : (x : Regulation) (s : Side) → Keeps s (regulates x s).side
regulates_keeps x (Sender s) = keeps_on (Sender s)
regulates_keeps x (Receiver s) = received s (regulating x s).state (regulating_stays x s)

-- ---- what is read

pub flow_keeps : (x : Flow) (s : Side) → Keeps s (side.flow_read x s)
flow_keeps x (Sender s) = sent s (sender_flow x s) (senders.flow_keeping x s)
flow_keeps x (Receiver s) = received s (flow_read x s) (receivers.hears_flow x s)

pub transfer_keeps : (x : Transfer) (payload : List ℕ) (s : Side) → Keeps s (side.transfer_read x payload s)
transfer_keeps x payload (Sender s) = let k = unexpected_keeps s.link in record { holds = record { stays = k.stays; unsettled = λ place h. h }; awaits = k.awaits }
transfer_keeps x payload (Receiver s) = received s (transfer_read x payload s) (receivers.hears_transfer x payload s)

pub attach_holds : (x : Attach) (s : Side) → Holds s (side.attach_read x s)
attach_holds x (Sender s) = record { stays = attach_stays x s.link; unsettled = λ place h. h }
attach_holds x (Receiver s) = record { stays = receivers.hears_attach x s; unsettled = λ place h. h }

pub reattached_holds : (handle : ℕ) (s : Side) → Holds s (side.reattached handle s)
reattached_holds handle (Sender s) = record { stays = record { done = λ h. absurd cc; remote = refl; gone = refl; stop = refl }; unsettled = λ place h. h }
reattached_holds handle (Receiver s) = record { stays = record { done = λ h. absurd cc; remote = refl; gone = refl; stop = refl }; unsettled = λ place h. h }

-- A call waits at a link for the peer, for the end of its session, or not at all (OASIS AMQP 1.0, part 2, section 2.6).
use Rattle.std.specs.Prelude.{◌≡◌, ℕ, Bool, false, None}
use Rattle.amqp_performatives.specs.declared.attach.Attach.{Attach}
use Rattle.amqp_delivery.specs.declared.info.CreditMode.{CreditMode}
use Rattle.amqp_link.specs.declared.settings.AcceptSettings.{AcceptSettings}
use Rattle.amqp_link.specs.Link.{refusal}
use Rattle.amqp_link_words.specs.declared.link_call.Sendable.{Sendable}
use Rattle.amqp_link_words.specs.declared.link_reply.LinkReply.TheVariants as reply
use Rattle.amqp_link_calls.specs.Answering.{accept_answered}
use Rattle.amqp_link_calls.specs.Called.{Called, sender_asked, receiver_asked, accepted}
use Rattle.amqp_link_calls.specs.Calling.{Receives, sends}
use Rattle.amqp_link_calls.specs.Side.{Sender, Receiver}
use Rattle.amqp_receiver.specs.Receiver.{State as ReceiverState}
use Rattle.amqp_receiver.specs.declared.settings.ReceiverSettings.{ReceiverSettings}
use Rattle.amqp_sender.specs.Sender.{State as SenderState}
use Rattle.amqp_sender.specs.declared.settings.SenderSettings.{SenderSettings}
use Rattle.call_waits.specs.Moves.{Move, May, after}
use Rattle.call_waits.specs.Waits.{Waits}

-- where a call attaches a sender or a receiver
abbrev pub SenderWaits : Type 0
SenderWaits = (name session handle : ℕ) (x : SenderSettings) → Waits (sender_asked name session x handle)

abbrev pub ReceiverWaits : Type 0
ReceiverWaits = (name session handle : ℕ) (x : ReceiverSettings) → Waits (receiver_asked name session x handle)

-- where a call accepts a link
abbrev pub AcceptedWaits : Type 0
AcceptedWaits =
    (session handle : ℕ) (settings : AcceptSettings) (mode : CreditMode) (auto : Bool) (x : Attach)
    → Waits (accept_answered (accepted session settings mode auto handle x))

-- and whatever a link goes through
abbrev pub WaitsOn : Type 0
WaitsOn = (m : Move) (l : Called) → May m l → Waits l → Waits (after m l)

-- a `send` without a time that is told to wait does so for credit alone, and nothing was done (section 2.6.7)
abbrev pub SendWaits : Type 0
SendWaits =
    (x : Sendable) (s : SenderState) → (sends x (Sender s)).reply ≡ reply.Pending
    → (s.credit ≡ 0) × (refusal s.link ≡ None) × ((sends x (Sender s)).side ≡ Sender s)

-- a `recv` is told to wait while neither end has left the link and its session goes on
abbrev pub RecvWaits : Type 0
RecvWaits =
    (s : ReceiverState) → Receives reply.Pending (Receiver s)
    → (s.link.is_closed ≡ false) × (s.link.remote ≡ None) × (s.link.stop_reason ≡ None)

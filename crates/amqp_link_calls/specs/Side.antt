-- One end of a link, as its rules see it (OASIS AMQP 1.0, part 2, section 2.6).
use Rattle.std.specs.Prelude.{◌≡◌, ℕ, Bool, false, is_some, List, Option, Result, Err}
use Rattle.amqp_composites.specs.declared.modes.Role.{Role}
use Rattle.amqp_composites.specs.declared.modes.Role.TheVariants as role
use Rattle.amqp_performatives.specs.declared.attach.Attach.{Attach}
use Rattle.amqp_performatives.specs.declared.detach.Detach.{Detach}
use Rattle.amqp_performatives.specs.declared.flow.Flow.{Flow}
use Rattle.amqp_performatives.specs.declared.transfer.Transfer.{Transfer}
use Rattle.amqp_frames.specs.declared.body.FrameBody.{FrameBody}
use Rattle.amqp_frames.specs.declared.shared.SessionStopReason.{SessionStopReason}
use Rattle.amqp_link.specs.declared.endpoint.AttachPoll.{AttachPoll}
use Rattle.amqp_link.specs.declared.error.AttachError.{AttachError}
use Rattle.amqp_link.specs.declared.error.AttachError.TheVariants.{Memory}
use Rattle.amqp_link.specs.Link as link
use Rattle.amqp_link.specs.declared.endpoint.DetachPoll.{DetachPoll}
use Rattle.amqp_link.specs.declared.error.DetachError.{DetachError}
use Rattle.amqp_link.specs.Parting as parting
use Rattle.amqp_composites.specs.declared.error.Error.{Error as AmqpError}
use Rattle.amqp_link_words.specs.amqp_sender.Parting as again
use Rattle.amqp_link_words.specs.amqp_receiver.Parting as once_more
use Rattle.amqp_link_words.specs.amqp_sender.Sender as sender
use Rattle.amqp_link_words.specs.amqp_sender.Sending as sending
use Rattle.amqp_link_words.specs.amqp_receiver.Receiver as receiver
use Rattle.amqp_link_calls.specs.declared.side.LinkSide.{LinkSide}
use Rattle.amqp_link_calls.specs.declared.side.LinkSide.TheVariants as side

-- it sends, or it receives
pub data Side : Type 0 where
  Sender : sender.State → Side
  Receiver : receiver.State → Side

abbrev pub seen : LinkSide → Side
seen (side.Sender s) = Sender (sender.seen s)
seen (side.Receiver s) = Receiver (receiver.seen s)

-- what both kinds of ends have
abbrev pub link_of : Side → link.Link
link_of (Sender s) = s.link
link_of (Receiver s) = s.link

abbrev pub with_link : link.Link → Side → Side
with_link l (Sender s) = Sender (record s { link = l })
with_link l (Receiver s) = Receiver (record s { link = l })

abbrev pub role_of : Side → Role
role_of (Sender s) = role.Sender
role_of (Receiver s) = role.Receiver

-- how many deliveries may still be sent, as far as this end knows
abbrev pub credit_of : Side → ℕ
credit_of (Sender s) = s.credit
credit_of (Receiver s) = s.book.credit

abbrev pub is_stopped : Side → Bool
is_stopped s = is_some (link_of s).stop_reason

-- a sender learns no outcome any more
abbrev pub is_closed_by_both : Side → Bool
is_closed_by_both (Sender s) = link.is_closed_by_both s.link
is_closed_by_both (Receiver s) = false

-- ---- what is read

abbrev pub attach_read : Attach → Side → Side
attach_read x (Sender s) = Sender (record s { link = link.attach_read x s.link })
attach_read x (Receiver s) = Receiver (receiver.attach_read x s)

abbrev pub flow_read : Flow → Side → Side
flow_read x (Sender s) = Sender (sending.flow_read x s)
flow_read x (Receiver s) = Receiver (receiver.flow_read x s)

-- a sender has no use for a Transfer
abbrev pub transfer_read : Transfer → List ℕ → Side → Side
transfer_read x payload (Sender s) = Sender (record s { link = link.unexpected s.link })
transfer_read x payload (Receiver s) = Receiver (receiver.transfer_read x payload s)

abbrev pub detach_read : Detach → Side → Side
detach_read d s = with_link (link.detach_read d (link_of s)) s

-- the session has stopped: the first reason stays
abbrev pub stopped : SessionStopReason → Side → Side
stopped why s = with_link (link.stopped why (link_of s)) s

-- ---- what is told

-- how far the attach is
abbrev pub polled_answer : Side → Result AttachPoll AttachError
polled_answer s = (link.polled (link_of s)).answer

-- why it failed is told once
abbrev pub polled : Side → Side
polled s = with_link (link.polled (link_of s)).link s

-- a poll, the side before and behind it, unless memory ran out
abbrev pub Polls : Result AttachPoll AttachError → Side → Side → Type 0
Polls (Err (Memory a)) old new = Unit {0}
Polls result old new = (polled_answer old ≡ result) × (new ≡ polled old)

-- the first frame to be written is taken off
abbrev pub TakesFrame : Side → Option FrameBody → Side → Type 0
TakesFrame old x new = link.TakesFrame (link_of old) x (link_of new) × (new ≡ with_link (link_of new) old)

-- ---- how it is left

-- what a call that detaches comes to: the side behind it, and what the call is told
pub record PartedSide : Type 0 where
  pub side : Side
  pub answer : DetachPoll

abbrev pub parts : Bool → Option AmqpError → Side → PartedSide
parts closes error s = let m = parting.parting closes error (link_of s) in record { side = with_link m.link s; answer = m.answer }

abbrev pub parted_poll : Bool → Side → DetachPoll
parted_poll closes s = parting.parted_poll closes (link_of s)

abbrev pub detach_news : Side → Option DetachError
detach_news s = parting.detach_news (link_of s)

abbrev pub abandoned : Side → Side
abandoned s = with_link (parting.abandoned (link_of s)) s

abbrev pub unplaced : Side → Side
unplaced s = with_link (parting.unplaced (link_of s)) s

abbrev pub reattached : ℕ → Side → Side
reattached handle (Sender s) = Sender (again.reattached handle s)
reattached handle (Receiver s) = Receiver (once_more.reattached handle s)

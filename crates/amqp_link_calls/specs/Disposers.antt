-- Disposers of the deliveries of a link, and which deliveries are settled (OASIS AMQP 1.0, part 2, section 2.6.12).
use Rattle.std.specs.Prelude.{Bool, false, ◌&&◌, List, Option, Some, None}
use Rattle.amqp_termini.specs.TerminalState.{state_of_terminal}
use Rattle.amqp_delivery.specs.Book as book
use Rattle.amqp_delivery.specs.declared.info.DeliveryInfo.{DeliveryInfo}
use Rattle.amqp_delivery.specs.declared.info.DisposerView.{DisposerView}
use Rattle.amqp_link.specs.declared.error.IllegalLinkStateError.TheVariants as illegal
use Rattle.amqp_link.specs.Link as link
use Rattle.amqp_link_words.specs.declared.link_call.Disposal.{Disposal}
use Rattle.amqp_link_words.specs.declared.link_reply.LinkReply.TheVariants as reply
use Rattle.amqp_link_words.specs.amqp_receiver.Disposing as disposing
use Rattle.amqp_link_words.specs.amqp_receiver.Receiver as receiver
use Rattle.amqp_link_calls.specs.Calling.{Made, answers}
use Rattle.amqp_link_calls.specs.Replies.{disposal_reply, terminal_of}
use Rattle.amqp_link_calls.specs.Side.{Side, Sender, Receiver}

-- what a disposer keeps of the link; a sender gives no deliveries
abbrev pub view_of : Side → Option DisposerView
view_of (Sender s) = None
view_of (Receiver s) = Some (book.view_of s.book s.link.own.handle)

abbrev pub disposing_by : DisposerView → Disposal → List DeliveryInfo → receiver.State → receiver.Made
disposing_by view x infos s = disposing.disposed_by view infos (state_of_terminal (terminal_of x)) s

-- deliveries are given a state by the view that a disposer keeps
abbrev pub disposes_by : DisposerView → Disposal → List DeliveryInfo → Side → Made
disposes_by view x infos (Sender s) = answers (reply.DispositionError illegal.IllegalState) (Sender s)
disposes_by view x infos (Receiver s) = let m = disposing_by view x infos s in answers (disposal_reply m.answer) (Receiver m.state)

-- whether a delivery is settled as it is disposed of
abbrev pub settles : DeliveryInfo → Side → Bool
settles info (Sender s) = false
settles info (Receiver s) = disposing.settles info s

-- whether it is settled as it is given
abbrev pub settles_at_once : DeliveryInfo → Side → Bool
settles_at_once info (Sender s) = false
settles_at_once info (Receiver s) = s.auto_accept && disposing.settles info s

-- whether Transfers that are read begin deliveries
abbrev pub is_receiving : Side → Bool
is_receiving (Sender s) = false
is_receiving (Receiver s) = link.is_attached s.link.phase

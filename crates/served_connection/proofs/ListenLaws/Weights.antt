-- How many deliveries end among what waits at an end, and among what it answers.
use Rattle.std.specs.Prelude.{ℕ, ◌+◌, List}
use Rattle.amqp_frames.specs.declared.body.FrameBody.{FrameBody}
use Rattle.amqp_parts.specs.declared.part.Part.{Part}
use Rattle.amqp_link_words.specs.declared.link_reply.LinkReply.{LinkReply}
use Rattle.amqp_link_words.specs.declared.link_reply.LinkReply.TheVariants as reply
use Rattle.amqp_link_words.specs.declared.link_reply.NamedLinkReply.{NamedLinkReply}
use Rattle.amqp_link_calls.specs.Called.{Called}
use Rattle.amqp_link_calls.specs.Side.{Side, Sender, Receiver}
use Rattle.amqp_links.specs.State.{State as Links}
use Rattle.amqp_receiver.specs.declared.receiver.Incoming.{Incoming}
use Rattle.amqp_receiver.specs.Receiver.{State as ReceiverState}
use Rattle.amqp_session.specs.declared.session.LinkInput.{LinkInput}
use Rattle.amqp_session.specs.declared.session.LinkInput.TheVariants as input
use Rattle.amqp_session_links.specs.State.{State as Place}
use Rattle.served_connection.specs.ListenLaws.Ended.{end_of}
use Rattle.served_connection.proofs.ListenLaws.Totals.{total, weigh}

abbrev pub of_waiting : Incoming → ℕ
of_waiting x = end_of x.transfer

-- the Transfers that wait at a receiver
abbrev pub of_receiver : ReceiverState → ℕ
of_receiver s = total of_waiting s.incoming

abbrev pub of_part : Part → ℕ
of_part p = end_of p.transfer

abbrev pub of_side : Side → ℕ
of_side (Sender s) = 0
of_side (Receiver s) = of_receiver s

-- an answer that gives a delivery
abbrev pub is_given : LinkReply → ℕ
is_given (reply.Delivery info message) = 1
is_given other = 0

abbrev pub given_of : NamedLinkReply → ℕ
given_of r = is_given r.reply

-- a link, with the answers of the calls that have waited at it
abbrev pub of_called : Called → ℕ
of_called l = of_side l.side + total given_of l.answers

abbrev pub of_input : LinkInput → ℕ
of_input (input.Transfer x payload) = end_of x
of_input other = 0

abbrev pub of_inputs : List LinkInput → ℕ
of_inputs xs = total of_input xs

-- what was read of handles that no link has
abbrev pub of_place : Place → ℕ
of_place p = weigh of_inputs p.early

-- the links of an end, and their answers
abbrev pub of_links : Links → ℕ
of_links s = total given_of s.replies + (weigh of_called s.endpoints + weigh of_place s.sessions)

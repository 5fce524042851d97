-- Calls that have a receiver go on otherwise (OASIS AMQP 1.0, part 2, section 2.6.7).
use Rattle.amqp_link.specs.declared.error.IllegalLinkStateError.TheVariants as illegal
use Rattle.amqp_link_words.specs.declared.link_reply.LinkReply.TheVariants as reply
use Rattle.amqp_link_words.specs.declared.regulation.Regulation.{Regulation}
use Rattle.amqp_link_words.specs.declared.regulation.Regulation.TheVariants as regulation
use Rattle.amqp_link_words.specs.amqp_receiver.Receiver as receiver
use Rattle.amqp_link_words.specs.amqp_receiver.Regulating.{credit_mode_set, auto_accept_set, drain_asked, properties_told}
use Rattle.amqp_link_calls.specs.Calling.{Made, answers}
use Rattle.amqp_link_calls.specs.Replies.{credit_reply}
use Rattle.amqp_link_calls.specs.Side.{Side, Sender, Receiver}

-- a receiver goes on so
abbrev pub regulating : Regulation → receiver.State → receiver.Made
regulating (regulation.CreditMode mode) s = receiver.works (credit_mode_set mode s)
regulating (regulation.AutoAccept value) s = receiver.works (auto_accept_set value s)
regulating regulation.Drain s = drain_asked s
regulating regulation.Properties s = properties_told s

abbrev pub regulates : Regulation → Side → Made
regulates x (Sender s) = answers (reply.FlowError illegal.IllegalState) (Sender s)
regulates x (Receiver s) = let m = regulating x s in answers (credit_reply m.answer) (Receiver m.state)

-- What calls on links are answered, and the states in which deliveries end (OASIS AMQP 1.0, part 3, section 3.4).
use Rattle.std.specs.Prelude.{ℕ, Bool, true, false, List, Option, Some, None, Result, Ok, Err}
use Rattle.amqp_composites.specs.declared.error.Error.{Error as AmqpError}
use Rattle.amqp_composites.specs.declared.modes.Role.{Role}
use Rattle.amqp_composites.specs.declared.modes.Role.TheVariants as role
use Rattle.amqp_termini.specs.declared.terminal_state.TerminalDeliveryState.{TerminalDeliveryState}
use Rattle.amqp_termini.specs.declared.terminal_state.TerminalDeliveryState.TheVariants as state
use Rattle.amqp_link.specs.declared.error.AttachError.{AttachError}
use Rattle.amqp_link.specs.declared.error.IllegalLinkStateError.{IllegalLinkStateError}
use Rattle.amqp_link.specs.declared.error.LinkStateError.TheVariants.{IllegalState}
use Rattle.amqp_link_words.specs.amqp_sender.declared.error.SendError.{SendError}
use Rattle.amqp_link_words.specs.amqp_sender.declared.error.SendError.TheVariants.{LinkStateError}
use Rattle.amqp_link_words.specs.amqp_sender.declared.sender.DeliveryToken.{DeliveryToken}
use Rattle.amqp_link_words.specs.amqp_sender.declared.sender.OutcomePoll.{OutcomePoll}
use Rattle.amqp_link_words.specs.amqp_sender.declared.sender.OutcomePoll.TheVariants as outcome
use Rattle.amqp_link_words.specs.amqp_sender.declared.sender.SendReply.{SendReply}
use Rattle.amqp_link_words.specs.amqp_sender.declared.sender.SendReply.TheVariants as sent
use Rattle.amqp_link_words.specs.declared.link_call.Disposal.{Disposal}
use Rattle.amqp_link_words.specs.declared.link_call.Disposal.TheVariants as disposal
use Rattle.amqp_link_words.specs.declared.link_reply.AcceptError.TheVariants.{LocalSender, LocalReceiver}
use Rattle.amqp_link_words.specs.declared.link_reply.LinkReply.{LinkReply}
use Rattle.amqp_link_words.specs.declared.link_reply.LinkReply.TheVariants as reply

-- a link of that role is made
abbrev pub made_reply : Role → LinkReply
made_reply role.Sender = reply.Sender
made_reply role.Receiver = reply.Receiver

-- a link that this end attaches is not made
abbrev pub attach_error : Role → AttachError → LinkReply
attach_error role.Sender e = reply.SenderAttachError e
attach_error role.Receiver e = reply.ReceiverAttachError e

-- a link that this end accepts is not made
abbrev pub accept_error : Role → AttachError → LinkReply
accept_error role.Sender e = reply.AcceptError (LocalSender e)
accept_error role.Receiver e = reply.AcceptError (LocalReceiver e)

-- a receiver sends nothing
abbrev pub no_sender : LinkReply
no_sender = reply.SendError (LinkStateError IllegalState)

abbrev pub sent_reply : Result SendReply SendError → LinkReply
sent_reply (Ok (sent.Sent token)) = reply.Sent
sent_reply (Ok sent.Pending) = reply.Pending
sent_reply (Err e) = reply.SendError e

-- the delivery that was sent
abbrev pub sent_token : Result SendReply SendError → Option DeliveryToken
sent_token (Ok (sent.Sent token)) = Some token
sent_token other = None

abbrev pub outcome_reply : Result OutcomePoll SendError → LinkReply
outcome_reply (Ok outcome.Pending) = reply.Pending
outcome_reply (Ok (outcome.Ready x)) = reply.Outcome x
outcome_reply (Err e) = reply.SendError e

abbrev pub is_pending : LinkReply → Bool
is_pending reply.Pending = true
is_pending other = false

abbrev pub disposal_reply : Option IllegalLinkStateError → LinkReply
disposal_reply None = reply.Done
disposal_reply (Some e) = reply.DispositionError e

abbrev pub credit_reply : Option IllegalLinkStateError → LinkReply
credit_reply None = reply.Done
credit_reply (Some e) = reply.FlowError e

-- a flag that is not set is left out
abbrev pub flag : Bool → Option Bool
flag true = Some true
flag false = None

-- the error with that condition alone
abbrev pub error_of : Option (List ℕ) → Option AmqpError
error_of None = None
error_of (Some condition) = Some (record { condition = condition; description = None; info = None })

-- the state in which deliveries are to end
abbrev pub terminal_of : Disposal → TerminalDeliveryState
terminal_of disposal.Accepted = state.Accepted (record {})
terminal_of (disposal.Rejected condition) = state.Rejected (record { error = error_of condition })
terminal_of disposal.Released = state.Released (record {})
terminal_of (disposal.Modified failed undeliverable) =
    state.Modified (record { delivery_failed = flag failed; undeliverable_here = flag undeliverable; message_annotations = None })

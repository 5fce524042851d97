-- The text of the answers to calls for links.
use Rattle.std.specs.Prelude.{List, ℕ, ◌++◌, Bool, true, false, ◌&&◌, nat_le, if◌then◌else◌, codes, decimal, Option, Some, None}
use Rattle.amqp_data.specs.Data.{Items, items_depth}
use Rattle.amqp_value.specs.Canonical.{canonical_items}
use Rattle.amqp_composites.specs.declared.error.Error.{Error}
use Rattle.amqp_termini.specs.declared.outcome.Outcome.{Outcome}
use Rattle.amqp_termini.specs.declared.outcome.Outcome.TheVariants as outcome
use Rattle.amqp_termini.specs.declared.states.Modified.{Modified}
use Rattle.amqp_messages.specs.declared.message.Message.{Message}
use Rattle.amqp_messages.specs.Message.{Said, seen}
use Rattle.amqp_messages.specs.Writing.{message_items}
use Rattle.amqp_delivery.specs.declared.info.DeliveryInfo.{DeliveryInfo}
use Rattle.amqp_link_words.specs.declared.link_reply.LinkReply.{LinkReply}
use Rattle.amqp_link_words.specs.declared.link_reply.LinkReply.TheVariants as reply
use Rattle.amqp_script.specs.Hex.{bytes_text}
use Rattle.amqp_script.specs.Info.{are_sized, info_text, fault_text}
use Rattle.amqp_error_texts.specs.LinkText.{attach_text, accept_text, illegal_state_text, detach_text, send_text, recv_text}

abbrev pub flag_text : Option Bool → List ℕ
flag_text None = codes "-"
flag_text (Some true) = codes "yes"
flag_text (Some false) = codes "no"

abbrev pub optional_fault_text : Option Error → List ℕ
optional_fault_text None = codes "-"
optional_fault_text (Some e) = fault_text e

abbrev pub modified_text : Modified → List ℕ
modified_text m =
    codes "modified " ++ flag_text m.delivery_failed ++ codes " " ++ flag_text m.undeliverable_here ++ codes " " ++ info_text m.message_annotations

-- the state in which a delivery ended (OASIS AMQP 1.0, part 3, section 3.4)
abbrev pub state_text : Outcome → List ℕ
state_text (outcome.Accepted x) = codes "accepted"
state_text (outcome.Rejected x) = codes "rejected " ++ optional_fault_text x.error
state_text (outcome.Released x) = codes "released"
state_text (outcome.Modified x) = modified_text x
state_text (outcome.Declared x) = codes "declared " ++ bytes_text x.txn_id

-- each length has room in 32 bits, and no section is nested too deep
abbrev pub do_fit : Items → Bool
do_fit items = are_sized items && nat_le (items_depth items) 33

abbrev pub items_text : Items → List ℕ
items_text items = if do_fit items then bytes_text (canonical_items items) else codes "long"

-- the canonical bytes of a message (part 3, section 3.2)
abbrev pub message_text : Message Said → List ℕ
message_text m = items_text (message_items m)

-- the number and the tag of a delivery, and its message
abbrev pub delivery_text : DeliveryInfo → Message Said → List ℕ
delivery_text info m =
    codes "delivery " ++ decimal info.delivery_id ++ codes " " ++ bytes_text info.delivery_tag ++ codes " " ++ message_text m

-- the answer to a call for a link
abbrev pub link_answer_text : LinkReply → List ℕ
link_answer_text reply.Pending = codes "pending"
link_answer_text reply.Sender = codes "sender"
link_answer_text reply.Receiver = codes "receiver"
link_answer_text reply.Sent = codes "sent"
link_answer_text reply.Disposer = codes "disposer"
link_answer_text (reply.Outcome x) = codes "outcome " ++ state_text x
link_answer_text (reply.Delivery info message) = delivery_text info (seen message.value)
link_answer_text reply.Done = codes "done"
link_answer_text (reply.Credit n) = codes "credit " ++ decimal n
link_answer_text (reply.SenderAttachError e) = codes "error SenderAttach." ++ attach_text e
link_answer_text (reply.ReceiverAttachError e) = codes "error ReceiverAttach." ++ attach_text e
link_answer_text (reply.AcceptError e) = codes "error Accept." ++ accept_text e
link_answer_text (reply.SendError e) = codes "error Send." ++ send_text e
link_answer_text (reply.RecvError e) = codes "error Recv." ++ recv_text e
link_answer_text (reply.DispositionError e) = codes "error Disposition." ++ illegal_state_text e
link_answer_text (reply.FlowError e) = codes "error Flow." ++ illegal_state_text e
link_answer_text reply.Elapsed = codes "error Elapsed"
link_answer_text reply.Detached = codes "detached"
link_answer_text reply.Closed = codes "closed"
link_answer_text (reply.DetachError e) = codes "error Detach." ++ detach_text e

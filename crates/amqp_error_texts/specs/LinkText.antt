-- Errors of links in the text of a trace: the variants from outside inwards, joined by points, and the innermost one's fields.
use Rattle.std.specs.Prelude.{List, ℕ, ◌++◌, codes, decimal, Option, Some, None}
use Rattle.amqp_composites.specs.declared.modes.ReceiverSettleMode.{ReceiverSettleMode}
use Rattle.amqp_composites.specs.declared.modes.ReceiverSettleMode.TheVariants as mode
use Rattle.amqp_fields.specs.declared.error.BaseError.{BaseError}
use Rattle.amqp_fields.specs.declared.error.BaseError.TheVariants as base
use Rattle.amqp_delivery.specs.declared.info.DeliveryInfo.{DeliveryInfo}
use Rattle.amqp_link.specs.declared.error.AttachError.{AttachError}
use Rattle.amqp_link.specs.declared.error.AttachError.TheVariants as attach
use Rattle.amqp_link.specs.declared.error.DetachError.{DetachError}
use Rattle.amqp_link.specs.declared.error.DetachError.TheVariants as detach
use Rattle.amqp_link.specs.declared.error.LinkStateError.{LinkStateError}
use Rattle.amqp_link.specs.declared.error.LinkStateError.TheVariants as link
use Rattle.amqp_link.specs.declared.error.IllegalLinkStateError.{IllegalLinkStateError}
use Rattle.amqp_link.specs.declared.error.IllegalLinkStateError.TheVariants as state
use Rattle.amqp_sender.specs.declared.error.SendError.{SendError}
use Rattle.amqp_sender.specs.declared.error.SendError.TheVariants as send
use Rattle.amqp_receiver.specs.declared.error.RecvError.{RecvError}
use Rattle.amqp_receiver.specs.declared.error.RecvError.TheVariants as recv
use Rattle.amqp_link_words.specs.declared.link_reply.AcceptError.{AcceptError}
use Rattle.amqp_link_words.specs.declared.link_reply.AcceptError.TheVariants as accept
use Rattle.amqp_script.specs.Hex.{bytes_text}
use Rattle.amqp_error_texts.specs.SessionText.{with_text, session_reason_text}

-- the name of the variant
abbrev pub attach_name : AttachError → List ℕ
attach_name (attach.Memory e) = codes "Memory"
attach_name (attach.SessionStopped reason) = codes "SessionStopped"
attach_name attach.SessionNotMapped = codes "SessionNotMapped"
attach_name attach.DuplicatedLinkName = codes "DuplicatedLinkName"
attach_name attach.HandleMaxReached = codes "HandleMaxReached"
attach_name attach.IllegalState = codes "IllegalState"
attach_name (attach.RemoteClosedWithError e) = codes "RemoteClosedWithError"
attach_name attach.NonAttachFrameReceived = codes "NonAttachFrameReceived"
attach_name attach.ExpectImmediateDetach = codes "ExpectImmediateDetach"
attach_name attach.CoordinatorIsNotImplemented = codes "CoordinatorIsNotImplemented"
attach_name attach.IncomingTargetIsNone = codes "IncomingTargetIsNone"
attach_name attach.IncomingSourceIsNone = codes "IncomingSourceIsNone"
attach_name attach.InitialDeliveryCountIsNone = codes "InitialDeliveryCountIsNone"
attach_name attach.SndSettleModeNotSupported = codes "SndSettleModeNotSupported"
attach_name attach.TargetAddressIsNoneWhenDynamicIsTrue = codes "TargetAddressIsNoneWhenDynamicIsTrue"
attach_name attach.SourceAddressIsSomeWhenDynamicIsTrue = codes "SourceAddressIsSomeWhenDynamicIsTrue"
attach_name attach.TargetAddressIsSomeWhenDynamicIsTrue = codes "TargetAddressIsSomeWhenDynamicIsTrue"
attach_name attach.SourceAddressIsNoneWhenDynamicIsTrue = codes "SourceAddressIsNoneWhenDynamicIsTrue"
attach_name attach.DynamicNodePropertiesIsSomeWhenDynamicIsFalse = codes "DynamicNodePropertiesIsSomeWhenDynamicIsFalse"
attach_name attach.DynamicRefused = codes "DynamicRefused"

-- why a link is not attached
abbrev pub attach_text : AttachError → List ℕ
attach_text (attach.SessionStopped reason) = codes "SessionStopped." ++ session_reason_text reason
attach_text (attach.RemoteClosedWithError e) = with_text (codes "RemoteClosedWithError") e
attach_text e = attach_name e

-- why an end of a link is not attached at an end that accepts it; `DynamicRefused` stands alone
abbrev pub placed_text : List ℕ → AttachError → List ℕ
placed_text place attach.DynamicRefused = codes "DynamicRefused"
placed_text place e = place ++ attach_text e

-- why a link is not accepted
abbrev pub accept_text : AcceptError → List ℕ
accept_text (accept.LocalSender e) = placed_text (codes "LocalSender.") e
accept_text (accept.LocalReceiver e) = placed_text (codes "LocalReceiver.") e

-- why a link takes no call that sends or receives
abbrev pub link_state_text : LinkStateError → List ℕ
link_state_text link.IllegalState = codes "IllegalState"
link_state_text (link.SessionStopped reason) = codes "SessionStopped." ++ session_reason_text reason
link_state_text link.RemoteDetached = codes "RemoteDetached"
link_state_text (link.RemoteDetachedWithError e) = with_text (codes "RemoteDetachedWithError") e
link_state_text link.RemoteClosed = codes "RemoteClosed"
link_state_text (link.RemoteClosedWithError e) = with_text (codes "RemoteClosedWithError") e
link_state_text link.ExpectImmediateDetach = codes "ExpectImmediateDetach"

-- why a link takes no call that settles deliveries or gives credit
abbrev pub illegal_state_text : IllegalLinkStateError → List ℕ
illegal_state_text (state.Memory e) = codes "Memory"
illegal_state_text state.IllegalState = codes "IllegalState"
illegal_state_text (state.SessionStopped reason) = codes "SessionStopped." ++ session_reason_text reason

-- why a link is not detached or closed as it was asked, or how the peer has detached it
abbrev pub detach_text : DetachError → List ℕ
detach_text detach.IllegalState = codes "IllegalState"
detach_text (detach.SessionStopped reason) = codes "SessionStopped." ++ session_reason_text reason
detach_text (detach.RemoteDetachedWithError e) = with_text (codes "RemoteDetachedWithError") e
detach_text detach.ClosedByRemote = codes "ClosedByRemote"
detach_text detach.DetachedByRemote = codes "DetachedByRemote"
detach_text (detach.RemoteClosedWithError e) = with_text (codes "RemoteClosedWithError") e

-- a message is larger than the link takes: its size and the limit, in bytes
abbrev pub size_text : ℕ → ℕ → List ℕ
size_text size most = codes "MessageSizeExceeded " ++ decimal size ++ codes " " ++ decimal most

-- why a message is not sent, or has no outcome
abbrev pub send_text : SendError → List ℕ
send_text (send.Memory e) = codes "Memory"
send_text (send.LinkStateError e) = codes "LinkStateError." ++ link_state_text e
send_text (send.Detached e) = codes "Detached." ++ detach_text e
send_text send.NonTerminalDeliveryState = codes "NonTerminalDeliveryState"
send_text send.IllegalDeliveryState = codes "IllegalDeliveryState"
send_text (send.MessageSizeExceeded size most) = size_text size most
send_text send.MessageEncodeError = codes "MessageEncodeError"

abbrev pub mode_text : Option ReceiverSettleMode → List ℕ
mode_text None = codes "-"
mode_text (Some mode.First) = codes "first"
mode_text (Some mode.Second) = codes "second"

abbrev pub base_text : BaseError → List ℕ
base_text (base.Memory e) = codes "Memory"
base_text base.Decode = codes "Decode"
base_text base.Size = codes "Size"

-- the number, the tag and the settle mode of a delivery
unfoldable pub info_text : DeliveryInfo → List ℕ
info_text info = decimal info.delivery_id ++ codes " " ++ bytes_text info.delivery_tag ++ codes " " ++ mode_text info.rcv_settle_mode

-- a delivery whose bytes are no message, and why
abbrev pub decode_text : DeliveryInfo → BaseError → List ℕ
decode_text info e = codes "MessageDecode " ++ info_text info ++ codes " " ++ base_text e

-- why there is no message
abbrev pub recv_text : RecvError → List ℕ
recv_text (recv.Memory e) = codes "Memory"
recv_text (recv.LinkStateError e) = codes "LinkStateError." ++ link_state_text e
recv_text recv.TransferLimitExceeded = codes "TransferLimitExceeded"
recv_text recv.DeliveryIdIsNone = codes "DeliveryIdIsNone"
recv_text recv.DeliveryTagIsNone = codes "DeliveryTagIsNone"
recv_text (recv.MessageDecode info e) = decode_text info e
recv_text recv.IllegalRcvSettleModeInTransfer = codes "IllegalRcvSettleModeInTransfer"
recv_text recv.InconsistentFieldInMultiFrameDelivery = codes "InconsistentFieldInMultiFrameDelivery"
recv_text (recv.MessageSizeExceeded size most) = size_text size most
recv_text recv.TransactionalAcquisitionIsNotImeplemented = codes "TransactionalAcquisitionIsNotImeplemented"

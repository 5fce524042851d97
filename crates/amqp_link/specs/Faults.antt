-- What an end refuses in an Attach, and the errors that tell of it (OASIS AMQP 1.0, part 2, sections 2.6.3, 2.8.15 and 2.8.18).
use Rattle.std.specs.Prelude.{ℕ, List, Option, Some, None, codes}
use Rattle.amqp_composites.specs.declared.error.Error.{Error as AmqpError}
use Rattle.amqp_frames.specs.declared.shared.AllocLinkError.{AllocLinkError}
use Rattle.amqp_frames.specs.declared.shared.AllocLinkError.TheVariants as place
use Rattle.amqp_link.specs.declared.error.AttachError.{AttachError}
use Rattle.amqp_link.specs.declared.error.AttachError.TheVariants as error
use Rattle.amqp_link.specs.declared.error.AttachFault.{AttachFault}
use Rattle.amqp_link.specs.declared.error.AttachFault.TheVariants as fault

-- the condition that the peer is told, if it is told one
abbrev pub condition_of : AttachFault → Option (List ℕ)
condition_of fault.NonAttachFrameReceived = Some (codes "amqp:not-allowed")
condition_of fault.ExpectImmediateDetach = Some (codes "amqp:not-allowed")
condition_of fault.CoordinatorIsNotImplemented = Some (codes "amqp:not-implemented")
condition_of fault.IncomingTargetIsNone = None
condition_of fault.IncomingSourceIsNone = None
condition_of fault.InitialDeliveryCountIsNone = Some (codes "amqp:invalid-field")
condition_of fault.SndSettleModeNotSupported = None
condition_of fault.TargetAddressIsNoneWhenDynamicIsTrue = Some (codes "amqp:invalid-field")
condition_of fault.SourceAddressIsSomeWhenDynamicIsTrue = Some (codes "amqp:invalid-field")
condition_of fault.TargetAddressIsSomeWhenDynamicIsTrue = Some (codes "amqp:invalid-field")
condition_of fault.SourceAddressIsNoneWhenDynamicIsTrue = Some (codes "amqp:invalid-field")
condition_of fault.DynamicNodePropertiesIsSomeWhenDynamicIsFalse = Some (codes "amqp:invalid-field")
condition_of fault.DynamicRefused = Some (codes "amqp:not-implemented")

-- the name of the fault, by which it is described; none where this end makes no nodes
abbrev pub name_of : AttachFault → Option (List ℕ)
name_of fault.NonAttachFrameReceived = Some (codes "NonAttachFrameReceived")
name_of fault.ExpectImmediateDetach = Some (codes "ExpectImmediateDetach")
name_of fault.CoordinatorIsNotImplemented = Some (codes "CoordinatorIsNotImplemented")
name_of fault.IncomingTargetIsNone = None
name_of fault.IncomingSourceIsNone = None
name_of fault.InitialDeliveryCountIsNone = Some (codes "InitialDeliveryCountIsNone")
name_of fault.SndSettleModeNotSupported = None
name_of fault.TargetAddressIsNoneWhenDynamicIsTrue = Some (codes "TargetAddressIsNoneWhenDynamicIsTrue")
name_of fault.SourceAddressIsSomeWhenDynamicIsTrue = Some (codes "SourceAddressIsSomeWhenDynamicIsTrue")
name_of fault.TargetAddressIsSomeWhenDynamicIsTrue = Some (codes "TargetAddressIsSomeWhenDynamicIsTrue")
name_of fault.SourceAddressIsNoneWhenDynamicIsTrue = Some (codes "SourceAddressIsNoneWhenDynamicIsTrue")
name_of fault.DynamicNodePropertiesIsSomeWhenDynamicIsFalse = Some (codes "DynamicNodePropertiesIsSomeWhenDynamicIsFalse")
name_of fault.DynamicRefused = None

abbrev pub described : Option (List ℕ) → Option (List ℕ) → Option AmqpError
described None name = None
described (Some condition) name = Some (record { condition = condition; description = name; info = None })

-- the error of the Detach that refuses the link
abbrev pub error_for : AttachFault → Option AmqpError
error_for x = described (condition_of x) (name_of x)

-- what this end's own caller is told
abbrev pub told_of : AttachFault → AttachError
told_of fault.NonAttachFrameReceived = error.NonAttachFrameReceived
told_of fault.ExpectImmediateDetach = error.ExpectImmediateDetach
told_of fault.CoordinatorIsNotImplemented = error.CoordinatorIsNotImplemented
told_of fault.IncomingTargetIsNone = error.IncomingTargetIsNone
told_of fault.IncomingSourceIsNone = error.IncomingSourceIsNone
told_of fault.InitialDeliveryCountIsNone = error.InitialDeliveryCountIsNone
told_of fault.SndSettleModeNotSupported = error.SndSettleModeNotSupported
told_of fault.TargetAddressIsNoneWhenDynamicIsTrue = error.TargetAddressIsNoneWhenDynamicIsTrue
told_of fault.SourceAddressIsSomeWhenDynamicIsTrue = error.SourceAddressIsSomeWhenDynamicIsTrue
told_of fault.TargetAddressIsSomeWhenDynamicIsTrue = error.TargetAddressIsSomeWhenDynamicIsTrue
told_of fault.SourceAddressIsNoneWhenDynamicIsTrue = error.SourceAddressIsNoneWhenDynamicIsTrue
told_of fault.DynamicNodePropertiesIsSomeWhenDynamicIsFalse = error.DynamicNodePropertiesIsSomeWhenDynamicIsFalse
told_of fault.DynamicRefused = error.DynamicRefused

-- a session that has no place for the link (section 2.6.3)
abbrev pub told_of_place : AllocLinkError → AttachError
told_of_place (place.Memory a) = error.Memory a
told_of_place (place.SessionStopped why) = error.SessionStopped why
told_of_place place.SessionNotMapped = error.SessionNotMapped
told_of_place place.DuplicatedLinkName = error.DuplicatedLinkName
told_of_place place.HandleMaxReached = error.HandleMaxReached

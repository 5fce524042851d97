-- What is refused in an Attach (OASIS AMQP 1.0, part 2, sections 2.6.3 and 2.7.3, and part 3, sections 3.5.1 to 3.5.4).
use Rattle.std.specs.Prelude.{Bool, true, false, not, ◌&&◌, ◌||◌, is_some, is_none, Option, Some, None, if◌then◌else◌}
use Rattle.amqp_composites.specs.Modes.{same_sender_mode}
use Rattle.amqp_composites.specs.declared.modes.Role.{Role}
use Rattle.amqp_composites.specs.declared.modes.Role.TheVariants as role
use Rattle.amqp_composites.specs.declared.modes.SenderSettleMode.{SenderSettleMode}
use Rattle.amqp_composites.specs.declared.modes.SenderSettleMode.TheVariants.{Mixed}
use Rattle.amqp_frames.specs.amqp_termini.declared.source.Source.{Source}
use Rattle.amqp_frames.specs.amqp_termini.declared.target_archetype.TargetArchetype.{TargetArchetype}
use Rattle.amqp_frames.specs.amqp_termini.declared.target_archetype.TargetArchetype.TheVariants as archetype
use Rattle.amqp_frames.specs.amqp_performatives.declared.attach.Attach.{Attach}
use Rattle.amqp_link.specs.declared.error.AttachFault.{AttachFault}
use Rattle.amqp_link.specs.declared.error.AttachFault.TheVariants as fault

-- the target is a coordinator of transactions
abbrev pub is_coordinator : Option TargetArchetype → Bool
is_coordinator (Some (archetype.Coordinator x)) = true
is_coordinator (Some (archetype.Target x)) = false
is_coordinator None = false

-- a source, a target that is to be made, with an address or without
abbrev pub is_dynamic_source : Bool → Option Source → Bool
is_dynamic_source named (Some x) = x.dynamic && (if named then is_some x.address else is_none x.address)
is_dynamic_source named None = false

abbrev pub is_dynamic_target : Bool → Option TargetArchetype → Bool
is_dynamic_target named (Some (archetype.Target x)) = x.dynamic && (if named then is_some x.address else is_none x.address)
is_dynamic_target named (Some (archetype.Coordinator x)) = false
is_dynamic_target named None = false

-- a terminus that is not to be made has properties of its node
abbrev pub is_stray_source : Option Source → Bool
is_stray_source (Some x) = not x.dynamic && is_some x.dynamic_node_properties
is_stray_source None = false

abbrev pub is_stray_target : Option TargetArchetype → Bool
is_stray_target (Some (archetype.Target x)) = not x.dynamic && is_some x.dynamic_node_properties
is_stray_target (Some (archetype.Coordinator x)) = false
is_stray_target None = false

-- a sender that has said its mode wants no other
abbrev pub is_other_mode : SenderSettleMode → SenderSettleMode → Bool
is_other_mode Mixed peer = false
is_other_mode own peer = not (same_sender_mode own peer)

-- the fault, where the test passes; else what comes next
abbrev pub first_fault : Bool → AttachFault → Option AttachFault → Option AttachFault
first_fault true x next = Some x
first_fault false x next = next

-- whether this end answers the peer's Attach with its own; the peer's termini as a sender verifies them
abbrev pub sender_termini : Bool → Attach → Option AttachFault
sender_termini accepts x =
    first_fault (is_dynamic_target false x.target) fault.TargetAddressIsNoneWhenDynamicIsTrue (first_fault (accepts && is_dynamic_source true x.source) fault.SourceAddressIsSomeWhenDynamicIsTrue
    (first_fault (is_stray_source x.source || is_stray_target x.target) fault.DynamicNodePropertiesIsSomeWhenDynamicIsFalse None))

-- as a receiver does
abbrev pub receiver_termini : Bool → Attach → Option AttachFault
receiver_termini accepts x =
    first_fault (accepts && is_dynamic_target true x.target) fault.TargetAddressIsSomeWhenDynamicIsTrue (first_fault (not accepts && is_dynamic_source false x.source) fault.SourceAddressIsNoneWhenDynamicIsTrue
    (first_fault (is_stray_source x.source || is_stray_target x.target) fault.DynamicNodePropertiesIsSomeWhenDynamicIsFalse None))

-- what a sender of that mode refuses first; `verify` says whether the termini are looked at
abbrev pub sender_fault : Bool → Bool → SenderSettleMode → Attach → Option AttachFault
sender_fault accepts verify mode x =
    first_fault (is_coordinator x.target) fault.CoordinatorIsNotImplemented (first_fault (is_none x.target) fault.IncomingTargetIsNone
    (first_fault (is_other_mode mode x.snd_settle_mode) fault.SndSettleModeNotSupported (if verify then sender_termini accepts x else None)))

-- what a receiver refuses first
abbrev pub receiver_fault : Bool → Bool → Attach → Option AttachFault
receiver_fault accepts verify x =
    first_fault (is_coordinator x.target) fault.CoordinatorIsNotImplemented (first_fault (is_none x.source) fault.IncomingSourceIsNone
    (first_fault (is_none x.initial_delivery_count) fault.InitialDeliveryCountIsNone (if verify then receiver_termini accepts x else None)))

-- what an end of that role refuses first
abbrev pub fault_of : Role → Bool → Bool → SenderSettleMode → Attach → Option AttachFault
fault_of role.Sender accepts verify mode x = sender_fault accepts verify mode x
fault_of role.Receiver accepts verify mode x = receiver_fault accepts verify x

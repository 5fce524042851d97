-- What an end answers an Attach with (OASIS AMQP 1.0, part 2, sections 2.6.3 and 2.7.3).
use Rattle.std.specs.Prelude.{ℕ, Bool, true, false, ◌&&◌, is_none, List, Option, Some, None, if◌then◌else◌}
use Rattle.amqp_composites.specs.declared.modes.Role.{Role}
use Rattle.amqp_composites.specs.declared.modes.Role.TheVariants as role
use Rattle.amqp_frames.specs.amqp_termini.declared.source.Source.{Source}
use Rattle.amqp_frames.specs.amqp_termini.declared.target_archetype.TargetArchetype.{TargetArchetype}
use Rattle.amqp_frames.specs.amqp_termini.declared.target_archetype.TargetArchetype.TheVariants as archetype
use Rattle.amqp_frames.specs.amqp_performatives.declared.attach.Attach.{Attach}
use Rattle.amqp_link.specs.declared.error.AttachFault.{AttachFault}
use Rattle.amqp_link.specs.declared.error.AttachFault.TheVariants as fault
use Rattle.amqp_link.specs.declared.settings.AcceptSettings.{AcceptSettings}
use Rattle.amqp_link.specs.Link.{Link, accepting, size_of}
use Rattle.amqp_link.specs.Rules.{fault_of}

abbrev pub other_role : Role → Role
other_role role.Sender = role.Receiver
other_role role.Receiver = role.Sender

-- a node that this end makes has an address (part 3, sections 3.5.3 and 3.5.4)
abbrev pub named_source : Option (List ℕ) → Option Source → Option Source
named_source address None = None
named_source address (Some x) = if x.dynamic then Some (record x { address = address }) else Some x

abbrev pub named_target : Option (List ℕ) → Option TargetArchetype → Option TargetArchetype
named_target address None = None
named_target address (Some (archetype.Coordinator x)) = Some (archetype.Coordinator x)
named_target address (Some (archetype.Target x)) = if x.dynamic then Some (archetype.Target (record x { address = address })) else Some (archetype.Target x)

-- the answering Attach: as the peer's, but with what this end says for itself
abbrev pub echoed_as : Role → AcceptSettings → ℕ → Attach → Attach
echoed_as role.Sender settings handle x = record { name = x.name; handle = handle; role = role.Sender; snd_settle_mode = x.snd_settle_mode; rcv_settle_mode = x.rcv_settle_mode; source = named_source settings.dynamic_address x.source; target = x.target; unsettled = None; incomplete_unsettled = false; initial_delivery_count = Some settings.initial_delivery_count; max_message_size = settings.max_message_size; offered_capabilities = None; desired_capabilities = None; properties = None }
echoed_as role.Receiver settings handle x = record { name = x.name; handle = handle; role = role.Receiver; snd_settle_mode = x.snd_settle_mode; rcv_settle_mode = x.rcv_settle_mode; source = x.source; target = named_target settings.dynamic_address x.target; unsettled = None; incomplete_unsettled = false; initial_delivery_count = None; max_message_size = settings.max_message_size; offered_capabilities = None; desired_capabilities = None; properties = None }

abbrev pub echoed : AcceptSettings → ℕ → Attach → Attach
echoed settings handle x = echoed_as (other_role x.role) settings handle x

abbrev pub is_made_source : Option Source → Bool
is_made_source None = false
is_made_source (Some x) = x.dynamic

abbrev pub is_made_target : Option TargetArchetype → Bool
is_made_target (Some (archetype.Target x)) = x.dynamic
is_made_target other = false

-- this end is asked to make its node
abbrev pub is_asked_for_node : Role → Attach → Bool
is_asked_for_node role.Sender x = is_made_source x.source
is_asked_for_node role.Receiver x = is_made_target x.target

abbrev pub or_refused : Option AttachFault → Bool → Option AttachFault
or_refused (Some x) refuses = Some x
or_refused None true = Some fault.DynamicRefused
or_refused None false = None

-- what this end refuses first
abbrev pub accept_fault : AcceptSettings → Attach → Option AttachFault
accept_fault settings x = or_refused (fault_of (other_role x.role) true true x.snd_settle_mode x) (is_none settings.dynamic_address && is_asked_for_node (other_role x.role) x)

-- the peer has attached a link, which is answered
abbrev pub accepted : AcceptSettings → ℕ → Attach → Link
accepted settings handle x = accepting (accept_fault settings x) (size_of x.max_message_size) (echoed settings handle x)

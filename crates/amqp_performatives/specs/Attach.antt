-- Attach: their fields, in the order of the standard (OASIS AMQP 1.0, part 2, section 2.7.3).
use Rattle.std.specs.Prelude.{ℕ, List, Option, Some, None, [], false, refl, ◌∷◌, ◌≡◌, ◌==◌, if◌then◌else◌}
use Rattle.amqp_composites.specs.amqp_data.Data.{Amqp, Items}
use Rattle.amqp_composites.specs.amqp_fields.Fields.{IsValid, bool_in, ends_at, field_at, behind, is_symbol, map_with, maybe, of_bool, of_map, of_string, of_symbols, of_uint, of_ulong, optional, or_default, same_bool, string_in, symbols_in, trimmed, uint_in, ulong_in, unless, ◌>>=◌}
use Rattle.amqp_composites.specs.amqp_fields.Again.{HasKeys, bool_field, bools_are, default_is, each, field_ends, map_field, optional_is, required_is, string_field, symbols_field, uint_field, ulong_field}
use Rattle.amqp_performatives.specs.declared.attach.Attach.{Attach}
use Rattle.amqp_performatives.specs.declared.attach.LinkPart.{LinkPart}
use Rattle.amqp_performatives.specs.declared.attach.EndsPart.{EndsPart}
use Rattle.amqp_performatives.specs.declared.attach.LimitsPart.{LimitsPart}
use Rattle.amqp_composites.specs.declared.modes.SenderSettleMode.TheVariants as modes
use Rattle.amqp_composites.specs.declared.modes.ReceiverSettleMode.TheVariants as rmodes
use Rattle.amqp_composites.specs.Modes.{of_receiver_mode, of_role, of_sender_mode, receiver_mode_field, receiver_mode_in, receiver_modes_are, role_field, role_in, same_receiver_mode, same_sender_mode, sender_mode_field, sender_mode_in, sender_modes_are}
use Rattle.amqp_termini.specs.Source.{IsSourceValid, of_source, source_field, source_in}
use Rattle.amqp_termini.specs.TargetArchetype.{IsArchetypeValid, archetype_field, archetype_in, of_archetype}
use Rattle.amqp_termini.specs.Unsettled.{AreStatesValid, of_unsettled, unsettled_field, unsettled_in}

-- what the first five fields say of the link
unfoldable pub link_of : Items → Option LinkPart
link_of fields = do
  name ← string_in (field_at fields 0)
  handle ← uint_in (field_at fields 1)
  role' ← role_in (field_at fields 2)
  snd_settle_mode ← or_default modes.Mixed sender_mode_in (field_at fields 3)
  rcv_settle_mode ← or_default rmodes.First receiver_mode_in (field_at fields 4)
  Some (record { name = name; handle = handle; role = role'; snd_settle_mode = snd_settle_mode; rcv_settle_mode = rcv_settle_mode })

-- what the next four say of its ends
unfoldable pub ends_of : Items → Option EndsPart
ends_of fields = do
  source ← optional source_in (field_at fields 0)
  target ← optional archetype_in (field_at fields 1)
  unsettled ← optional unsettled_in (field_at fields 2)
  incomplete_unsettled ← or_default false bool_in (field_at fields 3)
  Some (record { source = source; target = target; unsettled = unsettled; incomplete_unsettled = incomplete_unsettled })

-- what the last five say of its limits
unfoldable pub limits_of : Items → Option LimitsPart
limits_of fields = do
  initial_delivery_count ← optional uint_in (field_at fields 0)
  max_message_size ← optional ulong_in (field_at fields 1)
  offered_capabilities ← optional symbols_in (field_at fields 2)
  desired_capabilities ← optional symbols_in (field_at fields 3)
  properties ← optional (map_with is_symbol) (field_at fields 4)
  Some (record { initial_delivery_count = initial_delivery_count; max_message_size = max_message_size; offered_capabilities = offered_capabilities; desired_capabilities = desired_capabilities; properties = properties })

abbrev pub whole : LinkPart → EndsPart → LimitsPart → Attach
whole link ends limits = record {
  name = link.name;
  handle = link.handle;
  role = link.role;
  snd_settle_mode = link.snd_settle_mode;
  rcv_settle_mode = link.rcv_settle_mode;
  source = ends.source;
  target = ends.target;
  unsettled = ends.unsettled;
  incomplete_unsettled = ends.incomplete_unsettled;
  initial_delivery_count = limits.initial_delivery_count;
  max_message_size = limits.max_message_size;
  offered_capabilities = limits.offered_capabilities;
  desired_capabilities = limits.desired_capabilities;
  properties = limits.properties;
}

-- the attach that the fields say (part 2, section 2.7.3)
unfoldable pub attach_of : Items → Option Attach
attach_of fields = do
  link ← link_of fields
  ends ← ends_of (behind 5 fields)
  limits ← limits_of (behind 9 fields)
  no_more ← ends_at fields 14
  Some (whole link ends limits)

-- a largest message size: 0 says that there is none (section 2.7.3)
abbrev pub nonzero : Option ℕ → Option ℕ
nonzero None = None
nonzero (Some n) = if n == 0 then None else Some n

-- its fields, as they are written
abbrev pub attach_fields : Attach → List Amqp
attach_fields x =
    of_string x.name ∷ of_uint x.handle ∷ of_role x.role ∷ unless same_sender_mode modes.Mixed of_sender_mode x.snd_settle_mode ∷ unless same_receiver_mode rmodes.First of_receiver_mode x.rcv_settle_mode ∷ maybe of_source x.source ∷ maybe of_archetype x.target ∷ maybe of_unsettled x.unsettled ∷ unless same_bool false of_bool x.incomplete_unsettled ∷ maybe of_uint x.initial_delivery_count ∷ maybe of_ulong (nonzero x.max_message_size) ∷ maybe of_symbols x.offered_capabilities ∷ maybe of_symbols x.desired_capabilities ∷ maybe of_map x.properties ∷ []

abbrev pub IsAttachValid : Attach → Type 0
IsAttachValid x = IsValid IsSourceValid x.source × IsValid IsArchetypeValid x.target × IsValid AreStatesValid x.unsettled × IsValid (HasKeys is_symbol) x.properties

-- an attach as it is read again: a max-message-size of 0 is none
abbrev pub written : Attach → Attach
written x = record { name = x.name; handle = x.handle; role = x.role; snd_settle_mode = x.snd_settle_mode; rcv_settle_mode = x.rcv_settle_mode; source = x.source; target = x.target; unsettled = x.unsettled; incomplete_unsettled = x.incomplete_unsettled; initial_delivery_count = x.initial_delivery_count; max_message_size = nonzero x.max_message_size; offered_capabilities = x.offered_capabilities; desired_capabilities = x.desired_capabilities; properties = x.properties }

pub attach_again : (x : Attach) → IsAttachValid x → attach_of (trimmed (attach_fields x)) ≡ Some (written x)
unfolding attach_of link_of ends_of limits_of
attach_again x h = λ i. do
  link ← do
    name ← required_is string_field (attach_fields x) 0 x.name refl tt i
    handle ← required_is uint_field (attach_fields x) 1 x.handle refl tt i
    role' ← required_is role_field (attach_fields x) 2 x.role refl tt i
    snd_settle_mode ← default_is sender_mode_field same_sender_mode sender_modes_are (attach_fields x) 3 modes.Mixed x.snd_settle_mode refl tt i
    rcv_settle_mode ← default_is receiver_mode_field same_receiver_mode receiver_modes_are (attach_fields x) 4 rmodes.First x.rcv_settle_mode refl tt i
    Some (record { name = name; handle = handle; role = role'; snd_settle_mode = snd_settle_mode; rcv_settle_mode = rcv_settle_mode })
  ends ← do
    source ← optional_is source_field (attach_fields x) 5 x.source refl h.0 i
    target ← optional_is archetype_field (attach_fields x) 6 x.target refl h.1 i
    unsettled ← optional_is unsettled_field (attach_fields x) 7 x.unsettled refl h.2 i
    incomplete_unsettled ← default_is bool_field same_bool bools_are (attach_fields x) 8 false x.incomplete_unsettled refl tt i
    Some (record { source = source; target = target; unsettled = unsettled; incomplete_unsettled = incomplete_unsettled })
  limits ← do
    initial_delivery_count ← optional_is uint_field (attach_fields x) 9 x.initial_delivery_count refl (each x.initial_delivery_count) i
    max_message_size ← optional_is ulong_field (attach_fields x) 10 (nonzero x.max_message_size) refl (each (nonzero x.max_message_size)) i
    offered_capabilities ← optional_is symbols_field (attach_fields x) 11 x.offered_capabilities refl (each x.offered_capabilities) i
    desired_capabilities ← optional_is symbols_field (attach_fields x) 12 x.desired_capabilities refl (each x.desired_capabilities) i
    properties ← optional_is (map_field is_symbol) (attach_fields x) 13 x.properties refl h.3 i
    Some (record { initial_delivery_count = initial_delivery_count; max_message_size = max_message_size; offered_capabilities = offered_capabilities; desired_capabilities = desired_capabilities; properties = properties })
  no_more ← field_ends (attach_fields x) i
  Some (whole link ends limits)

-- Open: their fields, in the order of the standard (OASIS AMQP 1.0, part 2, section 2.7.1).
use Rattle.std.specs.Prelude.{List, Option, Some, [], nat_eq, refl, ◌∷◌, ◌≡◌}
use Rattle.amqp_composites.specs.amqp_data.Data.{Amqp, Items}
use Rattle.amqp_composites.specs.amqp_fields.Fields.{IsValid, ends_at, field_at, is_symbol, map_with, maybe, of_map, of_string, of_symbols, of_uint, of_ushort, optional, or_default, string_in, symbols_in, trimmed, uint_in, unless, ushort_in, ◌>>=◌}
use Rattle.amqp_composites.specs.amqp_fields.Again.{HasKeys, default_is, each, field_ends, map_field, numbers_are, optional_is, required_is, string_field, symbols_field, uint_field, ushort_field}
use Rattle.amqp_performatives.specs.declared.open.Open.{Open}

-- the open that the fields say (part 2, section 2.7.1)
unfoldable pub open_of : Items → Option Open
open_of fields = do
  container_id ← string_in (field_at fields 0)
  hostname ← optional string_in (field_at fields 1)
  max_frame_size ← or_default 4294967295 uint_in (field_at fields 2)
  channel_max ← or_default 65535 ushort_in (field_at fields 3)
  idle_time_out ← optional uint_in (field_at fields 4)
  outgoing_locales ← optional symbols_in (field_at fields 5)
  incoming_locales ← optional symbols_in (field_at fields 6)
  offered_capabilities ← optional symbols_in (field_at fields 7)
  desired_capabilities ← optional symbols_in (field_at fields 8)
  properties ← optional (map_with is_symbol) (field_at fields 9)
  no_more ← ends_at fields 10
  Some (record { container_id = container_id; hostname = hostname; max_frame_size = max_frame_size; channel_max = channel_max; idle_time_out = idle_time_out; outgoing_locales = outgoing_locales; incoming_locales = incoming_locales; offered_capabilities = offered_capabilities; desired_capabilities = desired_capabilities; properties = properties })

-- its fields, as they are written
abbrev pub open_fields : Open → List Amqp
open_fields x =
    of_string x.container_id ∷ maybe of_string x.hostname ∷ unless nat_eq 4294967295 of_uint x.max_frame_size ∷ unless nat_eq 65535 of_ushort x.channel_max ∷ maybe of_uint x.idle_time_out ∷ maybe of_symbols x.outgoing_locales ∷ maybe of_symbols x.incoming_locales ∷ maybe of_symbols x.offered_capabilities ∷ maybe of_symbols x.desired_capabilities ∷ maybe of_map x.properties ∷ []

abbrev pub IsOpenValid : Open → Type 0
IsOpenValid x = IsValid (HasKeys is_symbol) x.properties

pub open_again : (x : Open) → IsOpenValid x → open_of (trimmed (open_fields x)) ≡ Some x
unfolding open_of
open_again x h = λ i. do
  container_id ← required_is string_field (open_fields x) 0 x.container_id refl tt i
  hostname ← optional_is string_field (open_fields x) 1 x.hostname refl (each x.hostname) i
  max_frame_size ← default_is uint_field nat_eq numbers_are (open_fields x) 2 4294967295 x.max_frame_size refl tt i
  channel_max ← default_is ushort_field nat_eq numbers_are (open_fields x) 3 65535 x.channel_max refl tt i
  idle_time_out ← optional_is uint_field (open_fields x) 4 x.idle_time_out refl (each x.idle_time_out) i
  outgoing_locales ← optional_is symbols_field (open_fields x) 5 x.outgoing_locales refl (each x.outgoing_locales) i
  incoming_locales ← optional_is symbols_field (open_fields x) 6 x.incoming_locales refl (each x.incoming_locales) i
  offered_capabilities ← optional_is symbols_field (open_fields x) 7 x.offered_capabilities refl (each x.offered_capabilities) i
  desired_capabilities ← optional_is symbols_field (open_fields x) 8 x.desired_capabilities refl (each x.desired_capabilities) i
  properties ← optional_is (map_field is_symbol) (open_fields x) 9 x.properties refl h i
  no_more ← field_ends (open_fields x) i
  Some (record { container_id = container_id; hostname = hostname; max_frame_size = max_frame_size; channel_max = channel_max; idle_time_out = idle_time_out; outgoing_locales = outgoing_locales; incoming_locales = incoming_locales; offered_capabilities = offered_capabilities; desired_capabilities = desired_capabilities; properties = properties })

-- Begin: their fields, in the order of the standard (OASIS AMQP 1.0, part 2, section 2.7.2).
use Rattle.std.specs.Prelude.{List, Option, Some, [], nat_eq, refl, ◌∷◌, ◌≡◌}
use Rattle.amqp_composites.specs.amqp_data.Data.{Amqp, Items}
use Rattle.amqp_composites.specs.amqp_fields.Fields.{IsValid, ends_at, field_at, is_symbol, map_with, maybe, of_map, of_symbols, of_uint, of_ushort, optional, or_default, symbols_in, trimmed, uint_in, unless, ushort_in, ◌>>=◌}
use Rattle.amqp_composites.specs.amqp_fields.Again.{HasKeys, default_is, each, field_ends, map_field, numbers_are, optional_is, required_is, symbols_field, uint_field, ushort_field}
use Rattle.amqp_performatives.specs.declared.begin.Begin.{Begin}

-- the begin that the fields say (part 2, section 2.7.2)
unfoldable pub begin_of : Items → Option Begin
begin_of fields = do
  remote_channel ← optional ushort_in (field_at fields 0)
  next_outgoing_id ← uint_in (field_at fields 1)
  incoming_window ← uint_in (field_at fields 2)
  outgoing_window ← uint_in (field_at fields 3)
  handle_max ← or_default 4294967295 uint_in (field_at fields 4)
  offered_capabilities ← optional symbols_in (field_at fields 5)
  desired_capabilities ← optional symbols_in (field_at fields 6)
  properties ← optional (map_with is_symbol) (field_at fields 7)
  no_more ← ends_at fields 8
  Some (record { remote_channel = remote_channel; next_outgoing_id = next_outgoing_id; incoming_window = incoming_window; outgoing_window = outgoing_window; handle_max = handle_max; offered_capabilities = offered_capabilities; desired_capabilities = desired_capabilities; properties = properties })

-- its fields, as they are written
abbrev pub begin_fields : Begin → List Amqp
begin_fields x =
    maybe of_ushort x.remote_channel ∷ of_uint x.next_outgoing_id ∷ of_uint x.incoming_window ∷ of_uint x.outgoing_window ∷ unless nat_eq 4294967295 of_uint x.handle_max ∷ maybe of_symbols x.offered_capabilities ∷ maybe of_symbols x.desired_capabilities ∷ maybe of_map x.properties ∷ []

abbrev pub IsBeginValid : Begin → Type 0
IsBeginValid x = IsValid (HasKeys is_symbol) x.properties

pub begin_again : (x : Begin) → IsBeginValid x → begin_of (trimmed (begin_fields x)) ≡ Some x
unfolding begin_of
begin_again x h = λ i. do
  remote_channel ← optional_is ushort_field (begin_fields x) 0 x.remote_channel refl (each x.remote_channel) i
  next_outgoing_id ← required_is uint_field (begin_fields x) 1 x.next_outgoing_id refl tt i
  incoming_window ← required_is uint_field (begin_fields x) 2 x.incoming_window refl tt i
  outgoing_window ← required_is uint_field (begin_fields x) 3 x.outgoing_window refl tt i
  handle_max ← default_is uint_field nat_eq numbers_are (begin_fields x) 4 4294967295 x.handle_max refl tt i
  offered_capabilities ← optional_is symbols_field (begin_fields x) 5 x.offered_capabilities refl (each x.offered_capabilities) i
  desired_capabilities ← optional_is symbols_field (begin_fields x) 6 x.desired_capabilities refl (each x.desired_capabilities) i
  properties ← optional_is (map_field is_symbol) (begin_fields x) 7 x.properties refl h i
  no_more ← field_ends (begin_fields x) i
  Some (record { remote_channel = remote_channel; next_outgoing_id = next_outgoing_id; incoming_window = incoming_window; outgoing_window = outgoing_window; handle_max = handle_max; offered_capabilities = offered_capabilities; desired_capabilities = desired_capabilities; properties = properties })

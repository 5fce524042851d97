-- Flow: their fields, in the order of the standard (OASIS AMQP 1.0, part 2, section 2.7.4).
use Rattle.std.specs.Prelude.{List, Option, Some, [], false, refl, ◌∷◌, ◌≡◌}
use Rattle.amqp_composites.specs.amqp_data.Data.{Amqp, Items}
use Rattle.amqp_composites.specs.amqp_fields.Fields.{IsValid, bool_in, ends_at, field_at, is_symbol, map_with, maybe, of_bool, of_map, of_uint, optional, or_default, same_bool, trimmed, uint_in, unless, ◌>>=◌}
use Rattle.amqp_composites.specs.amqp_fields.Again.{HasKeys, bool_field, bools_are, default_is, each, field_ends, map_field, optional_is, required_is, uint_field}
use Rattle.amqp_performatives.specs.declared.flow.Flow.{Flow}

-- the flow that the fields say (part 2, section 2.7.4)
unfoldable pub flow_of : Items → Option Flow
flow_of fields = do
  next_incoming_id ← optional uint_in (field_at fields 0)
  incoming_window ← uint_in (field_at fields 1)
  next_outgoing_id ← uint_in (field_at fields 2)
  outgoing_window ← uint_in (field_at fields 3)
  handle ← optional uint_in (field_at fields 4)
  delivery_count ← optional uint_in (field_at fields 5)
  link_credit ← optional uint_in (field_at fields 6)
  available ← optional uint_in (field_at fields 7)
  drain ← or_default false bool_in (field_at fields 8)
  echo ← or_default false bool_in (field_at fields 9)
  properties ← optional (map_with is_symbol) (field_at fields 10)
  no_more ← ends_at fields 11
  Some (record { next_incoming_id = next_incoming_id; incoming_window = incoming_window; next_outgoing_id = next_outgoing_id; outgoing_window = outgoing_window; handle = handle; delivery_count = delivery_count; link_credit = link_credit; available = available; drain = drain; echo = echo; properties = properties })

-- its fields, as they are written
abbrev pub flow_fields : Flow → List Amqp
flow_fields x =
    maybe of_uint x.next_incoming_id ∷ of_uint x.incoming_window ∷ of_uint x.next_outgoing_id ∷ of_uint x.outgoing_window ∷ maybe of_uint x.handle ∷ maybe of_uint x.delivery_count ∷ maybe of_uint x.link_credit ∷ maybe of_uint x.available ∷ unless same_bool false of_bool x.drain ∷ unless same_bool false of_bool x.echo ∷ maybe of_map x.properties ∷ []

abbrev pub IsFlowValid : Flow → Type 0
IsFlowValid x = IsValid (HasKeys is_symbol) x.properties

pub flow_again : (x : Flow) → IsFlowValid x → flow_of (trimmed (flow_fields x)) ≡ Some x
unfolding flow_of
flow_again x h = λ i. do
  next_incoming_id ← optional_is uint_field (flow_fields x) 0 x.next_incoming_id refl (each x.next_incoming_id) i
  incoming_window ← required_is uint_field (flow_fields x) 1 x.incoming_window refl tt i
  next_outgoing_id ← required_is uint_field (flow_fields x) 2 x.next_outgoing_id refl tt i
  outgoing_window ← required_is uint_field (flow_fields x) 3 x.outgoing_window refl tt i
  handle ← optional_is uint_field (flow_fields x) 4 x.handle refl (each x.handle) i
  delivery_count ← optional_is uint_field (flow_fields x) 5 x.delivery_count refl (each x.delivery_count) i
  link_credit ← optional_is uint_field (flow_fields x) 6 x.link_credit refl (each x.link_credit) i
  available ← optional_is uint_field (flow_fields x) 7 x.available refl (each x.available) i
  drain ← default_is bool_field same_bool bools_are (flow_fields x) 8 false x.drain refl tt i
  echo ← default_is bool_field same_bool bools_are (flow_fields x) 9 false x.echo refl tt i
  properties ← optional_is (map_field is_symbol) (flow_fields x) 10 x.properties refl h i
  no_more ← field_ends (flow_fields x) i
  Some (record { next_incoming_id = next_incoming_id; incoming_window = incoming_window; next_outgoing_id = next_outgoing_id; outgoing_window = outgoing_window; handle = handle; delivery_count = delivery_count; link_credit = link_credit; available = available; drain = drain; echo = echo; properties = properties })

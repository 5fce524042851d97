-- Headers of messages: their fields, in the order of the standard (OASIS AMQP 1.0, part 3, section 3.2.1).
use Rattle.std.specs.Prelude.{List, Option, Some, [], false, nat_eq, refl, ◌∷◌, ◌≡◌}
use Rattle.amqp_data.specs.Data.{Amqp, Items}
use Rattle.amqp_fields.specs.Fields.{bool_in, ends_at, field_at, maybe, of_bool, of_ubyte, of_uint, optional, or_default, same_bool, trimmed, ubyte_in, uint_in, unless, ◌>>=◌}
use Rattle.amqp_fields.specs.Again.{bool_field, bools_are, default_is, each, field_ends, numbers_are, optional_is, ubyte_field, uint_field}
use Rattle.amqp_sections.specs.declared.header.Header.{Header}

-- the header that the fields say (part 3, section 3.2.1)
unfoldable pub header_of : Items → Option Header
header_of fields = do
  durable ← or_default false bool_in (field_at fields 0)
  priority ← or_default 4 ubyte_in (field_at fields 1)
  ttl ← optional uint_in (field_at fields 2)
  first_acquirer ← or_default false bool_in (field_at fields 3)
  delivery_count ← or_default 0 uint_in (field_at fields 4)
  no_more ← ends_at fields 5
  Some (record { durable = durable; priority = priority; ttl = ttl; first_acquirer = first_acquirer; delivery_count = delivery_count })

-- its fields, as they are written
abbrev pub header_fields : Header → List Amqp
header_fields x =
    unless same_bool false of_bool x.durable ∷ unless nat_eq 4 of_ubyte x.priority ∷ maybe of_uint x.ttl ∷ unless same_bool false of_bool x.first_acquirer ∷ unless nat_eq 0 of_uint x.delivery_count ∷ []

abbrev pub IsHeaderValid : Header → Type 0
IsHeaderValid x = Unit {0}

pub header_again : (x : Header) → IsHeaderValid x → header_of (trimmed (header_fields x)) ≡ Some x
unfolding header_of
header_again x h = λ i. do
  durable ← default_is bool_field same_bool bools_are (header_fields x) 0 false x.durable refl tt i
  priority ← default_is ubyte_field nat_eq numbers_are (header_fields x) 1 4 x.priority refl tt i
  ttl ← optional_is uint_field (header_fields x) 2 x.ttl refl (each x.ttl) i
  first_acquirer ← default_is bool_field same_bool bools_are (header_fields x) 3 false x.first_acquirer refl tt i
  delivery_count ← default_is uint_field nat_eq numbers_are (header_fields x) 4 0 x.delivery_count refl tt i
  no_more ← field_ends (header_fields x) i
  Some (record { durable = durable; priority = priority; ttl = ttl; first_acquirer = first_acquirer; delivery_count = delivery_count })

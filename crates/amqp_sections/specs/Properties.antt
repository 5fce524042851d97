-- Properties of messages: their fields, in the order of the standard (OASIS AMQP 1.0, part 3, section 3.2.4).
use Rattle.std.specs.Prelude.{List, Option, Some, [], refl, ◌∷◌, ◌≡◌}
use Rattle.amqp_data.specs.Data.{Amqp, Items}
use Rattle.amqp_fields.specs.Fields.{behind, binary_in, ends_at, field_at, maybe, of_binary, of_string, of_symbol, of_timestamp, of_uint, optional, string_in, symbol_in, timestamp_in, trimmed, uint_in, ◌>>=◌}
use Rattle.amqp_fields.specs.Again.{binary_field, each, field_ends, optional_is, string_field, symbol_field, timestamp_field, uint_field}
use Rattle.amqp_sections.specs.declared.properties.Properties.{Properties}
use Rattle.amqp_sections.specs.declared.properties.AddressPart.{AddressPart}
use Rattle.amqp_sections.specs.declared.properties.ContentPart.{ContentPart}
use Rattle.amqp_sections.specs.MessageId.{message_id_field, message_id_in, of_message_id}

-- what the first six fields say of who sends it and to whom
unfoldable pub address_of : Items → Option AddressPart
address_of fields = do
  message_id ← optional message_id_in (field_at fields 0)
  user_id ← optional binary_in (field_at fields 1)
  to' ← optional string_in (field_at fields 2)
  subject ← optional string_in (field_at fields 3)
  reply_to ← optional string_in (field_at fields 4)
  correlation_id ← optional message_id_in (field_at fields 5)
  Some (record { message_id = message_id; user_id = user_id; to = to'; subject = subject; reply_to = reply_to; correlation_id = correlation_id })

-- what the last seven say of what it holds and of its group
unfoldable pub content_of : Items → Option ContentPart
content_of fields = do
  content_type ← optional symbol_in (field_at fields 0)
  content_encoding ← optional symbol_in (field_at fields 1)
  absolute_expiry_time ← optional timestamp_in (field_at fields 2)
  creation_time ← optional timestamp_in (field_at fields 3)
  group_id ← optional string_in (field_at fields 4)
  group_sequence ← optional uint_in (field_at fields 5)
  reply_to_group_id ← optional string_in (field_at fields 6)
  Some (record { content_type = content_type; content_encoding = content_encoding; absolute_expiry_time = absolute_expiry_time; creation_time = creation_time; group_id = group_id; group_sequence = group_sequence; reply_to_group_id = reply_to_group_id })

abbrev pub whole : AddressPart → ContentPart → Properties
whole address content = record {
  message_id = address.message_id;
  user_id = address.user_id;
  to = address.to;
  subject = address.subject;
  reply_to = address.reply_to;
  correlation_id = address.correlation_id;
  content_type = content.content_type;
  content_encoding = content.content_encoding;
  absolute_expiry_time = content.absolute_expiry_time;
  creation_time = content.creation_time;
  group_id = content.group_id;
  group_sequence = content.group_sequence;
  reply_to_group_id = content.reply_to_group_id;
}

-- the properties that the fields say (part 3, section 3.2.4)
unfoldable pub properties_of : Items → Option Properties
properties_of fields = do
  address ← address_of fields
  content ← content_of (behind 6 fields)
  no_more ← ends_at fields 13
  Some (whole address content)

-- its fields, as they are written
abbrev pub properties_fields : Properties → List Amqp
properties_fields x =
    maybe of_message_id x.message_id ∷ maybe of_binary x.user_id ∷ maybe of_string x.to ∷ maybe of_string x.subject ∷ maybe of_string x.reply_to ∷ maybe of_message_id x.correlation_id ∷ maybe of_symbol x.content_type ∷ maybe of_symbol x.content_encoding ∷ maybe of_timestamp x.absolute_expiry_time ∷ maybe of_timestamp x.creation_time ∷ maybe of_string x.group_id ∷ maybe of_uint x.group_sequence ∷ maybe of_string x.reply_to_group_id ∷ []

abbrev pub IsPropertiesValid : Properties → Type 0
IsPropertiesValid x = Unit {0}

pub properties_again : (x : Properties) → IsPropertiesValid x → properties_of (trimmed (properties_fields x)) ≡ Some x
unfolding properties_of address_of content_of
properties_again x h = λ i. do
  address ← do
    message_id ← optional_is message_id_field (properties_fields x) 0 x.message_id refl (each x.message_id) i
    user_id ← optional_is binary_field (properties_fields x) 1 x.user_id refl (each x.user_id) i
    to' ← optional_is string_field (properties_fields x) 2 x.to refl (each x.to) i
    subject ← optional_is string_field (properties_fields x) 3 x.subject refl (each x.subject) i
    reply_to ← optional_is string_field (properties_fields x) 4 x.reply_to refl (each x.reply_to) i
    correlation_id ← optional_is message_id_field (properties_fields x) 5 x.correlation_id refl (each x.correlation_id) i
    Some (record { message_id = message_id; user_id = user_id; to = to'; subject = subject; reply_to = reply_to; correlation_id = correlation_id })
  content ← do
    content_type ← optional_is symbol_field (properties_fields x) 6 x.content_type refl (each x.content_type) i
    content_encoding ← optional_is symbol_field (properties_fields x) 7 x.content_encoding refl (each x.content_encoding) i
    absolute_expiry_time ← optional_is timestamp_field (properties_fields x) 8 x.absolute_expiry_time refl (each x.absolute_expiry_time) i
    creation_time ← optional_is timestamp_field (properties_fields x) 9 x.creation_time refl (each x.creation_time) i
    group_id ← optional_is string_field (properties_fields x) 10 x.group_id refl (each x.group_id) i
    group_sequence ← optional_is uint_field (properties_fields x) 11 x.group_sequence refl (each x.group_sequence) i
    reply_to_group_id ← optional_is string_field (properties_fields x) 12 x.reply_to_group_id refl (each x.reply_to_group_id) i
    Some (record { content_type = content_type; content_encoding = content_encoding; absolute_expiry_time = absolute_expiry_time; creation_time = creation_time; group_id = group_id; group_sequence = group_sequence; reply_to_group_id = reply_to_group_id })
  no_more ← field_ends (properties_fields x) i
  Some (whole address content)

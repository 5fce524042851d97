-- Equality of sections tells which are the same.
use Rattle.std.proofs.Common.{◌≡◌, true, ap}
use Rattle.std.specs.Bool.{Decides}
use Rattle.std.specs.Cmp.{unsigned_Decides, signed_Decides, booleans_Decides}
use Rattle.std.proofs.lemmas.Slice.Eq.{bytes_eq-Decides}
pub use Rattle.amqp_composites.proofs.Same.{decides_by, same_options, options_decide, first_so, second_so}
use Rattle.amqp_data.specs.declared.value.Timestamp.{Timestamp}
use Rattle.amqp_data.specs.declared.value.Uuid.{Uuid}
use Rattle.amqp_sections.specs.declared.message_id.MessageId.{MessageId}
use Rattle.amqp_sections.specs.declared.message_id.MessageId.TheVariants as id
use Rattle.amqp_sections.specs.declared.header.Header.{Header}
use Rattle.amqp_sections.specs.declared.properties.Properties.{Properties}
use Rattle.amqp_sections.specs.contracts.message_id.MessageIdPartialEq.TheImpl as message_id_eq
use Rattle.amqp_sections.specs.contracts.message_id.MessageIdEq.TheImpl.Laws as message_id_laws
use Rattle.amqp_sections.specs.contracts.header.HeaderPartialEq.TheImpl as header_eq
use Rattle.amqp_sections.specs.contracts.header.HeaderEq.TheImpl.Laws as header_laws
use Rattle.amqp_sections.specs.contracts.properties.PropertiesPartialEq.TheImpl as properties_eq
use Rattle.amqp_sections.specs.contracts.properties.PropertiesEq.TheImpl.Laws as properties_laws
use Rattle.amqp_data.specs.contracts.value.TimestampPartialEq.TheImpl as timestamp_eq
use Rattle.amqp_data.specs.contracts.value.TimestampEq.TheImpl.Laws as timestamp_laws
use Rattle.amqp_data.specs.contracts.value.UuidPartialEq.TheImpl as uuid_eq
use Rattle.amqp_data.specs.contracts.value.UuidEq.TheImpl.Laws as uuid_laws

timestamp_same : (x y : Timestamp) → timestamp_eq.ghosts.eq x y ≡ true → x ≡ y
timestamp_same x y e0 =
    let milliseconds = (signed_Decides x.milliseconds y.milliseconds).0 e0 in
    λ i. record { milliseconds = milliseconds i }

pub timestamp_decides : (x y : Timestamp) → Decides (timestamp_eq.ghosts.eq x y) (x ≡ y)
timestamp_decides = decides_by timestamp_laws.laws-law timestamp_same

uuid_same : (x y : Uuid) → uuid_eq.ghosts.eq x y ≡ true → x ≡ y
uuid_same x y e0 =
    let bytes = (bytes_eq-Decides x.bytes y.bytes).0 e0 in
    λ i. record { bytes = bytes i }

pub uuid_decides : (x y : Uuid) → Decides (uuid_eq.ghosts.eq x y) (x ≡ y)
uuid_decides = decides_by uuid_laws.laws-law uuid_same

message_id_same : (x y : MessageId) → message_id_eq.ghosts.eq x y ≡ true → x ≡ y
message_id_same (id.Ulong a) (id.Ulong b) e = ap id.Ulong ((unsigned_Decides a b).0 e)
message_id_same (id.Uuid a) (id.Uuid b) e = ap id.Uuid ((uuid_decides a b).0 e)
message_id_same (id.Binary a) (id.Binary b) e = ap id.Binary ((bytes_eq-Decides a b).0 e)
message_id_same (id.String a) (id.String b) e = ap id.String ((bytes_eq-Decides a b).0 e)
message_id_same x y e = absurd cc

pub message_id_decides : (x y : MessageId) → Decides (message_id_eq.ghosts.eq x y) (x ≡ y)
message_id_decides = decides_by message_id_laws.laws-law message_id_same

header_same : (x y : Header) → header_eq.ghosts.eq x y ≡ true → x ≡ y
header_same x y e0 =
    let durable = (booleans_Decides x.durable y.durable).0 (first_so _ _ e0) in
    let e1 = second_so _ _ e0 in
    let priority = (unsigned_Decides x.priority y.priority).0 (first_so _ _ e1) in
    let e2 = second_so _ _ e1 in
    let ttl = same_options unsigned_Decides x.ttl y.ttl (first_so _ _ e2) in
    let e3 = second_so _ _ e2 in
    let first_acquirer = (booleans_Decides x.first_acquirer y.first_acquirer).0 (first_so _ _ e3) in
    let delivery_count = (unsigned_Decides x.delivery_count y.delivery_count).0 (second_so _ _ e3) in
    λ i. record { durable = durable i; priority = priority i; ttl = ttl i; first_acquirer = first_acquirer i; delivery_count = delivery_count i }

pub header_decides : (x y : Header) → Decides (header_eq.ghosts.eq x y) (x ≡ y)
header_decides = decides_by header_laws.laws-law header_same

properties_same : (x y : Properties) → properties_eq.ghosts.eq x y ≡ true → x ≡ y
properties_same x y e0 =
    let message_id = same_options message_id_decides x.message_id y.message_id (first_so _ _ e0) in
    let e1 = second_so _ _ e0 in
    let user_id = same_options bytes_eq-Decides x.user_id y.user_id (first_so _ _ e1) in
    let e2 = second_so _ _ e1 in
    let to = same_options bytes_eq-Decides x.to y.to (first_so _ _ e2) in
    let e3 = second_so _ _ e2 in
    let subject = same_options bytes_eq-Decides x.subject y.subject (first_so _ _ e3) in
    let e4 = second_so _ _ e3 in
    let reply_to = same_options bytes_eq-Decides x.reply_to y.reply_to (first_so _ _ e4) in
    let e5 = second_so _ _ e4 in
    let correlation_id = same_options message_id_decides x.correlation_id y.correlation_id (first_so _ _ e5) in
    let e6 = second_so _ _ e5 in
    let content_type = same_options bytes_eq-Decides x.content_type y.content_type (first_so _ _ e6) in
    let e7 = second_so _ _ e6 in
    let content_encoding = same_options bytes_eq-Decides x.content_encoding y.content_encoding (first_so _ _ e7) in
    let e8 = second_so _ _ e7 in
    let absolute_expiry_time = same_options timestamp_decides x.absolute_expiry_time y.absolute_expiry_time (first_so _ _ e8) in
    let e9 = second_so _ _ e8 in
    let creation_time = same_options timestamp_decides x.creation_time y.creation_time (first_so _ _ e9) in
    let e10 = second_so _ _ e9 in
    let group_id = same_options bytes_eq-Decides x.group_id y.group_id (first_so _ _ e10) in
    let e11 = second_so _ _ e10 in
    let group_sequence = same_options unsigned_Decides x.group_sequence y.group_sequence (first_so _ _ e11) in
    let reply_to_group_id = same_options bytes_eq-Decides x.reply_to_group_id y.reply_to_group_id (second_so _ _ e11) in
    λ i. record { message_id = message_id i; user_id = user_id i; to = to i; subject = subject i; reply_to = reply_to i; correlation_id = correlation_id i; content_type = content_type i; content_encoding = content_encoding i; absolute_expiry_time = absolute_expiry_time i; creation_time = creation_time i; group_id = group_id i; group_sequence = group_sequence i; reply_to_group_id = reply_to_group_id i }

pub properties_decides : (x y : Properties) → Decides (properties_eq.ghosts.eq x y) (x ≡ y)
properties_decides = decides_by properties_laws.laws-law properties_same

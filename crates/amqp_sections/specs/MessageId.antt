-- Numbers of messages (OASIS AMQP 1.0, part 3, sections 3.2.11 to 3.2.14).
use Rattle.std.specs.Prelude.{◌≡◌, Option, Some, None, refl}
use Rattle.amqp_data.specs.Data.{Amqp, scalar, ulong, uuid, binary, string}
use Rattle.amqp_fields.specs.Again.{IsField, Each}
use Rattle.amqp_sections.specs.declared.message_id.MessageId.{MessageId}
use Rattle.amqp_sections.specs.declared.message_id.MessageId.TheVariants as id

abbrev pub message_id_in : Amqp → Option MessageId
message_id_in (scalar (ulong n)) = Some (id.Ulong n)
message_id_in (scalar (uuid u)) = Some (id.Uuid (record { bytes = u }))
message_id_in (scalar (binary s)) = Some (id.Binary s)
message_id_in (scalar (string s)) = Some (id.String s)
message_id_in v = None

abbrev pub of_message_id : MessageId → Amqp
of_message_id (id.Ulong n) = scalar (ulong n)
of_message_id (id.Uuid u) = scalar (uuid u.bytes)
of_message_id (id.Binary s) = scalar (binary s)
of_message_id (id.String s) = scalar (string s)

pub message_id_again : (x : MessageId) → Unit {0} → message_id_in (of_message_id x) ≡ Some x
message_id_again (id.Ulong n) h = refl
message_id_again (id.Uuid u) h = refl
message_id_again (id.Binary s) h = refl
message_id_again (id.String s) h = refl

pub message_id_field : IsField message_id_in of_message_id Each
message_id_field = record { again = message_id_again; there = elim [ id.Ulong n ↦ tt | id.Uuid u ↦ tt | id.Binary s ↦ tt | id.String s ↦ tt ] }

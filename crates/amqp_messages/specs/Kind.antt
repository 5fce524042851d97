-- The descriptors of sections (OASIS AMQP 1.0, part 3, section 3.2).
use Rattle.std.specs.Prelude.{ℕ, List, Bool, false, codes, ◌==◌}
use Rattle.std.specs.Str.{bytes_eq}
use Rattle.amqp_data.specs.Data.{Amqp, scalar, ulong, symbol}
use Rattle.amqp_messages.specs.declared.kind.SectionKind.{SectionKind}
use Rattle.amqp_messages.specs.declared.kind.SectionKind.TheVariants as kind

-- the number of the descriptor
abbrev pub number_of : SectionKind → ℕ
number_of kind.Header = 0x70
number_of kind.DeliveryAnnotations = 0x71
number_of kind.MessageAnnotations = 0x72
number_of kind.Properties = 0x73
number_of kind.ApplicationProperties = 0x74
number_of kind.Data = 0x75
number_of kind.Sequence = 0x76
number_of kind.Value = 0x77
number_of kind.Footer = 0x78

-- the name of the descriptor
abbrev pub name_of : SectionKind → List ℕ
name_of kind.Header = codes "amqp:header:list"
name_of kind.DeliveryAnnotations = codes "amqp:delivery-annotations:map"
name_of kind.MessageAnnotations = codes "amqp:message-annotations:map"
name_of kind.Properties = codes "amqp:properties:list"
name_of kind.ApplicationProperties = codes "amqp:application-properties:map"
name_of kind.Data = codes "amqp:data:binary"
name_of kind.Sequence = codes "amqp:amqp-sequence:list"
name_of kind.Value = codes "amqp:amqp-value:*"
name_of kind.Footer = codes "amqp:footer:map"

-- the value is the descriptor, by its number or by its name
abbrev pub is_descriptor : SectionKind → Amqp → Bool
is_descriptor k (scalar (ulong n)) = n == number_of k
is_descriptor k (scalar (symbol s)) = bytes_eq s (name_of k)
is_descriptor k v = false

-- What a section holds (OASIS AMQP 1.0, part 3, section 3.2).
use Rattle.std.specs.Prelude.{Option, Some, None}
use Rattle.amqp_data.specs.Data.{Amqp, Items, list}
use Rattle.amqp_fields.specs.Fields.{trimmed}
use Rattle.amqp_sections.specs.declared.header.Header.{Header}
use Rattle.amqp_sections.specs.declared.properties.Properties.{Properties}
use Rattle.amqp_sections.specs.Header.{header_of, header_fields}
use Rattle.amqp_sections.specs.Properties.{properties_of, properties_fields}

abbrev pub header_in : Amqp → Option Header
header_in (list fields) = header_of fields
header_in v = None

abbrev pub of_header : Header → Amqp
of_header x = list (trimmed (header_fields x))

abbrev pub properties_in : Amqp → Option Properties
properties_in (list fields) = properties_of fields
properties_in v = None

abbrev pub of_properties : Properties → Amqp
of_properties x = list (trimmed (properties_fields x))

abbrev pub list_in : Amqp → Option Items
list_in (list vs) = Some vs
list_in v = None

abbrev pub of_list : Items → Amqp
of_list vs = list vs

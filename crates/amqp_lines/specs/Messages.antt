-- A message as a text: its sections in their order, each in parentheses by its name (OASIS AMQP 1.0, part 3, section 3.2).
use Rattle.std.specs.Prelude.{◌≡◌, ℕ, List, [], ◌∷◌, ◌++◌, codes, flat_map, Option, Some, None, Result, Ok, Err}
use Rattle.amqp_data.specs.Data.{Amqp, Items, Pairs}
use Rattle.amqp_fields.specs.declared.error.BaseError.{BaseError}
use Rattle.amqp_fields.specs.Fields.{trimmed}
use Rattle.amqp_composites.specs.declared.kind.CompositeKind.{CompositeKind}
use Rattle.amqp_composites.specs.declared.kind.CompositeKind.TheVariants as kind
use Rattle.amqp_sections.specs.declared.header.Header.{Header}
use Rattle.amqp_sections.specs.declared.properties.Properties.{Properties}
use Rattle.amqp_sections.specs.Header.{header_fields}
use Rattle.amqp_sections.specs.Properties.{properties_fields}
use Rattle.amqp_messages.specs.declared.message.Message.{Message}
use Rattle.amqp_messages.specs.Message.{Said, one_value, all_data, all_sequences, nothing}
use Rattle.amqp_shown.specs.Bytes.{hex_of}
use Rattle.amqp_shown.specs.Values.{value_text, list_text, dict_text}
use Rattle.amqp_lines.specs.Bodies.{list_line}

-- ` (TEXT)`
abbrev pub section_text : List ℕ → List ℕ
section_text text = 32 ∷ 40 ∷ text ++ 41 ∷ []

-- ` (NAME VALUE)`
abbrev pub valued : List ℕ → List ℕ → List ℕ
valued name value = section_text (name ++ 32 ∷ value)

-- the fields were made, and the section of them was added
abbrev pub AddsSection : CompositeKind → Result Items BaseError → List ℕ → List ℕ → Type 0
AddsSection k (Ok fields) old new = new ≡ old ++ section_text (list_line k fields)
AddsSection k (Err e) old new = ⊥

-- ` (header FIELD=VALUE ..)` (section 3.2.1)
abbrev pub header_section : Option Header → List ℕ
header_section None = []
header_section (Some x) = section_text (list_line kind.Header (trimmed (header_fields x)))

-- ` (properties FIELD=VALUE ..)` (section 3.2.4)
abbrev pub properties_section : Option Properties → List ℕ
properties_section None = []
properties_section (Some x) = section_text (list_line kind.Properties (trimmed (properties_fields x)))

-- a section that holds a map, where there is one (sections 3.2.2, 3.2.3, 3.2.5 and 3.2.9)
abbrev pub map_section : List ℕ → Option Pairs → List ℕ
map_section name None = []
map_section name (Some ps) = valued name (dict_text ps)

abbrev pub binary_section : List ℕ → List ℕ → List ℕ
binary_section name s = valued name (48 ∷ 120 ∷ hex_of s)

abbrev pub list_section : List ℕ → Items → List ℕ
list_section name vs = valued name (list_text vs)

-- ` (delivery-annotations {K: V})` (section 3.2.2)
unfoldable pub delivery_section : Option Pairs → List ℕ
delivery_section x = map_section (codes "delivery-annotations") x

-- ` (message-annotations {K: V})` (section 3.2.3)
unfoldable pub message_section : Option Pairs → List ℕ
message_section x = map_section (codes "message-annotations") x

-- ` (application-properties {K: V})` (section 3.2.5)
unfoldable pub application_section : Option Pairs → List ℕ
application_section x = map_section (codes "application-properties") x

-- ` (data 0x..)` (section 3.2.6)
unfoldable pub data_section : List ℕ → List ℕ
data_section s = binary_section (codes "data") s

-- ` (amqp-sequence [V, V])` (section 3.2.7)
unfoldable pub sequence_section : Items → List ℕ
sequence_section vs = list_section (codes "amqp-sequence") vs

-- ` (amqp-value V)` (section 3.2.8)
unfoldable pub value_section : Amqp → List ℕ
value_section v = valued (codes "amqp-value") (value_text v)

-- ` (footer {K: V})` (section 3.2.9)
unfoldable pub footer_section : Option Pairs → List ℕ
footer_section x = map_section (codes "footer") x

-- the body
abbrev pub content_text : Said → List ℕ
content_text (one_value v) = value_section v
content_text (all_data first rest) = data_section first ++ flat_map data_section rest
content_text (all_sequences first rest) = sequence_section first ++ flat_map sequence_section rest
content_text nothing = []

-- what is said to the nodes on the way
unfoldable pub head_text : Message Said → List ℕ
head_text m = header_section m.header ++ delivery_section m.delivery_annotations ++ message_section m.message_annotations

-- what is said of the body
unfoldable pub about_text : Message Said → List ℕ
about_text m = properties_section m.properties ++ application_section m.application_properties

-- the sections of a message, in their order
abbrev pub message_text : Message Said → List ℕ
message_text m = head_text m ++ about_text m ++ content_text m.body ++ footer_section m.footer

-- A message read from its sections (OASIS AMQP 1.0, part 3, section 3.2).
use Rattle.std.specs.Prelude.{◌≡◌, ℕ, List, Option, Some, None, Result, Ok, Err}
use Rattle.amqp_data.specs.Data.{Items, Pairs}
use Rattle.amqp_fields.specs.declared.error.BaseError.{BaseError}
use Rattle.amqp_fields.specs.declared.error.BaseError.TheVariants as errors
use Rattle.amqp_fields.specs.Fields.{◌>>=◌, ends, map_with, is_annotation, is_string}
use Rattle.amqp_described.specs.Reading.{Fill}
use Rattle.amqp_messages.specs.declared.kind.SectionKind.TheVariants as kind
use Rattle.amqp_messages.specs.declared.message.Message.{Message}
use Rattle.amqp_messages.specs.declared.message.Body.{Body}
use Rattle.amqp_messages.specs.declared.reading.Head.{Head}
use Rattle.amqp_messages.specs.declared.reading.About.{About}
use Rattle.amqp_messages.specs.declared.reading.Rest.{Rest}
use Rattle.amqp_messages.specs.Content.{header_in, properties_in}
use Rattle.amqp_messages.specs.Message.{Said, said, seen}
use Rattle.amqp_messages.specs.Sections.{section, body_in}

-- what is said to the nodes on the way (sections 3.2.1 to 3.2.3)
unfoldable pub head_in : Items → Option (Head × Items)
head_in vs = do
  header ← section kind.Header header_in vs
  delivery ← section kind.DeliveryAnnotations (map_with is_annotation) header.1
  message ← section kind.MessageAnnotations (map_with is_annotation) delivery.1
  Some (record { header = header.0; delivery_annotations = delivery.0; message_annotations = message.0 }, message.1)

-- what is said of the body (sections 3.2.4 and 3.2.5)
unfoldable pub about_in : Items → Option (About × Items)
about_in vs = do
  properties ← section kind.Properties properties_in vs
  application ← section kind.ApplicationProperties (map_with is_string) properties.1
  Some (record { properties = properties.0; application_properties = application.0 }, application.1)

-- the body and the footer, and nothing behind them (sections 3.2.6 to 3.2.9)
unfoldable pub rest_in : Items → Option (Said × Option Pairs)
rest_in vs = do
  body ← body_in vs
  footer ← section kind.Footer (map_with is_annotation) body.1
  no_more ← ends footer.1
  Some (body.0, footer.0)

abbrev pub whole : {B : Type 0} → Head → About → B → Option Pairs → Message B
whole head about body footer = record {
  header = head.header;
  delivery_annotations = head.delivery_annotations;
  message_annotations = head.message_annotations;
  properties = about.properties;
  application_properties = about.application_properties;
  body = body;
  footer = footer;
}

-- the message that the sections say, each in its place (section 3.2)
unfoldable pub message_in : Items → Option (Message Said)
message_in vs = do
  head ← head_in vs
  about ← about_in head.1
  rest ← rest_in about.1
  Some (whole head.0 about.0 rest.0 rest.1)

-- what was returned is the rest, unless memory ran out
abbrev pub GivesRest : Result Rest BaseError → Option (Said × Option Pairs) → Type 0
GivesRest (Ok x) read = read ≡ Some (said x.body, x.footer)
GivesRest (Err (errors.Memory a)) read = Unit {0}
GivesRest (Err errors.Decode) read = read ≡ None
GivesRest (Err errors.Size) read = ⊥

-- what was returned is the message, unless memory ran out
abbrev pub GivesSeen : Result (Message Body) BaseError → Option (Message Said) → Type 0
GivesSeen (Ok m) read = read ≡ Some (seen m)
GivesSeen (Err (errors.Memory a)) read = Unit {0}
GivesSeen (Err errors.Decode) read = read ≡ None
GivesSeen (Err errors.Size) read = ⊥

-- The bytes spell the message: they are spelled by values, each nested within 33 levels, which are its sections.
pub record SpellsMessage (text : List ℕ) (m : Message Said) : Type 0 where
  pub values : Items
  pub fill : Fill 33 text values
  pub says : message_in values ≡ Some m

-- What was returned is the one message of which this holds; it is refused exactly where it holds of none, unless memory ran out.
abbrev pub IsTheMessage : Result (Message Body) BaseError → (Message Said → Type 0) → Type 0
IsTheMessage (Ok m) Holds = Holds (seen m) × ((x : Message Said) → Holds x → seen m ≡ x)
IsTheMessage (Err (errors.Memory a)) Holds = Unit {0}
IsTheMessage (Err errors.Decode) Holds = (x : Message Said) → Holds x → ⊥
IsTheMessage (Err errors.Size) Holds = ⊥

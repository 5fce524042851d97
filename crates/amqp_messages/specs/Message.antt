-- What a message says (OASIS AMQP 1.0, part 3, section 3.2).
use Rattle.std.specs.Prelude.{ℕ, List, None}
use Rattle.amqp_data.specs.Data.{Amqp, Items}
use Rattle.amqp_data.specs.View.{view}
use Rattle.amqp_messages.specs.declared.message.Message.{Message}
use Rattle.amqp_messages.specs.declared.message.Body.{Body}
use Rattle.amqp_messages.specs.declared.message.Body.TheVariants as b

-- what the body of a message says (sections 3.2.6 to 3.2.8)
pub data Said : Type 0 where
  one_value : Amqp → Said
  all_data : List ℕ → List (List ℕ) → Said
  all_sequences : Items → List Items → Said
  nothing : Said

abbrev pub said : Body → Said
said (b.Value v) = one_value (view v)
said (b.Data sections) = all_data sections.first sections.rest.items
said (b.Sequence sections) = all_sequences sections.first sections.rest.items
said b.Empty = nothing

-- the message with another body
abbrev pub with_body : {A B : Type 0} → Message A → B → Message B
with_body m body = record {
  header = m.header;
  delivery_annotations = m.delivery_annotations;
  message_annotations = m.message_annotations;
  properties = m.properties;
  application_properties = m.application_properties;
  body = body;
  footer = m.footer;
}

-- the message as data
abbrev pub seen : Message Body → Message Said
seen m = with_body m (said m.body)

abbrev pub only_body : {A : Type 0} → A → Message A
only_body body = record { header = None; delivery_annotations = None; message_annotations = None; properties = None; application_properties = None; body = body; footer = None }

-- The lines of messages that are received.
use Rattle.std.specs.Prelude.{List, ℕ, [], ◌∷◌, ◌++◌, true, Option, Some, None, codes, flat_map}
use Rattle.amqp_calls.specs.declared.reply.Reply.{Reply}
use Rattle.amqp_calls.specs.declared.reply.Reply.TheVariants as reply
use Rattle.amqp_data.specs.View.{view}
use Rattle.amqp_data.specs.declared.value.Value.{Value}
use Rattle.amqp_data.specs.declared.value.Value.TheVariants as value
use Rattle.amqp_link_words.specs.declared.link_reply.LinkReply.{LinkReply}
use Rattle.amqp_link_words.specs.declared.link_reply.LinkReply.TheVariants as link
use Rattle.amqp_messages.specs.declared.message.Body.{Body}
use Rattle.amqp_messages.specs.declared.message.Body.TheVariants as body
use Rattle.amqp_shown.specs.Bytes.{escaped}
use Rattle.amqp_shown.specs.Values.{value_text}

-- a string as text, any other value as it is shown
unfoldable pub value_line : Value → List ℕ
value_line (value.String text) = escaped true text
value_line v = value_text (view v)

-- what a message holds: bytes as text, with escapes for what is no text
abbrev pub body_text : Body → List ℕ
body_text (body.Value v) = value_line v
body_text (body.Data pieces) = escaped true pieces.first ++ flat_map (escaped true) pieces.rest.items
body_text (body.Sequence lists) = codes "sequence"
body_text body.Empty = []

-- the line of a message, where an answer gives one
abbrev pub link_line : LinkReply → Option (List ℕ)
link_line (link.Delivery info message) = Some (body_text message.value.body ++ 10 ∷ [])
link_line _ = None

abbrev pub line_in : Reply → Option (List ℕ)
line_in (reply.Link answer) = link_line answer
line_in (reply.Session answer) = None
line_in (reply.Connection answer) = None

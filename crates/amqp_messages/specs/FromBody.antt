-- What a body is.
use Rattle.std.specs.Prelude.{ℕ, List, Result, Ok, Err}
use Rattle.amqp_data.specs.declared.value.Value.{Value}
use Rattle.amqp_data.specs.declared.value.Value.TheVariants as v
use Rattle.amqp_messages.specs.declared.message.Body.{Body}
use Rattle.amqp_messages.specs.declared.message.Body.TheVariants as b

-- any body
abbrev pub the_body : Body → Result Body Body
the_body x = Ok x

-- the one value
abbrev pub the_value : Body → Result Value Body
the_value (b.Value x) = Ok x
the_value x = Err x

-- the one value, which is a text
abbrev pub the_text : Body → Result (List ℕ) Body
the_text (b.Value (v.String t)) = Ok t
the_text x = Err x

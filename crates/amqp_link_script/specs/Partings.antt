-- The calls that leave a link which a word and its arguments say.
use Rattle.std.specs.Prelude.{List, ℕ, [], ◌∷◌, if◌then◌else◌, Option, Some, None}
use Rattle.amqp_fields.specs.Fields.{◌>>=◌}
use Rattle.amqp_link_words.specs.declared.link_call.LinkCall.{LinkCall}
use Rattle.amqp_link_words.specs.declared.link_call.LinkCall.TheVariants as link
use Rattle.amqp_link_words.specs.declared.link_call.Parting.TheVariants.{OnDetach, Detach, Close, Abandon}
use Rattle.amqp_script.specs.Fields.{symbol_in, if_there}
use Rattle.amqp_link_script.specs.declared.keys.LinkKey.{LinkKey}
use Rattle.amqp_link_script.specs.declared.keys.LinkKey.TheVariants.{Error, Timeout}
use Rattle.amqp_link_script.specs.Keys.{has_only, value_of, timeout_in}
use Rattle.amqp_link_script.specs.Names.{name_in, one_name_in}

unfoldable pub on_detach_call_in : List (List ℕ) → Option LinkCall
on_detach_call_in arguments = do
  name ← one_name_in arguments
  Some (link.Part name OnDetach)

unfoldable pub abandon_call_in : List (List ℕ) → Option LinkCall
abandon_call_in arguments = do
  name ← one_name_in arguments
  Some (link.Part name Abandon)

-- the condition of an error, where its key is there
abbrev pub condition_in : List (List ℕ) → Option (Option (List ℕ))
condition_in arguments = if_there symbol_in (value_of Error arguments)

-- the condition of the error that the peer is told, if the arguments say one; they have only these keys
abbrev pub error_in : List LinkKey → List (List ℕ) → Option (Option (List ℕ))
error_in keys arguments = if has_only keys arguments then condition_in arguments else None

unfoldable pub detach_call_in : List (List ℕ) → Option LinkCall
detach_call_in [] = None
detach_call_in (name ∷ arguments) = do
  name ← name_in name
  error ← error_in (Error ∷ Timeout ∷ []) arguments
  timeout ← timeout_in arguments
  Some (link.Part name (Detach error timeout))

unfoldable pub close_call_in : List (List ℕ) → Option LinkCall
close_call_in [] = None
close_call_in (name ∷ arguments) = do
  name ← name_in name
  error ← error_in (Error ∷ []) arguments
  Some (link.Part name (Close error))

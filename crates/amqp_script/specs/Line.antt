-- What a line of a script says.
use Rattle.std.specs.Prelude.{List, ℕ, [], ◌∷◌, ◌-◌, ◌^◌, if◌then◌else◌, Option, Some, None, option_map, option_and_then, codes, bytes_eq}
use Rattle.sasl_exchange.specs.declared.profile.SaslProfile.{SaslProfile}
use Rattle.amqp_words.specs.declared.call.ConnectionSettings.{ConnectionSettings}
use Rattle.amqp_opening.specs.declared.acceptor.AcceptSasl.{AcceptSasl}
use Rattle.amqp_words.specs.declared.call.Call.TheVariants.{Open, Accept, Close}
use Rattle.amqp_words.specs.declared.step.End.{End}
use Rattle.amqp_words.specs.declared.step.End.TheVariants.{Client, Listener}
use Rattle.amqp_words.specs.declared.step.Act.{Act}
use Rattle.amqp_words.specs.declared.step.Act.TheVariants.{Take, TakeAll, Call}
use Rattle.amqp_words.specs.declared.step.Step.{Step}
use Rattle.amqp_script.specs.declared.script.keys.Key.TheVariants.{SaslHost, Error}
use Rattle.amqp_script.specs.declared.script.sasl.SaslKind.{SaslKind}
use Rattle.amqp_script.specs.Words.{words_of}
use Rattle.amqp_script.specs.Number.{number_in}
use Rattle.amqp_script.specs.Keys.{has_only}
use Rattle.amqp_script.specs.Fields.{text_in, symbol_in, optional_in}
use Rattle.amqp_script.specs.Settings.{settings_in}
use Rattle.amqp_script.specs.Sasl.{kind_in, open_keys, accept_keys, client_sasl_in, listener_sasl_in}

abbrev pub open_of : Option ConnectionSettings → Option (Option (List ℕ)) → Option (Option SaslProfile) → Option Act
open_of None _ _ = None
open_of (Some settings) None _ = None
open_of (Some settings) (Some host) None = None
open_of (Some settings) (Some host) (Some sasl) = Some (Call (Open settings host sasl))

abbrev pub open_at : List (List ℕ) → SaslKind → Option Act
open_at arguments kind =
    if has_only (open_keys kind) arguments then open_of (settings_in arguments) (optional_in text_in SaslHost arguments) (client_sasl_in kind arguments) else None

-- `open`: the keys are those of its kind
abbrev pub open_in : List (List ℕ) → Option Act
open_in arguments = option_and_then (open_at arguments) (kind_in arguments)

abbrev pub accept_of : Option ConnectionSettings → Option (Option AcceptSasl) → Option Act
accept_of None _ = None
accept_of (Some settings) None = None
accept_of (Some settings) (Some sasl) = Some (Call (Accept settings sasl))

abbrev pub accept_at : List (List ℕ) → SaslKind → Option Act
accept_at arguments kind = if has_only (accept_keys kind) arguments then accept_of (settings_in arguments) (listener_sasl_in kind arguments) else None

-- `accept`: the keys are those of its kind
abbrev pub accept_in : List (List ℕ) → Option Act
accept_in arguments = option_and_then (accept_at arguments) (kind_in arguments)

-- `close`, for an error or for none
abbrev pub close_in : List (List ℕ) → Option Act
close_in arguments =
    if has_only (Error ∷ []) arguments then option_map (λ error. Call (Close error)) (optional_in symbol_in Error arguments) else None

-- how many bytes are moved: `all`, or a number
abbrev pub amount_in : List ℕ → Option Act
amount_in amount = if bytes_eq amount (codes "all") then Some TakeAll else option_map Take (number_in (2 ^ 64 - 1) amount)

abbrev pub take_in : List (List ℕ) → Option Act
take_in [] = None
take_in (amount ∷ []) = amount_in amount
take_in (amount ∷ more ∷ others) = None

-- the words that there are, each with what its arguments say
abbrev pub act_in : List ℕ → List (List ℕ) → Option Act
act_in word arguments =
    if bytes_eq word (codes "take") then take_in arguments else
    if bytes_eq word (codes "open") then open_in arguments else
    if bytes_eq word (codes "accept") then accept_in arguments else
    if bytes_eq word (codes "close") then close_in arguments else None

abbrev pub end_in : List ℕ → Option End
end_in word = if bytes_eq word (codes "c") then Some Client else if bytes_eq word (codes "l") then Some Listener else None

abbrev pub step_of : Option End → Option ℕ → Option Act → Option Step
step_of None at act = None
step_of (Some end) None act = None
step_of (Some end) (Some at) None = None
step_of (Some end) (Some at) (Some act) = Some (record { end = end; at = at; act = act })

-- `END MOMENT WORD` and arguments
abbrev pub step_of_words : List (List ℕ) → Option Step
step_of_words [] = None
step_of_words (end ∷ []) = None
step_of_words (end ∷ at ∷ []) = None
step_of_words (end ∷ at ∷ word ∷ arguments) = step_of (end_in end) (number_in (2 ^ 64 - 1) at) (act_in word arguments)

-- the step that a line says
abbrev pub step_in : List ℕ → Option Step
step_in line = step_of_words (words_of line)

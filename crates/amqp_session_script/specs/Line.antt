-- What a line of a script of connections, sessions and links says.
use Rattle.std.specs.Prelude.{◌≡◌, List, ℕ, [], ◌∷◌, ◌-◌, ◌^◌, Bool, true, not, ◌||◌, if◌then◌else◌, Option, Some, None, is_some, option_map, codes, bytes_eq}
use Rattle.amqp_words.specs.declared.step.End.{End}
use Rattle.amqp_words.specs.declared.step.Act.{Act as ConnectionAct}
use Rattle.amqp_words.specs.declared.step.Act.TheVariants as acts
use Rattle.amqp_words.specs.declared.step.Step.{Step as ConnectionStep}
use Rattle.amqp_calls.specs.declared.call.SessionNumbers.{SessionNumbers}
use Rattle.amqp_calls.specs.declared.call.SessionCall.{SessionCall}
use Rattle.amqp_calls.specs.declared.call.SessionCall.TheVariants as session
use Rattle.amqp_link_words.specs.declared.link_call.LinkCall.{LinkCall}
use Rattle.amqp_calls.specs.declared.call.Call.TheVariants.{Connection, Session, Link}
use Rattle.amqp_calls.specs.declared.step.Act.{Act}
use Rattle.amqp_calls.specs.declared.step.Act.TheVariants.{Take, TakeAll, Call}
use Rattle.amqp_calls.specs.declared.step.Step.{Step}
use Rattle.amqp_script.specs.Words.{words_of}
use Rattle.amqp_script.specs.Number.{number_in}
use Rattle.amqp_script.specs.Keys.{value_at}
use Rattle.amqp_script.specs.Fields.{symbol_in, if_there, or_else}
use Rattle.amqp_script.specs.Line.{act_in as connection_act_in, end_in}
use Rattle.amqp_link_script.specs.declared.words.LinkWord.{LinkWord}
use Rattle.amqp_link_script.specs.Words.{word_of as link_word_of}
use Rattle.amqp_link_script.specs.Calls.{call_in as link_call_in}
use Rattle.amqp_link_script.specs.Messages.{IsCall}
use Rattle.amqp_session_script.specs.declared.keys.SessionKey.{SessionKey}
use Rattle.amqp_session_script.specs.declared.keys.SessionKey.TheVariants.{Window, OutWindow, Next, Handles, Error}
use Rattle.amqp_session_script.specs.Keys.{name_of, has_only}

-- the number of a key, below 2^32, and its default where the key is left out
abbrev pub number_of : ℕ → SessionKey → List (List ℕ) → Option ℕ
number_of default key arguments = or_else default (number_in (2 ^ 32 - 1)) (value_at (name_of key) arguments)

abbrev pub numbers_of : Option ℕ → Option ℕ → Option ℕ → Option ℕ → Option SessionNumbers
numbers_of None _ _ _ = None
numbers_of (Some next) None _ _ = None
numbers_of (Some next) (Some incoming) None _ = None
numbers_of (Some next) (Some incoming) (Some outgoing) None = None
numbers_of (Some next) (Some incoming) (Some outgoing) (Some handle) =
    Some (record { next_outgoing_id = next; incoming_window = incoming; outgoing_window = outgoing; handle_max = handle })

-- what the arguments say of a session (OASIS AMQP 1.0, part 2, section 2.7.2)
abbrev pub numbers_in : List (List ℕ) → Option SessionNumbers
numbers_in arguments =
    if has_only (Window ∷ OutWindow ∷ Next ∷ Handles ∷ []) arguments
    then numbers_of (number_of 0 Next arguments) (number_of 2048 Window arguments) (number_of 2048 OutWindow arguments)
    (number_of 255 Handles arguments)
    else None

-- the condition of the error for which a session ends, if it is for one (part 2, section 2.8.14)
abbrev pub error_in : List (List ℕ) → Option (Option (List ℕ))
error_in arguments = if_there symbol_in (value_at (name_of Error) arguments)

abbrev pub ended_of : Option ℕ → Option (Option (List ℕ)) → Option SessionCall
ended_of None error = None
ended_of (Some name) None = None
ended_of (Some name) (Some error) = Some (session.End name error)

-- `end`: the name of the step that made the session, and an error or none
abbrev pub ended_in : List (List ℕ) → Option SessionCall
ended_in [] = None
ended_in (name ∷ arguments) =
    if has_only (Error ∷ []) arguments then ended_of (number_in (2 ^ 64 - 1) name) (error_in arguments) else None

-- an act of a connection among those of all words
abbrev pub act_of : ConnectionAct → Act
act_of (acts.Take n) = Take n
act_of acts.TakeAll = TakeAll
act_of (acts.Call call) = Call (Connection call)

-- a step of a connection among those of all words
abbrev pub step_among : ConnectionStep → Step
step_among s = record { end = s.end; at = s.at; act = act_of s.act }

abbrev pub session_act : SessionCall → Act
session_act call = Call (Session call)

abbrev pub link_act : LinkCall → Act
link_act call = Call (Link call)

-- a word of sessions or links
abbrev pub is_session_word : List ℕ → Bool
is_session_word word =
    bytes_eq word (codes "begin") || bytes_eq word (codes "accept_session") || bytes_eq word (codes "end") || is_some (link_word_of word)

-- the words of links, and those of connections
abbrev pub link_or_connection_in : Option LinkWord → List ℕ → List (List ℕ) → Option Act
link_or_connection_in (Some link) word arguments = option_map link_act (link_call_in link arguments)
link_or_connection_in None word arguments = option_map act_of (connection_act_in word arguments)

-- the words that there are: those of sessions, those of links, and those of connections
abbrev pub act_in : List ℕ → List (List ℕ) → Option Act
act_in word arguments =
    if bytes_eq word (codes "begin") then option_map (λ numbers. session_act (session.Begin numbers)) (numbers_in arguments) else
    if bytes_eq word (codes "accept_session") then option_map (λ numbers. session_act (session.Accept numbers)) (numbers_in arguments) else
    if bytes_eq word (codes "end") then option_map session_act (ended_in arguments)
    else link_or_connection_in (link_word_of word) word arguments

abbrev pub step_of : Option End → Option ℕ → Option Act → Option Step
step_of None at act = None
step_of (Some end) None act = None
step_of (Some end) (Some at) None = None
step_of (Some end) (Some at) (Some act) = Some (record { end = end; at = at; act = act })

-- `END MOMENT WORD` and arguments
abbrev pub step_of_words : List (List ℕ) → Option Step
step_of_words [] = None
step_of_words (end ∷ []) = None
step_of_words (end ∷ at ∷ []) = None
step_of_words (end ∷ at ∷ word ∷ arguments) = step_of (end_in end) (number_in (2 ^ 64 - 1) at) (act_in word arguments)

-- the words of a line say nothing of sessions and links
abbrev pub names_no_session : List (List ℕ) → Bool
names_no_session [] = true
names_no_session (end ∷ []) = true
names_no_session (end ∷ at ∷ []) = true
names_no_session (end ∷ at ∷ word ∷ arguments) = not (is_session_word word)

-- the step that a line says, its message as it is written
abbrev pub step_in : List ℕ → Option Step
step_in line = step_of_words (words_of line)

-- the act of one in which a message stands as it is written
abbrev pub IsAct : Act → Act → Type 0
IsAct (Call (Link written)) act = (call : LinkCall) × ((act ≡ Call (Link call)) × IsCall written call)
IsAct written act = written ≡ act

abbrev pub with_act : Step → Act → Step
with_act step act = record { end = step.end; at = step.at; act = act }

-- the step of one in which a message stands as it is written
abbrev pub IsStep : Step → Step → Type 0
IsStep written step = (act : Act) × ((step ≡ with_act written act) × IsAct written.act act)

-- the line says this step
abbrev pub LineSays : List ℕ → Step → Type 0
LineSays line step = (written : Step) × ((step_in line ≡ Some written) × IsStep written step)

-- it says no step
abbrev pub IsOutside : List ℕ → Type 0
IsOutside line = (step : Step) → LineSays line step → ⊥

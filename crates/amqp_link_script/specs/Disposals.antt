-- What a line says of the state in which deliveries end (OASIS AMQP 1.0, part 3, section 3.4), and which deliveries.
use Rattle.std.specs.Prelude.{List, ℕ, [], ◌∷◌, ◌++◌, ◌-◌, ◌^◌, ◌==◌, true, false, if◌then◌else◌, Option, Some, None, option_map, codes, bytes_eq}
use Rattle.std.specs.List.{slice_split}
use Rattle.amqp_link_words.specs.declared.link_call.Disposal.{Disposal}
use Rattle.amqp_link_words.specs.declared.link_call.Disposal.TheVariants.{Accepted, Rejected, Released, Modified}
use Rattle.amqp_script.specs.Words.{split_once}
use Rattle.amqp_script.specs.Number.{number_in}
use Rattle.amqp_script.specs.Fields.{symbol_in}

-- a state alone
abbrev pub plain_state_in : List ℕ → Option Disposal
plain_state_in word =
    if bytes_eq word (codes "accepted") then Some Accepted else
    if bytes_eq word (codes "released") then Some Released else
    if bytes_eq word (codes "rejected") then Some (Rejected None) else
    if bytes_eq word (codes "modified") then Some (Modified false false) else None

-- `f`: the attempt failed; `u`: the delivery is not to come here again
abbrev pub flags_in : List ℕ → Option Disposal
flags_in flags =
    if bytes_eq flags (codes "f") then Some (Modified true false) else
    if bytes_eq flags (codes "u") then Some (Modified false true) else
    if bytes_eq flags (codes "fu") then Some (Modified true true) else None

-- a state and what is said of it
abbrev pub told_state_in : List ℕ → List ℕ → Option Disposal
told_state_in state told =
    if bytes_eq state (codes "rejected") then option_map (λ condition. Rejected (Some condition)) (symbol_in told) else
    if bytes_eq state (codes "modified") then flags_in told else None

abbrev pub state_of : List ℕ → Option (List ℕ × List ℕ) → Option Disposal
state_of word None = plain_state_in word
state_of word (Some parts) = told_state_in parts.0 parts.1

-- a state; what is said of it stands behind the first `:`
abbrev pub state_in : List ℕ → Option Disposal
state_in word = state_of word (split_once 58 word)

abbrev pub before : Option ℕ → Option (List ℕ) → Option (List ℕ)
before None names = None
before (Some name) None = None
before (Some name) (Some names) = Some (name ∷ names)

abbrev pub each_name_in : List (List ℕ) → Option (List ℕ)
each_name_in [] = Some []
each_name_in (word ∷ words) = before (number_in (2 ^ 64 - 1) word) (each_name_in words)

-- names, and one more behind them
abbrev pub with_last : List ℕ → Option ℕ → Option (List ℕ)
with_last names None = None
with_last names (Some name) = Some (names ++ name ∷ [])

-- names of steps, one or more, between commas
abbrev pub names_in : List ℕ → Option (List ℕ)
names_in word = each_name_in (slice_split (λ b. b == 44) word)

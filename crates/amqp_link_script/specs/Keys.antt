-- Arguments `key=value` of the words of links, in any order; a key ends at the first `=`.
use Rattle.std.specs.Prelude.{List, ℕ, [], ◌∷◌, ◌-◌, ◌^◌, Bool, true, false, ◌&&◌, not, if◌then◌else◌, Option, Some, None, is_some, codes, bytes_eq}
use Rattle.std.specs.List.{list_any}
use Rattle.amqp_script.specs.Words.{split_once}
use Rattle.amqp_script.specs.Keys.{value_at}
use Rattle.amqp_script.specs.Number.{number_in}
use Rattle.amqp_script.specs.Fields.{text_in, if_there, or_else}
use Rattle.amqp_link_script.specs.declared.keys.LinkKey.{LinkKey}
use Rattle.amqp_link_script.specs.declared.keys.LinkKey.TheVariants.{Name, Source, Target, Snd, Rcv, Max, Count, Dynamic, Credit, Dyn, Settled, Batchable, Auto, Error, Timeout}

-- how a key is written
abbrev pub name_of : LinkKey → List ℕ
name_of Name = codes "name"
name_of Source = codes "source"
name_of Target = codes "target"
name_of Snd = codes "snd"
name_of Rcv = codes "rcv"
name_of Max = codes "max"
name_of Count = codes "count"
name_of Dynamic = codes "dynamic"
name_of Credit = codes "credit"
name_of Dyn = codes "dyn"
name_of Settled = codes "settled"
name_of Batchable = codes "batchable"
name_of Auto = codes "auto"
name_of Error = codes "error"
name_of Timeout = codes "timeout"

-- an argument has one of these keys, and no later one has its name
abbrev pub is_first_of : List LinkKey → Option (List ℕ × List ℕ) → List (List ℕ) → Bool
is_first_of keys None later = false
is_first_of keys (Some argument) later =
    list_any (λ key. bytes_eq argument.0 (name_of key)) keys && not (is_some (value_at argument.0 later))

-- each argument has one of these keys, and each key comes at most once
abbrev pub has_only : List LinkKey → List (List ℕ) → Bool
has_only keys [] = true
has_only keys (first ∷ later) = is_first_of keys (split_once 61 first) later && has_only keys later

-- the value of a key
abbrev pub value_of : LinkKey → List (List ℕ) → Option (List ℕ)
value_of key arguments = value_at (name_of key) arguments

-- the text of a key that may be left out
abbrev pub optional_text_in : LinkKey → List (List ℕ) → Option (Option (List ℕ))
optional_text_in key arguments = if_there text_in (value_of key arguments)

abbrev pub yes_in : List ℕ → Option Bool
yes_in word = if bytes_eq word (codes "yes") then Some true else None

-- a key that says `yes` or is left out
abbrev pub flag_in : LinkKey → List (List ℕ) → Option Bool
flag_in key arguments = or_else false yes_in (value_of key arguments)

abbrev pub choice_in : List ℕ → Option Bool
choice_in word = if bytes_eq word (codes "yes") then Some true else if bytes_eq word (codes "no") then Some false else None

-- a key that says `yes` or `no`, or is left out
abbrev pub optional_choice_in : LinkKey → List (List ℕ) → Option (Option Bool)
optional_choice_in key arguments = if_there choice_in (value_of key arguments)

-- the number of a key, below 2^32, and 0 where the key is left out
abbrev pub count_in : List (List ℕ) → Option ℕ
count_in arguments = or_else 0 (number_in (2 ^ 32 - 1)) (value_of Count arguments)

-- how long a call waits, in milliseconds below 2^64, where the key is there
abbrev pub timeout_in : List (List ℕ) → Option (Option ℕ)
timeout_in arguments = if_there (number_in (2 ^ 64 - 1)) (value_of Timeout arguments)

-- the largest message in bytes, below 2^64, where there is a limit
abbrev pub max_in : List (List ℕ) → Option (Option ℕ)
max_in arguments = if_there (number_in (2 ^ 64 - 1)) (value_of Max arguments)

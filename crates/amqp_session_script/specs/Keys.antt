-- Arguments `key=value` of the words of sessions, in any order; a key ends at the first `=`.
use Rattle.std.specs.Prelude.{List, ℕ, [], ◌∷◌, Bool, true, false, ◌&&◌, not, Option, Some, None, is_some, codes, bytes_eq}
use Rattle.std.specs.List.{list_any}
use Rattle.amqp_script.specs.Words.{split_once}
use Rattle.amqp_script.specs.Keys.{value_at}
use Rattle.amqp_session_script.specs.declared.keys.SessionKey.{SessionKey}
use Rattle.amqp_session_script.specs.declared.keys.SessionKey.TheVariants.{Window, OutWindow, Next, Handles, Error}

-- how a key is written
abbrev pub name_of : SessionKey → List ℕ
name_of Window = codes "window"
name_of OutWindow = codes "outwindow"
name_of Next = codes "next"
name_of Handles = codes "handles"
name_of Error = codes "error"

-- an argument has one of these keys, and no later one has its name
abbrev pub is_first_of : List SessionKey → Option (List ℕ × List ℕ) → List (List ℕ) → Bool
is_first_of keys None later = false
is_first_of keys (Some argument) later =
    list_any (λ key. bytes_eq argument.0 (name_of key)) keys && not (is_some (value_at argument.0 later))

-- each argument has one of these keys, and each key comes at most once
abbrev pub has_only : List SessionKey → List (List ℕ) → Bool
has_only keys [] = true
has_only keys (first ∷ later) = is_first_of keys (split_once 61 first) later && has_only keys later

-- Arguments `key=value`, in any order; a key ends at the first `=`.
use Rattle.std.specs.Prelude.{List, ℕ, [], ◌∷◌, Bool, true, false, ◌&&◌, not, if◌then◌else◌, Option, Some, None, is_some, codes, bytes_eq}
use Rattle.std.specs.List.{list_any}
use Rattle.amqp_script.specs.Words.{split_once}
use Rattle.amqp_script.specs.declared.script.keys.Key.{Key}
use Rattle.amqp_script.specs.declared.script.keys.Key.TheVariants.{Id, Host, SaslHost, Max, Channels, Idle, Sasl, User, Pass, Nonce, Salt, Rounds, Error}

-- how a key is written
abbrev pub name_of : Key → List ℕ
name_of Id = codes "id"
name_of Host = codes "host"
name_of SaslHost = codes "saslhost"
name_of Max = codes "max"
name_of Channels = codes "channels"
name_of Idle = codes "idle"
name_of Sasl = codes "sasl"
name_of User = codes "user"
name_of Pass = codes "pass"
name_of Nonce = codes "nonce"
name_of Salt = codes "salt"
name_of Rounds = codes "rounds"
name_of Error = codes "error"

abbrev pub value_or : List ℕ → Option (List ℕ × List ℕ) → Option (List ℕ) → Option (List ℕ)
value_or name None later = later
value_or name (Some argument) later = if bytes_eq argument.0 name then Some argument.1 else later

-- the value of the first argument of this name
abbrev pub value_at : List ℕ → List (List ℕ) → Option (List ℕ)
value_at name [] = None
value_at name (first ∷ later) = value_or name (split_once 61 first) (value_at name later)

-- an argument has one of these keys, and no later one has its name
abbrev pub is_first_of : List Key → Option (List ℕ × List ℕ) → List (List ℕ) → Bool
is_first_of keys None later = false
is_first_of keys (Some argument) later = list_any (λ key. bytes_eq argument.0 (name_of key)) keys && not (is_some (value_at argument.0 later))

-- each argument has one of these keys, and each key comes at most once
abbrev pub has_only : List Key → List (List ℕ) → Bool
has_only keys [] = true
has_only keys (first ∷ later) = is_first_of keys (split_once 61 first) later && has_only keys later

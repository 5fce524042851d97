-- What the argument of one key says.
use Rattle.std.specs.Prelude.{◌≡◌, List, ℕ, Bool, nat_lt, if◌then◌else◌, Option, Some, None, Result, Ok, Err, option_map, option_and_then, ⊤}
use Rattle.std.specs.List.{list_all}
use Rattle.std.specs.Str.{is_utf8}
use Rattle.std.specs.Result.{result_ok}
use Rattle.base64.specs.GeneralPurpose.{decode_of}
use Rattle.base64.specs.Engines.{standard}
use Rattle.amqp_script.specs.declared.script.line_error.LineError.{LineError}
use Rattle.amqp_script.specs.declared.script.line_error.LineError.TheVariants.{Memory, Outside}
use Rattle.amqp_script.specs.declared.script.keys.Key.{Key}
use Rattle.amqp_script.specs.Escape.{unescaped}
use Rattle.amqp_script.specs.Keys.{name_of, value_at}

-- a part of a line was read: it says this, or it is outside the grammar
abbrev pub Says : {A : Type 0} → Option A → Result A LineError → Type 0
Says said (Ok x) = said ≡ Some x
Says said (Err Outside) = said ≡ None
Says said (Err (Memory e)) = ⊤

-- a text: the bytes are UTF-8
abbrev pub text_in : List ℕ → Option (List ℕ)
text_in argument = option_and_then (λ bytes. if is_utf8 bytes then Some bytes else None) (unescaped argument)

abbrev pub is_ascii : ℕ → Bool
is_ascii b = nat_lt b 128

-- a symbol: a text in ASCII
abbrev pub symbol_in : List ℕ → Option (List ℕ)
symbol_in argument = option_and_then (λ text. if list_all is_ascii text then Some text else None) (text_in argument)

-- a salt: canonical base64 with padding (RFC 4648, section 4)
abbrev pub salt_in : List ℕ → Option (List ℕ)
salt_in argument = result_ok (decode_of standard argument)

-- the argument of a key, read by `read`
abbrev pub field_in : {A : Type 0} → (List ℕ → Option A) → Key → List (List ℕ) → Option A
field_in read key arguments = option_and_then read (value_at (name_of key) arguments)

abbrev pub if_there : {A : Type 0} → (List ℕ → Option A) → Option (List ℕ) → Option (Option A)
if_there read None = Some None
if_there read (Some value) = option_map Some (read value)

-- the same of a key that may be left out
abbrev pub optional_in : {A : Type 0} → (List ℕ → Option A) → Key → List (List ℕ) → Option (Option A)
optional_in read key arguments = if_there read (value_at (name_of key) arguments)

abbrev pub or_else : {A : Type 0} → A → (List ℕ → Option A) → Option (List ℕ) → Option A
or_else default read None = Some default
or_else default read (Some value) = read value

-- the same of a key that has a default
abbrev pub default_in : {A : Type 0} → A → (List ℕ → Option A) → Key → List (List ℕ) → Option A
default_in default read key arguments = or_else default read (value_at (name_of key) arguments)

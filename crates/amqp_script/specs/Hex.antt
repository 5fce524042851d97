-- Bytes in the text of a trace.
use Rattle.std.specs.Prelude.{◌+◌, ◌/◌, ◌%◌, List, ℕ, [], ◌∷◌, ◌++◌, nat_lt, if◌then◌else◌, codes, Option, Some, None, flat_map}

-- a hexadecimal digit in lower case
abbrev pub digit_of : ℕ → ℕ
digit_of n = if nat_lt n 10 then 48 + n else 87 + n

abbrev pub byte_text : ℕ → List ℕ
byte_text b = digit_of (b / 16) ∷ digit_of (b % 16) ∷ []

-- bytes in hexadecimal
abbrev pub hex_of : List ℕ → List ℕ
hex_of bytes = flat_map byte_text bytes

-- bytes inside a reply
abbrev pub bytes_text : List ℕ → List ℕ
bytes_text bytes = codes "x" ++ hex_of bytes

-- bytes inside a reply, or a sign that there are none
abbrev pub option_text : Option (List ℕ) → List ℕ
option_text None = codes "-"
option_text (Some bytes) = bytes_text bytes

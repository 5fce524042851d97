-- What is seen of a key at once.
use Rattle.std.specs.Prelude.{ℕ, ◌-◌, List, length, slice_index}
use Rattle.amqp_data.specs.Data.{Amqp, string, symbol, scalar}

-- the last byte, or 0 where there is none
abbrev pub last_byte : List ℕ → ℕ
last_byte s = slice_index s (length s - 1)

-- the last byte of a text or a symbol, and 0 of any other value
abbrev pub mark_of : Amqp → ℕ
mark_of (scalar (string s)) = last_byte s
mark_of (scalar (symbol s)) = last_byte s
mark_of v = 0

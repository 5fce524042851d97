-- Bytes that are one value exactly, and bytes that are left over (OASIS AMQP 1.0, part 1, section 1.2).
use Rattle.std.specs.Prelude.{◌<◌, ◌≤◌, ◌-◌, ℕ, List, length, take}
use Rattle.amqp_data.specs.Data.{Amqp, depth}
use Rattle.amqp_value.specs.Grammar.{Spells}
use Rattle.amqp_value.specs.ReadErrors.{IsReadError}
use Rattle.amqp_codec.specs.declared.whole.WholeValueError.{WholeValueError}
use Rattle.amqp_codec.specs.declared.whole.WholeValueError.TheVariants as e

-- the bytes spell a value that nests at most 32 deep
abbrev pub AreAValue : List ℕ → Type 0
AreAValue bytes = (v : Amqp) × Spells bytes v × (depth v ≤ 32)

-- the reader's own error, or so many bytes behind a value
abbrev pub IsWholeError : List ℕ → WholeValueError → Type 0
IsWholeError bytes (e.Value error) = IsReadError error
IsWholeError bytes (e.Left left) = (0 < left) × (left ≤ length bytes) × AreAValue (take (length bytes - left) bytes)

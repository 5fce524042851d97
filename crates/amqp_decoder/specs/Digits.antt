-- Bytes in hexadecimal, with any white space.
use Rattle.std.specs.Prelude.{List, ℕ, Bool, ◌||◌, not, ◌==◌, filter}

-- a space, a tab, a line feed or a carriage return
abbrev pub is_space : ℕ → Bool
is_space b = (b == 32) || (b == 9) || (b == 10) || (b == 13)

abbrev pub without_spaces : List ℕ → List ℕ
without_spaces text = filter (λ b. not (is_space b)) text

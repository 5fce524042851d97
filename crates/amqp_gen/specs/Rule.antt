-- The rule by which messages are made: a number after another, modulo 2^64, and from each the length of a body.
use Rattle.std.specs.Prelude.{ℕ, zero, suc, ◌+◌, ◌*◌, ◌/◌, ◌%◌, List, [], ◌∷◌, ◌++◌, nat_lt, if◌then◌else◌, replicate}

-- the next number
abbrev pub advanced : ℕ → ℕ
advanced x = (x * 6364136223846793005 + 1442695040888963407) % 18446744073709551616

-- the length in bytes of the body that a number stands for
abbrev pub body_length : ℕ → ℕ
body_length x = (x / 8589934592) % 1000

-- the n-th number behind the start
abbrev pub number_at : ℕ → ℕ → ℕ
number_at start zero = start
number_at start (suc n) = advanced (number_at start n)

-- how a binary of so many bytes, less than 65,536, is begun (part 1, section 1.6.19)
abbrev pub binary_front : ℕ → List ℕ
binary_front n = if nat_lt n 256 then 160 ∷ n ∷ [] else 176 ∷ 0 ∷ 0 ∷ (n / 256) ∷ (n % 256) ∷ []

-- a message with one section of data, of that many bytes 61 (part 3, section 3.2.6)
abbrev pub message_of : ℕ → List ℕ
message_of n = 0 ∷ 83 ∷ 117 ∷ binary_front n ++ replicate n 97

-- Which users, passwords, nonces and iteration counts are taken: printable ASCII, so that SASLprep (RFC 4013) is the
-- identity on them.
use Rattle.std.specs.Prelude.{◌≢◌, ℕ, ◌<◌, ◌≤◌, List, length, All}

-- the characters 0x20 to 0x7e
abbrev pub IsAllowedPassword : List ℕ → Type 0
IsAllowedPassword text = All (λ b. (0x20 ≤ b) × (b ≤ 0x7e)) text

-- at least one of these characters
abbrev pub IsAllowedUser : List ℕ → Type 0
IsAllowedUser text = (0 < length text) × All (λ b. (0x20 ≤ b) × (b ≤ 0x7e)) text

-- RFC 5802, section 7, `printable`, once or more: visible ASCII other than the comma
abbrev pub IsNonce : List ℕ → Type 0
IsNonce text = (0 < length text) × All (λ b. (0x21 ≤ b) × (b ≤ 0x7e) × (b ≢ 44)) text

-- the iteration counts
abbrev pub IsAllowedCount : ℕ → Type 0
IsAllowedCount count = (1 ≤ count) × (count ≤ 10000000)

-- How bytes stand in a line.
use Rattle.std.specs.Prelude.{◌+◌, ◌/◌, ◌%◌, List, ℕ, [], ◌∷◌, ◌++◌, Bool, ◌&&◌, ◌||◌, not, nat_le, nat_lt, ◌==◌, if◌then◌else◌, flat_map}

-- a hexadecimal digit in lower case
abbrev pub digit_of : ℕ → ℕ
digit_of n = if nat_lt n 10 then 48 + n else 87 + n

abbrev pub byte_text : ℕ → List ℕ
byte_text b = digit_of (b / 16) ∷ digit_of (b % 16) ∷ []

-- bytes in hexadecimal
abbrev pub hex_of : List ℕ → List ℕ
hex_of bytes = flat_map byte_text bytes

-- no control character, no quotation mark and no backslash; from 128 on only in what is UTF-8
abbrev pub is_plain : Bool → ℕ → Bool
is_plain utf8 b = nat_le 32 b && not (b == 34) && not (b == 92) && not (b == 127) && (utf8 || nat_lt b 127)

-- such a byte as it is, any other as `\x` and two digits
abbrev pub escape : Bool → ℕ → List ℕ
escape utf8 b = if is_plain utf8 b then b ∷ [] else 92 ∷ 120 ∷ byte_text b

abbrev pub escaped : Bool → List ℕ → List ℕ
escaped utf8 bytes = flat_map (escape utf8) bytes

-- between quotation marks
abbrev pub quoted : Bool → List ℕ → List ℕ
quoted utf8 bytes = 34 ∷ escaped utf8 bytes ++ 34 ∷ []

-- the four hyphens of a UUID stand behind its bytes 4, 6, 8 and 10 (RFC 4122, section 3)
abbrev pub hyphen : ℕ → List ℕ
hyphen i = if (i == 4) || (i == 6) || (i == 8) || (i == 10) then 45 ∷ [] else []

abbrev pub uuid_from : ℕ → List ℕ → List ℕ
uuid_from i [] = []
uuid_from i (b ∷ bytes) = hyphen i ++ byte_text b ++ uuid_from (i + 1) bytes

-- what stands before the element at a place, from 0
abbrev pub separator : ℕ → List ℕ
separator i = if i == 0 then [] else 44 ∷ 32 ∷ []

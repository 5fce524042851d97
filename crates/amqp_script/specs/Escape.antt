-- A text of a script: printable ASCII without space and `%`, and any byte as `%` and two hexadecimal digits.
use Rattle.std.specs.Prelude.{List, ℕ, [], ◌∷◌, ◌+◌, ◌-◌, ◌*◌, Bool, ◌&&◌, not, nat_le, ◌==◌, if◌then◌else◌, Option, Some, None, option_map}

-- a byte that stands for itself
abbrev pub is_plain : ℕ → Bool
is_plain b = nat_le 33 b && nat_le b 126 && not (b == 37)

-- the value of a hexadecimal digit in either case
abbrev pub hex_value : ℕ → Option ℕ
hex_value b =
    if nat_le 48 b && nat_le b 57 then Some (b - 48) else
    if nat_le 65 b && nat_le b 70 then Some (b - 55) else
    if nat_le 97 b && nat_le b 102 then Some (b - 87) else None

-- the byte of two hexadecimal digits
abbrev pub byte_of : Option ℕ → Option ℕ → Option ℕ
byte_of None low = None
byte_of (Some high) None = None
byte_of (Some high) (Some low) = Some (16 * high + low)

abbrev pub onto : Option ℕ → Option (List ℕ) → Option (List ℕ)
onto None bytes = None
onto (Some b) bytes = option_map (λ bs. b ∷ bs) bytes

abbrev pub plain_of : ℕ → Option ℕ
plain_of b = if is_plain b then Some b else None

-- the bytes that a text says
abbrev pub unescaped : List ℕ → Option (List ℕ)
unescaped [] = Some []
unescaped (a ∷ []) = onto (plain_of a) (Some [])
unescaped (a ∷ b ∷ []) = onto (plain_of a) (unescaped (b ∷ []))
unescaped (a ∷ b ∷ c ∷ rest) =
    if a == 37 then onto (byte_of (hex_value b) (hex_value c)) (unescaped rest) else onto (plain_of a) (unescaped (b ∷ c ∷ rest))

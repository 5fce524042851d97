-- A stream of bytes whose content may be told.
use Rattle.std.specs.Prelude.{◌≡◌, List, ℕ, [], ◌++◌, Option, Some, None, ⊤}

-- where the bytes are told, they begin with these and lose them
abbrev pub Loses : Option (List ℕ) → Option (List ℕ) → List ℕ → Type 0
Loses None None bytes = ⊤
Loses None (Some new) bytes = ⊥
Loses (Some old) None bytes = ⊥
Loses (Some old) (Some new) bytes = old ≡ bytes ++ new

-- where the bytes are told, these were added at their end
abbrev pub Gains : Option (List ℕ) → Option (List ℕ) → List ℕ → Type 0
Gains None None bytes = ⊤
Gains None (Some new) bytes = ⊥
Gains (Some old) None bytes = ⊥
Gains (Some old) (Some new) bytes = new ≡ old ++ bytes

-- where the bytes are told, there are none
abbrev pub IsEmptyIfTold : Option (List ℕ) → Type 0
IsEmptyIfTold None = ⊤
IsEmptyIfTold (Some bytes) = bytes ≡ []

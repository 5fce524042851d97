-- The lines of a text.
use Rattle.std.specs.Prelude.{◌≡◌, List, ℕ, [], ◌∷◌, ◌==◌, ◌&&◌, nat_le, length, take, drop, bytes_eq, if◌then◌else◌, Option, Some, None}

-- a byte before the first line
abbrev pub onto_first : ℕ → List (List ℕ) → List (List ℕ)
onto_first b [] = []
onto_first b (line ∷ lines) = (b ∷ line) ∷ lines

-- the lines, each without its line feed; bytes that no line feed follows are no line
abbrev pub lines_of : List ℕ → List (List ℕ)
lines_of [] = []
lines_of (b ∷ text) = if b == 10 then [] ∷ lines_of text else onto_first b (lines_of text)

-- what follows a front in a text that begins with it
abbrev pub behind : List ℕ → List ℕ → Option (List ℕ)
behind front text = if nat_le (length front) (length text) && bytes_eq (take (length front) text) front then Some (drop (length front) text) else None

-- the first of the lines does not begin with a front
abbrev pub HasNone : List ℕ → List (List ℕ) → Type 0
HasNone front [] = Unit {0}
HasNone front (line ∷ lines) = behind front line ≡ None

-- the first of the lines begins with a front, and this follows it in its line, and those behind it
pub record BeginsWith (front : List ℕ) (lines : List (List ℕ)) (told : List ℕ) (rest : List (List ℕ)) : Type 0 where
  pub line : List ℕ
  pub first : lines ≡ line ∷ rest
  pub front_of_it : behind front line ≡ Some told

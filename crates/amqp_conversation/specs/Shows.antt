-- The lines of headers and frames in a stream of bytes.
use Rattle.std.specs.Prelude.{◌≡◌, ◌+◌, List, ℕ, [], ◌∷◌, ◌++◌, decimal, drop, length, Option, Some, None, IfSome}
use Rattle.amqp_conversation.specs.declared.decode.BadBytes.{BadBytes}
use Rattle.amqp_conversation.specs.Said.{Says, IsBad}
use Rattle.amqp_conversation.specs.Why.{IsWhy}

-- `OFFSET SIZE TEXT` and a line feed, in bytes
abbrev pub line_text : ℕ → ℕ → List ℕ → List ℕ
line_text offset size said = decimal offset ++ 32 ∷ decimal size ++ 32 ∷ said ++ 10 ∷ []

-- from an offset on, the bytes are pieces with these lines, up to an end and the bytes from there on
pub data Shows : ℕ → List ℕ → List ℕ → ℕ → List ℕ → Type 0 where
  none_more : (offset : ℕ) (bytes : List ℕ) → Shows offset bytes [] offset bytes
  one_more : (offset size end : ℕ) (bytes said text rest : List ℕ) → Says bytes size said → Shows (offset + size) (drop size bytes) text end rest → Shows offset bytes (line_text offset size said ++ text) end rest

-- the pieces up to the first bytes that begin with none
pub record StopsAt (bytes text : List ℕ) (bad : BadBytes) : Type 0 where
  pub rest : List ℕ
  pub shows : Shows 0 bytes text bad.offset rest
  pub is_bad : IsBad rest bad.reason
  pub why : IfSome bad.fault (IsWhy rest)

-- the lines of all bytes, or of those before the first that begin with no piece
abbrev pub IsDecoded : List ℕ → List ℕ → Option BadBytes → Type 0
IsDecoded bytes text None = Shows 0 bytes text (length bytes) []
IsDecoded bytes text (Some bad) = StopsAt bytes text bad

-- What bytes begin with: a protocol header or a frame (OASIS AMQP 1.0, part 2, sections 2.2 and 2.3; part 5, section 5.3.1).
use Rattle.std.specs.Prelude.{◌≡◌, ◌≢◌, ℕ, ◌<◌, ◌≤◌, ◌⊎◌, List, length, slice_index, Result, Ok, Err}
use Rattle.amqp_wire.specs.Size.{start_of, size_of}
use Rattle.amqp_wire.specs.Frame.{IsRefusedSize, IsRefusedOffset, IsCutOff, IsWhole, HasBody}
use Rattle.amqp_pieces.specs.declared.FrameKind.{FrameKind}
use Rattle.amqp_pieces.specs.declared.FrameKind.TheVariants.{Amqp, Sasl}
use Rattle.amqp_pieces.specs.declared.Piece.{Piece}
use Rattle.amqp_pieces.specs.declared.Piece.TheVariants.{Header, Frame}
use Rattle.amqp_pieces.specs.declared.Fault.{Fault}
use Rattle.amqp_pieces.specs.declared.Fault.TheVariants as fault

-- the letters AMQP (section 2.2)
pub record HasLetters (bytes : List ℕ) : Type 0 where
  pub there : 4 ≤ length bytes
  pub first : slice_index bytes 0 ≡ 65
  pub second : slice_index bytes 1 ≡ 77
  pub third : slice_index bytes 2 ≡ 81
  pub fourth : slice_index bytes 3 ≡ 80

-- the type of a frame (part 2, section 2.3.1; part 5, section 5.3.1)
abbrev pub type_of : FrameKind → ℕ
type_of Amqp = 0
type_of Sasl = 1

-- The header is the four letters and four bytes; a frame has at most 16,777,216 bytes, so that no size is spelled as the letters are.
abbrev pub Begins : List ℕ → Piece → Type 0
Begins bytes (Header protocol major minor revision) =
    HasLetters bytes × (8 ≤ length bytes) × (protocol ≡ slice_index bytes 4) × (major ≡ slice_index bytes 5) × (minor ≡ slice_index bytes 6) × (revision ≡ slice_index bytes 7)
Begins bytes (Frame kind channel start size) = (HasLetters bytes → ⊥) × HasBody (type_of kind) 16777216 bytes size start channel

-- a whole frame of another type
pub record IsOfOtherType (bytes : List ℕ) : Type 0 where
  pub whole : IsWhole 16777216 bytes
  pub amqp : slice_index bytes 5 ≢ 0
  pub sasl : slice_index bytes 5 ≢ 1

-- why bytes begin with neither
abbrev pub BeginsNone : List ℕ → Fault → Type 0
BeginsNone bytes fault.CutShort = (HasLetters bytes × (length bytes < 8)) ⊎ (HasLetters bytes → ⊥) × ((length bytes < 4) ⊎ IsCutOff 16777216 bytes)
BeginsNone bytes fault.Size = (HasLetters bytes → ⊥) × (IsRefusedSize 16777216 bytes ⊎ IsRefusedOffset 16777216 bytes)
BeginsNone bytes fault.Type = (HasLetters bytes → ⊥) × IsOfOtherType bytes

-- how many bytes it has
abbrev pub size_of_piece : Piece → ℕ
size_of_piece (Header protocol major minor revision) = 8
size_of_piece (Frame kind channel start size) = size

-- How a frame lies in the bytes (OASIS AMQP 1.0 part 2, section 2.3).
use Rattle.std.specs.Prelude.{◌≡◌, ◌≢◌, ℕ, ◌+◌, ◌<◌, ◌≤◌, ◌⊎◌, List, [], ◌∷◌, ◌++◌, length, slice_index}
use Rattle.std.specs.Int.{w16, w32, to_be_bytes}
use Rattle.amqp_wire.specs.Size.{size_of, start_of, channel_of}
use Rattle.amqp_wire.specs.declared.frame.Front.{Front}
use Rattle.amqp_wire.specs.declared.frame.Front.TheVariants.{Partial, Refused, Foreign, Whole}

-- the size is there, and is from 8 to the limit (section 2.3.1)
pub record HasSize (limit : ℕ) (bytes : List ℕ) : Type 0 where
  pub there : 4 ≤ length bytes
  pub least : 8 ≤ size_of bytes
  pub most : size_of bytes ≤ limit

-- a size below 8 or above the limit, which is refused as soon as it is there (section 2.3.1)
abbrev pub IsRefusedSize : ℕ → List ℕ → Type 0
IsRefusedSize limit bytes = (4 ≤ length bytes) × ((size_of bytes < 8) ⊎ (limit < size_of bytes))

-- a body that would begin in the first 8 bytes or behind the frame's end (section 2.3.1)
abbrev pub IsBadOffset : List ℕ → Type 0
IsBadOffset bytes = (start_of bytes < 8) ⊎ (size_of bytes < start_of bytes)

-- such a frame, which is refused as soon as the 8 bytes of its header are there (section 2.3.1)
pub record IsRefusedOffset (limit : ℕ) (bytes : List ℕ) : Type 0 where
  pub size : HasSize limit bytes
  pub there : 8 ≤ length bytes
  pub bad : IsBadOffset bytes

-- the front of a frame, of whose header nothing is refused
pub record IsCutOff (limit : ℕ) (bytes : List ℕ) : Type 0 where
  pub size : HasSize limit bytes
  pub less : length bytes < size_of bytes
  pub sound : 8 ≤ length bytes → IsBadOffset bytes → ⊥

-- a frame that is there whole
pub record IsWhole (limit : ℕ) (bytes : List ℕ) : Type 0 where
  pub size : HasSize limit bytes
  pub all : size_of bytes ≤ length bytes

-- a whole frame of this type, with where its body begins and its channel (section 2.3.1)
pub record HasBody (kind limit : ℕ) (bytes : List ℕ) (size start channel : ℕ) : Type 0 where
  pub whole : IsWhole limit bytes
  pub size_is : size ≡ size_of bytes
  pub start_is : start ≡ start_of bytes
  pub channel_is : channel ≡ channel_of bytes
  pub least : 8 ≤ start
  pub most : start ≤ size
  pub type : slice_index bytes 5 ≡ kind

-- what bytes begin with, under a limit of the size and for a type of frames
abbrev pub IsFront : ℕ → ℕ → List ℕ → Front → Type 0
IsFront kind limit bytes Partial = (length bytes < 4) ⊎ IsCutOff limit bytes
IsFront kind limit bytes Refused = IsRefusedSize limit bytes ⊎ IsRefusedOffset limit bytes
IsFront kind limit bytes Foreign = IsWhole limit bytes × (8 ≤ start_of bytes) × (start_of bytes ≤ size_of bytes) × (slice_index bytes 5 ≢ kind)
IsFront kind limit bytes (Whole size start channel) = HasBody kind limit bytes size start channel

-- the frame that is written: DOFF is 2, so that there is no extended header (section 2.3.2)
abbrev pub frame_of : ℕ → ℕ → List ℕ → List ℕ
frame_of kind channel body = to_be_bytes w32 (8 + length body) ++ (2 ∷ kind ∷ []) ++ to_be_bytes w16 channel ++ body

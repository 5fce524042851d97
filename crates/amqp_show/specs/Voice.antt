-- What an end says: its headers and frames, each where it ends.
use Rattle.std.specs.Prelude.{◌≡◌, List, ℕ, [], ◌∷◌, ◌++◌, length, drop, codes, decimal, if◌then◌else◌, Bool, true, false, Option, Some, None}
use Rattle.amqp_conversation.specs.declared.said.Reason.{Reason}
use Rattle.amqp_conversation.specs.declared.said.Reason.TheVariants as reason
use Rattle.amqp_conversation.specs.Said.{Says, IsBad}
use Rattle.amqp_show.specs.declared.voice.Side.{Side}
use Rattle.amqp_show.specs.declared.voice.Side.TheVariants.{Client, Listener}
use Rattle.amqp_show.specs.declared.voice.Voice.{Voice}
use Rattle.amqp_show.specs.declared.voice.Spoken.{Spoken}

-- the other end
abbrev pub other : Side → Side
other Client = Listener
other Listener = Client

-- the arrow before what an end says
abbrev pub arrow : Side → List ℕ
arrow Client = codes "-> "
arrow Listener = codes "<- "

-- a line of what an end says
abbrev pub spoken_text : Side → List ℕ → List ℕ
spoken_text side said = codes "    " ++ arrow side ++ said ++ 10 ∷ []

-- bytes that begin neither a header nor a frame may begin one with bytes more, or never
abbrev pub is_final : Reason → Bool
is_final reason.CutShort = false
is_final reason.Size = true
is_final reason.Type = true
is_final reason.Body = true

-- a line tells why they never will
abbrev pub stop_text : Side → Reason → List ℕ
stop_text side reason.CutShort = []
stop_text side reason.Size = spoken_text side (codes "bad bytes: sizes that do not agree")
stop_text side reason.Type = spoken_text side (codes "bad bytes: another type of frame")
stop_text side reason.Body = spoken_text side (codes "bad bytes: no body of a frame")

-- the bytes that are left, where bytes more may make them a header or a frame
abbrev pub left_by : Bool → List ℕ → Option (List ℕ)
left_by over bytes = if over then None else Some bytes

-- a line for each header and frame that the bytes begin with, and what is left
pub data Speaks : Side → List ℕ → List ℕ → Option (List ℕ) → Type 0 where
  says : (side : Side) (bytes said text : List ℕ) (left : Option (List ℕ)) (size : ℕ)
      → Says bytes size said
      → Speaks side (drop size bytes) text left
      → Speaks side bytes (spoken_text side said ++ text) left
  stops : (side : Side) (bytes : List ℕ) (r : Reason) → IsBad bytes r → Speaks side bytes (stop_text side r) (left_by (is_final r) bytes)

-- an end with bytes left from before, or of which no more is shown, writes bytes
abbrev pub Writes : Side → Option (List ℕ) → List ℕ → List ℕ → Option (List ℕ) → Type 0
Writes side None bytes text left = (text ≡ []) × (left ≡ None)
Writes side (Some before) bytes text left = Speaks side (before ++ bytes) text left

-- what an end has not said at the end
abbrev pub cut_text : Side → Option (List ℕ) → List ℕ
cut_text side None = []
cut_text side (Some []) = []
cut_text side (Some (b ∷ bytes)) = arrow side ++ codes "cut short " ++ decimal (length (b ∷ bytes)) ++ codes " bytes" ++ 10 ∷ []

-- what an end wrote and has not said; none where no more is shown of it
abbrev pub unsaid : Voice → Option (List ℕ)
unsaid voice = left_by voice.is_over voice.waiting.items

-- the same behind what was said of bytes
abbrev pub left_of : Spoken → List ℕ → Option (List ℕ)
left_of spoken bytes = left_by spoken.is_over (drop spoken.end bytes)

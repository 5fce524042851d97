-- Frames by what they are, and how many there are (OASIS AMQP 1.0, part 2, section 2.7).
use Rattle.std.specs.Prelude.{◌≡◌, ℕ, ◌+◌, max, Bool, true, false, List, [], ◌∷◌, length}
use Rattle.amqp_frames.specs.declared.body.FrameBody.{FrameBody}
use Rattle.amqp_frames.specs.declared.body.FrameBody.TheVariants as b
use Rattle.amqp_parts.specs.declared.part.Part.{Part}

-- a frame is no Flow that asks for an answer (section 2.7.4)
abbrev pub AsksNone : FrameBody → Type 0
AsksNone (b.Flow x) = x.echo ≡ false
AsksNone other = Unit {0}

-- a frame is no Transfer
abbrev pub MovesNone : FrameBody → Type 0
MovesNone (b.Transfer x payload) = ⊥
MovesNone other = Unit {0}

abbrev pub AskNone : List FrameBody → Type 0
AskNone [] = Unit {0}
AskNone (x ∷ xs) = AsksNone x × AskNone xs

-- each of them is as P says
abbrev pub Each : (FrameBody → Type 0) → List FrameBody → Type 0
Each P [] = Unit {0}
Each P (x ∷ xs) = P x × Each P xs

-- ---- how many

abbrev pub count : (FrameBody → ℕ) → List FrameBody → ℕ
count f [] = 0
count f (x ∷ xs) = f x + count f xs

abbrev pub one_if : Bool → ℕ
one_if true = 1
one_if false = 0

-- Transfers, and all other frames
abbrev pub transfer_in : FrameBody → ℕ
transfer_in (b.Transfer x payload) = 1
transfer_in other = 0

abbrev pub other_in : FrameBody → ℕ
other_in (b.Transfer x payload) = 0
other_in other = 1

-- Flows that ask for an answer
abbrev pub echo_in : FrameBody → ℕ
echo_in (b.Flow x) = one_if x.echo
echo_in other = 0

-- Into how many frames a message is cut at most, whatever the limit of frames (section 2.6.14): each has a byte of it
-- at least, but for the one frame of a message that has none.
abbrev pub pieces : List ℕ → ℕ
pieces payload = max (length payload) 1

-- all that wait
abbrev pub all_pieces : List Part → ℕ
all_pieces [] = 0
all_pieces (x ∷ xs) = pieces x.payload + all_pieces xs

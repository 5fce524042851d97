-- What stands behind a performative, as a text.
use Rattle.std.specs.Prelude.{◌≡◌, ℕ, List, [], ◌∷◌, ◌++◌, Bool, true, ◌&&◌, not, ◌==◌, IsTrue, is_some, length, codes, decimal, Option, Some, None}
use Rattle.amqp_performatives.specs.declared.transfer.Transfer.{Transfer}
use Rattle.amqp_frames.specs.declared.body.FrameBody.{FrameBody}
use Rattle.amqp_frames.specs.declared.body.FrameBody.TheVariants as b
use Rattle.amqp_messages.specs.declared.message.Message.{Message}
use Rattle.amqp_messages.specs.Message.{Said}
use Rattle.amqp_messages.specs.Reading.{SpellsMessage}
use Rattle.amqp_lines.specs.Bodies.{body_text}
use Rattle.amqp_lines.specs.Messages.{message_text}

-- the format of the standard's messages: 0, also where none is told (part 2, section 2.8.11; part 3, section 3.2.16)
abbrev pub is_standard : Option ℕ → Bool
is_standard None = true
is_standard (Some format) = format == 0

-- A Transfer that has a message by itself: it tells the tag of its delivery, which only a later part may leave out; no
-- more follows; and the delivery is neither resumed nor given up (part 2, section 2.7.5).
abbrev pub is_whole : Transfer → Bool
is_whole x =
    is_some x.delivery_tag && not x.more && not x.resume && not x.aborted && is_standard x.message_format

-- ` payload=N bytes`
abbrev pub size_text : List ℕ → List ℕ
size_text payload = codes " payload=" ++ decimal (length payload) ++ codes " bytes"

-- Of a payload its text is told: nothing of an empty one, the sections of a whole message, of any other how long it is.
pub data PayloadSays : Transfer → List ℕ → List ℕ → Type 0 where
  empty' : (x : Transfer) → PayloadSays x [] []
  message' : (x : Transfer) (payload : List ℕ) (m : Message Said) → IsTrue (is_whole x) → SpellsMessage payload m
      → PayloadSays x payload (message_text m)
  size' : (x : Transfer) (byte : ℕ) (bytes : List ℕ)
      → (IsTrue (is_whole x) → (m : Message Said) → SpellsMessage (byte ∷ bytes) m → ⊥)
      → PayloadSays x (byte ∷ bytes) (size_text (byte ∷ bytes))

-- behind any performative but a Transfer there is none
abbrev pub TellsPayload : FrameBody → List ℕ → Type 0
TellsPayload (b.Transfer x payload) text = PayloadSays x payload text
TellsPayload body text = text ≡ []

-- a text of this kind was added
pub record AddsSome (IsText : List ℕ → Type 0) (old new : List ℕ) : Type 0 where
  pub text : List ℕ
  pub is_text : IsText text
  pub added : new ≡ old ++ text

-- a text of a frame of AMQP: its performative, and its payload
pub record IsBodyText (body : FrameBody) (text : List ℕ) : Type 0 where
  pub told : List ℕ
  pub tells : TellsPayload body told
  pub said : text ≡ body_text body ++ told

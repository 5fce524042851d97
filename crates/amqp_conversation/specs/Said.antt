-- What the headers and frames at the front of bytes say.
use Rattle.std.specs.Prelude.{◌≡◌, ◌-◌, List, ℕ, ◌∷◌, ◌++◌, ◌==◌, if◌then◌else◌, codes, decimal, drop, take}
use Rattle.amqp_pieces.specs.declared.FrameKind.TheVariants.{Amqp, Sasl}
use Rattle.amqp_pieces.specs.declared.Piece.TheVariants.{Header, Frame}
use Rattle.amqp_pieces.specs.declared.Fault.TheVariants as fault
use Rattle.amqp_pieces.specs.Pieces.{Begins, BeginsNone}
use Rattle.amqp_frames.specs.declared.body.FrameBody.{FrameBody}
use Rattle.amqp_frames.specs.Body.{SpellsBody}
use Rattle.amqp_sasl_bodies.specs.declared.sasl_body.SaslBody.{SaslBody}
use Rattle.amqp_sasl_bodies.specs.SaslBytes.{SpellsSasl}
use Rattle.amqp_lines.specs.Bodies.{sasl_text}
use Rattle.amqp_lines.specs.Payload.{IsBodyText}
use Rattle.amqp_conversation.specs.declared.said.Reason.{Reason}
use Rattle.amqp_conversation.specs.declared.said.Reason.TheVariants as reason

-- the protocols that have a name (part 2, section 2.2; part 5, sections 5.2 and 5.3), the others by their number
abbrev pub protocol_text : ℕ → List ℕ
protocol_text p = if p == 0 then codes "AMQP" else if p == 2 then codes "TLS" else if p == 3 then codes "SASL" else decimal p

-- a protocol header: the protocol and its version
abbrev pub header_text : ℕ → ℕ → ℕ → ℕ → List ℕ
header_text p major minor revision = codes "header " ++ protocol_text p ++ 32 ∷ decimal major ++ 46 ∷ decimal minor ++ 46 ∷ decimal revision

-- `[CHANNEL] `
abbrev pub channel_text : ℕ → List ℕ
channel_text channel = 91 ∷ decimal channel ++ codes "] "

-- the text is that of a frame of AMQP: its channel, and what its body says
pub record IsFrameText (channel : ℕ) (body : FrameBody) (text : List ℕ) : Type 0 where
  pub said : List ℕ
  pub is_said : IsBodyText body said
  pub framed : text ≡ channel_text channel ++ said

-- the bytes begin with a header or a frame of so many bytes, and this is what it says
pub data Says : List ℕ → ℕ → List ℕ → Type 0 where
  header' : (bytes : List ℕ) (p major minor revision : ℕ) → Begins bytes (Header p major minor revision) → Says bytes 8 (header_text p major minor revision)
  amqp' : (bytes text : List ℕ) (channel start size : ℕ) (body : FrameBody)
      → Begins bytes (Frame Amqp channel start size) → SpellsBody (take (size - start) (drop start bytes)) body
      → IsFrameText channel body text → Says bytes size text
  sasl' : (bytes : List ℕ) (channel start size : ℕ) (body : SaslBody) → Begins bytes (Frame Sasl channel start size) → SpellsSasl (take (size - start) (drop start bytes)) body → Says bytes size (sasl_text body)

-- the bytes begin with a frame whose body is none
pub data HasBadBody : List ℕ → Type 0 where
  no_body : (bytes : List ℕ) (channel start size : ℕ) → Begins bytes (Frame Amqp channel start size) → ((body : FrameBody) → SpellsBody (take (size - start) (drop start bytes)) body → ⊥) → HasBadBody bytes
  no_sasl_body : (bytes : List ℕ) (channel start size : ℕ) → Begins bytes (Frame Sasl channel start size) → ((body : SaslBody) → SpellsSasl (take (size - start) (drop start bytes)) body → ⊥) → HasBadBody bytes

-- why the bytes begin with neither a header nor a frame
abbrev pub IsBad : List ℕ → Reason → Type 0
IsBad bytes reason.CutShort = BeginsNone bytes fault.CutShort
IsBad bytes reason.Size = BeginsNone bytes fault.Size
IsBad bytes reason.Type = BeginsNone bytes fault.Type
IsBad bytes reason.Body = HasBadBody bytes

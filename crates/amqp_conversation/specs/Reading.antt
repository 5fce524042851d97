-- What the readers of bodies answer, as texts.
use Rattle.std.specs.Prelude.{◌≡◌, List, ℕ, Result, Ok, Err}
use Rattle.amqp_fields.specs.declared.error.BaseError.{BaseError}
use Rattle.amqp_fields.specs.declared.error.BaseError.TheVariants as errors
use Rattle.amqp_pieces.specs.declared.Fault.{Fault}
use Rattle.amqp_pieces.specs.declared.Fault.TheVariants as fault
use Rattle.amqp_frames.specs.declared.body.FrameBody.{FrameBody}
use Rattle.amqp_frames.specs.Body.{SpellsBody}
use Rattle.amqp_sasl_bodies.specs.declared.sasl_body.SaslBody.{SaslBody}
use Rattle.amqp_sasl_bodies.specs.SaslBytes.{SpellsSasl}
use Rattle.amqp_lines.specs.Bodies.{sasl_text}
use Rattle.amqp_conversation.specs.declared.said.Reason.{Reason}
use Rattle.amqp_conversation.specs.declared.said.Reason.TheVariants as reason
use Rattle.amqp_conversation.specs.declared.said.SaidError.{SaidError}
use Rattle.amqp_conversation.specs.declared.said.SaidError.TheVariants.{Memory, Bad}
use Rattle.amqp_conversation.specs.Said.{IsFrameText}

-- the bytes are a body of AMQP, and this is what its frame says
pub record SaysAmqp (channel : ℕ) (bytes text : List ℕ) : Type 0 where
  pub body : FrameBody
  pub spells : SpellsBody bytes body
  pub said : IsFrameText channel body text

-- the bytes are a SASL body, and this is what it says
pub record SaysSasl (bytes text : List ℕ) : Type 0 where
  pub body : SaslBody
  pub spells : SpellsSasl bytes body
  pub said : text ≡ sasl_text body

abbrev pub SpellsNoBody : List ℕ → Type 0
SpellsNoBody bytes = (body : FrameBody) → SpellsBody bytes body → ⊥

abbrev pub SpellsNoSasl : List ℕ → Type 0
SpellsNoSasl bytes = (body : SaslBody) → SpellsSasl bytes body → ⊥

-- a text, or none since the body is none, unless memory ran out
abbrev pub GivesText : {X : Type 0} → (X → List ℕ) → Result X SaidError → (List ℕ → Type 0) → Type 0 → Type 0
GivesText view (Ok x) IsText IsNone = IsText (view x)
GivesText view (Err (Memory a)) IsText IsNone = Unit {0}
GivesText view (Err (Bad reason.Body)) IsText IsNone = IsNone
GivesText view (Err (Bad reason.CutShort)) IsText IsNone = ⊥
GivesText view (Err (Bad reason.Size)) IsText IsNone = ⊥
GivesText view (Err (Bad reason.Type)) IsText IsNone = ⊥

abbrev pub refusal_of : BaseError → SaidError
refusal_of (errors.Memory a) = Memory a
refusal_of errors.Decode = Bad reason.Body
refusal_of errors.Size = Bad reason.Body

abbrev pub reason_for : Fault → Reason
reason_for fault.CutShort = reason.CutShort
reason_for fault.Size = reason.Size
reason_for fault.Type = reason.Type

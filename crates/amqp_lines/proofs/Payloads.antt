-- What is told of a payload.
use Rattle.std.proofs.Common.{◌≡◌, ◌<◌, ℕ, List, [], ◌∷◌, ◌++◌, length, IsTrue, refl, sym, ap, ◌∙◌, append_assoc, append-nil, arith}
use Rattle.amqp_performatives.specs.declared.transfer.Transfer.{Transfer}
use Rattle.amqp_frames.specs.declared.body.FrameBody.{FrameBody}
use Rattle.amqp_messages.specs.declared.message.Message.{Message}
use Rattle.amqp_messages.specs.Message.{Said}
use Rattle.amqp_messages.specs.Reading.{SpellsMessage}
use Rattle.amqp_lines.specs.Bodies.{body_text}
use Rattle.amqp_lines.specs.Messages.{message_text}
use Rattle.amqp_lines.specs.Payload.{is_whole, size_text, PayloadSays, empty', message', size', TellsPayload, AddsSome, IsBodyText}

-- nothing was added
pub adds_nothing : (IsText : List ℕ → Type 0) (old : List ℕ) → IsText [] → AddsSome IsText old old
adds_nothing IsText old h = record { text = []; is_text = h; added = sym (append-nil old) }

pub adds_empty : (x : Transfer) (payload old : List ℕ) → length payload ≡ 0 → AddsSome (PayloadSays x payload) old old
adds_empty x [] old h = adds_nothing (PayloadSays x []) old (empty' x)
adds_empty x (b ∷ bytes) old h = absurd (omega arith)

pub adds_message : (x : Transfer) (payload old new : List ℕ) (m : Message Said) → IsTrue (is_whole x) → SpellsMessage payload m → new ≡ old ++ message_text m → AddsSome (PayloadSays x payload) old new
adds_message x payload old new m whole spells added = record { text = message_text m; is_text = message' x payload m whole spells; added = added }

pub adds_size : (x : Transfer) (payload old new : List ℕ) → 0 < length payload → (IsTrue (is_whole x) → (m : Message Said) → SpellsMessage payload m → ⊥) → new ≡ old ++ size_text payload → AddsSome (PayloadSays x payload) old new
adds_size x [] old new some none added = absurd (omega arith)
adds_size x (b ∷ bytes) old new some none added = record { text = size_text (b ∷ bytes); is_text = size' x b bytes none; added = added }

-- a performative, and what stands behind it
pub adds_body : (body : FrameBody) (old between new : List ℕ) → between ≡ old ++ body_text body → AddsSome (TellsPayload body) between new → AddsSome (IsBodyText body) old new
adds_body body old between new added behind = record {
  text = body_text body ++ behind.text;
  is_text = record { told = behind.text; tells = behind.is_text; said = refl };
  added = behind.added ∙ ap (λ (z : List ℕ). z ++ behind.text) added ∙ append_assoc old (body_text body) behind.text;
}

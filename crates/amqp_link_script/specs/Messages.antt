-- The message that a line says, and how it is sent (OASIS AMQP 1.0, part 3, section 3.2).
use Rattle.std.specs.Prelude.{◌≡◌, List, ℕ, Bool, true, false, if◌then◌else◌, Option, Some, None, Result, Ok, Err, option_map, codes, bytes_eq, ⊤}
use Rattle.std.specs.Result.{result_ok}
use Rattle.hex.specs.Hex.{decode_of}
use Rattle.amqp_data.specs.Data.{scalar, string}
use Rattle.amqp_value.specs.Canonical.{canonical_items}
use Rattle.amqp_messages.specs.declared.message.Message.{Message}
use Rattle.amqp_messages.specs.declared.message.Body.{Body}
use Rattle.amqp_messages.specs.Message.{Said, one_value, all_data, all_sequences, nothing, only_body, seen}
use Rattle.amqp_messages.specs.Reading.{SpellsMessage}
use Rattle.amqp_messages.specs.Writing.{message_items, AllFit}
use Rattle.amqp_link_words.specs.declared.link_call.Sendable.{Sendable}
use Rattle.amqp_link_words.specs.declared.link_call.LinkCall.{LinkCall}
use Rattle.amqp_link_words.specs.declared.link_call.LinkCall.TheVariants.{Send, SendTimed}
use Rattle.amqp_script.specs.declared.script.line_error.LineError.{LineError}
use Rattle.amqp_script.specs.declared.script.line_error.LineError.TheVariants.{Memory, Outside}
use Rattle.amqp_script.specs.Words.{split_once}
use Rattle.amqp_script.specs.Fields.{text_in}
use Rattle.amqp_link_script.specs.declared.messages.Written.{Written}
use Rattle.amqp_link_script.specs.declared.messages.Written.TheVariants.{Text, Spelled}
use Rattle.amqp_link_script.specs.declared.messages.Encoded.{Encoded}

-- what was read: it is so; or nothing is so, and it is outside the grammar
abbrev pub Made : {A : Type 0} → (A → Type 0) → Result A LineError → Type 0
Made Is (Ok x) = Is x
Made Is (Err Outside) = (x : _) → Is x → ⊥
Made Is (Err (Memory e)) = ⊤

-- the bytes of hexadecimal digits, in either case
abbrev pub hex_in : List ℕ → Option (List ℕ)
hex_in digits = result_ok (decode_of digits)

abbrev pub form_of : List ℕ → List ℕ → Option Written
form_of kind said =
    if bytes_eq kind (codes "text") then option_map Text (text_in said) else
    if bytes_eq kind (codes "hex") then option_map Spelled (hex_in said) else None

abbrev pub form_at : Option (List ℕ × List ℕ) → Option Written
form_at None = None
form_at (Some parts) = form_of parts.0 parts.1

-- a message as it is written: `text:` and a text, or `hex:` and hexadecimal digits
abbrev pub form_in : List ℕ → Option Written
form_in word = form_at (split_once 58 word)

-- the message that is written: one string, or what the bytes spell
abbrev pub IsMessage : Written → Message Said → Type 0
IsMessage (Text t) m = only_body (one_value (scalar (string t))) ≡ m
IsMessage (Spelled bytes) m = SpellsMessage bytes m

-- what was returned is the one message that is written; or none is
abbrev pub IsTheMessageOf : Written → Result (Message Body) LineError → Type 0
IsTheMessageOf form (Ok m) = IsMessage form (seen m) × ((x : Message Said) → IsMessage form x → seen m ≡ x)
IsTheMessageOf form (Err Outside) = (x : Message Said) → IsMessage form x → ⊥
IsTheMessageOf form (Err (Memory e)) = ⊤

-- a message has a body section
abbrev pub has_body : Said → Bool
has_body nothing = false
has_body (one_value v) = true
has_body (all_data first rest) = true
has_body (all_sequences first rest) = true

-- the canonical bytes were returned; or they are none, as a length in them needs more than 32 bits or a value is nested too deep
abbrev pub IsCanonical : Message Said → Result Encoded LineError → Type 0
IsCanonical m (Ok x) = (x.bytes ≡ canonical_items (message_items m)) × (x.has_body ≡ has_body m.body) × AllFit (message_items m)
IsCanonical m (Err Outside) = AllFit (message_items m) → ⊥
IsCanonical m (Err (Memory e)) = ⊤

-- the canonical bytes of the message that is written
pub record IsEncoded (form : Written) (x : Encoded) : Type 0 where
  pub message : Message Said
  pub means : IsMessage form message
  pub fits : AllFit (message_items message)
  pub bytes : x.bytes ≡ canonical_items (message_items message)
  pub body : x.has_body ≡ has_body message.body

-- what is sent of a message as it is written: its canonical bytes
pub record IsSent (written sent : Sendable) : Type 0 where
  pub form : Written
  pub said : form_in written.payload ≡ Some form
  pub encoded : IsEncoded form (record { bytes = sent.payload; has_body = sent.has_body })
  pub settled : sent.settled ≡ written.settled
  pub batchable : sent.batchable ≡ written.batchable

-- the call of a call in which a message stands as it is written
abbrev pub IsCall : LinkCall → LinkCall → Type 0
IsCall (Send sender written) call = (sent : Sendable) × ((call ≡ Send sender sent) × IsSent written sent)
IsCall (SendTimed sender written timeout) call =
    (sent : Sendable) × ((call ≡ SendTimed sender sent timeout) × IsSent written sent)
IsCall written call = written ≡ call

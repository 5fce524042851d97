-- Where bytes are no message, and why (OASIS AMQP 1.0, part 3, section 3.2).
use Rattle.std.specs.Prelude.{◌≡◌, ℕ, ◌+◌, ◌<◌, ◌≤◌, List, ◌++◌, length, Option, Some, None}
use Rattle.amqp_data.specs.Data.{Amqp, described, pushed}
use Rattle.amqp_described.specs.Reading.{Begins}
use Rattle.amqp_messages.specs.declared.message.Message.{Message}
use Rattle.amqp_messages.specs.Message.{Said}
use Rattle.amqp_messages.specs.Reading.{message_in, SpellsMessage}
use Rattle.amqp_faults.specs.declared.fault.Fault.{Fault}
use Rattle.amqp_faults.specs.declared.fault.Reason.{Reason}
use Rattle.amqp_faults.specs.declared.fault.Reason.TheVariants as reason
use Rattle.amqp_faults.specs.Faults.{Wrong}

abbrev pub NoMessage : List ℕ → Type 0
NoMessage bytes = (m : Message Said) → SpellsMessage bytes m → ⊥

-- the section, where it is one, with that in it
abbrev pub holding : Amqp → Amqp → Amqp
holding (described d v) content = described d content
holding v content = v

-- What is wrong with the bytes. Those at the front spell a message, as any sections do from the first one on. Behind them no value
-- begins; or one begins that makes no message with those, whatever it held; or only with what it holds it makes none.
pub data WrongMessage : List ℕ → ℕ → Reason → Type 0 where
  no_value : (front rest : List ℕ) (m : Message Said) (o : ℕ) (r : Reason) → SpellsMessage front m → 0 < length rest → Wrong 33 rest o r → WrongMessage (front ++ rest) (length front + o) r
  no_section : (front rest : List ℕ) (m : Message Said) (v : Amqp) (used : ℕ) (s : SpellsMessage front m) → Begins 33 rest v used
      → ((content : Amqp) → message_in (pushed s.values (holding v content)) ≡ None) → WrongMessage (front ++ rest) (length front) reason.NoSection
  wrong_content : (front rest : List ℕ) (m n : Message Said) (v content : Amqp) (used : ℕ) (s : SpellsMessage front m) → Begins 33 rest v used
      → message_in (pushed s.values v) ≡ None → message_in (pushed s.values (holding v content)) ≡ Some n → WrongMessage (front ++ rest) (length front) reason.Field

-- they spell none, and this is where and why
pub record IsMessageFault (bytes : List ℕ) (fault : Fault) : Type 0 where
  pub wrong : WrongMessage bytes fault.offset fault.reason
  pub within : fault.offset ≤ length bytes
  pub none : NoMessage bytes

pub record HasMessage (bytes : List ℕ) : Type 0 where
  pub message : Message Said
  pub spells : SpellsMessage bytes message

-- none where the bytes spell a message, else where and why they spell none
abbrev pub NamesMessage : Option Fault → List ℕ → Type 0
NamesMessage None bytes = HasMessage bytes
NamesMessage (Some fault) bytes = IsMessageFault bytes fault

-- What is seen at the front of bytes, behind a section of a kind.
use Rattle.std.specs.Prelude.{◌≡◌, ℕ, ◌≤◌, List, length, Option, Some}
use Rattle.amqp_data.specs.Data.{Amqp}
use Rattle.amqp_described.specs.Reading.{Begins}
use Rattle.amqp_messages.specs.declared.kind.SectionKind.{SectionKind}
use Rattle.amqp_faults.specs.declared.fault.Reason.{Reason}
use Rattle.amqp_faults.specs.Faults.{Wrong}
use Rattle.amqp_message_faults.specs.declared.section.Found.{Found}
use Rattle.amqp_message_faults.specs.declared.section.Found.TheVariants as f
use Rattle.amqp_message_faults.specs.Order.{step, WrongSection}

-- a section stands there
pub record HasSection (last : Option SectionKind) (bytes : List ℕ) (kind : SectionKind) (used : ℕ) : Type 0 where
  pub value : Amqp
  pub begins : Begins 33 bytes value used
  pub stands : step last value ≡ Some kind

-- none does, at so many bytes and for that reason
pub data WrongFront : Option SectionKind → List ℕ → ℕ → Reason → Type 0 where
  none_begins : (last : Option SectionKind) (bytes : List ℕ) (o : ℕ) (r : Reason) → Wrong 33 bytes o r → WrongFront last bytes o r
  one_begins : (last : Option SectionKind) (bytes : List ℕ) (v : Amqp) (used : ℕ) (r : Reason) → Begins 33 bytes v used → WrongSection last v r → WrongFront last bytes 0 r

abbrev pub SeesFront : Found → Option SectionKind → List ℕ → Type 0
SeesFront (f.Section kind used) last bytes = HasSection last bytes kind used
SeesFront (f.Wrong fault) last bytes = WrongFront last bytes fault.offset fault.reason × (fault.offset ≤ length bytes)

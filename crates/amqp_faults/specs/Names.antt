-- What is said of a value that is to begin bytes.
use Rattle.std.specs.Prelude.{ℕ, ◌≤◌, List, length, Option, Some, None}
use Rattle.amqp_data.specs.Data.{Amqp}
use Rattle.amqp_described.specs.Reading.{Begins}
use Rattle.amqp_faults.specs.declared.fault.Fault.{Fault}
use Rattle.amqp_faults.specs.Faults.{Wrong}

-- a value nested within so many levels begins the bytes
pub record HasFront (levels : ℕ) (bytes : List ℕ) : Type 0 where
  pub value : Amqp
  pub used : ℕ
  pub begins : Begins levels bytes value used

-- none does, and this is where and why
pub record IsFault (levels : ℕ) (bytes : List ℕ) (fault : Fault) : Type 0 where
  pub wrong : Wrong levels bytes fault.offset fault.reason
  pub within : fault.offset ≤ length bytes
  pub none : HasFront levels bytes → ⊥

-- none where a value begins the bytes, else where and why none does
abbrev pub NamesFault : Option Fault → ℕ → List ℕ → Type 0
NamesFault None levels bytes = HasFront levels bytes
NamesFault (Some fault) levels bytes = IsFault levels bytes fault

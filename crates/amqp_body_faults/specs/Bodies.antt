-- Where bytes are no body of a frame of AMQP, and why (OASIS AMQP 1.0, part 2, sections 2.3.2 and 2.7).
use Rattle.std.specs.Prelude.{◌≡◌, ℕ, ◌≤◌, List, drop, length, Option, Some, None, Bool, true, false}
use Rattle.amqp_data.specs.Data.{Amqp}
use Rattle.amqp_composites.specs.declared.kind.CompositeKind.{CompositeKind}
use Rattle.amqp_composites.specs.declared.kind.CompositeKind.TheVariants as kind
use Rattle.amqp_described.specs.Reading.{Begins}
use Rattle.amqp_performatives.specs.declared.performative.Performative.{Performative}
use Rattle.amqp_performatives.specs.Performative.{performative_in}
use Rattle.amqp_frames.specs.declared.body.FrameBody.{FrameBody}
use Rattle.amqp_frames.specs.Body.{framed, SpellsBody}
use Rattle.amqp_faults.specs.declared.fault.Fault.{Fault}
use Rattle.amqp_faults.specs.declared.fault.Reason.{Reason}
use Rattle.amqp_faults.specs.declared.fault.Reason.TheVariants as reason
use Rattle.amqp_faults.specs.Faults.{Wrong}
use Rattle.amqp_body_faults.specs.Seen.{HasList, HasNoList}

-- the lists that are performatives
abbrev pub is_performative : CompositeKind → Bool
is_performative kind.Open = true
is_performative kind.Begin = true
is_performative kind.Attach = true
is_performative kind.Flow = true
is_performative kind.Transfer = true
is_performative kind.Disposition = true
is_performative kind.Detach = true
is_performative kind.End = true
is_performative kind.Close = true
is_performative k = false

abbrev pub NoBody : List ℕ → Type 0
NoBody bytes = (body : FrameBody) → SpellsBody bytes body → ⊥

-- no value at the front is a performative
abbrev pub NoPerformative : List ℕ → Type 0
NoPerformative bytes = (v : Amqp) (used : ℕ) → Begins 34 bytes v used → performative_in v ≡ None

-- What is wrong with the bytes of a body: no value begins them; the value that begins them is no performative, or its fields are not
-- those of the performative that its descriptor says; or bytes stand behind it where none may.
pub data WrongBody : List ℕ → ℕ → Reason → Type 0 where
  no_value : (bytes : List ℕ) (o : ℕ) (r : Reason) → Wrong 34 bytes o r → WrongBody bytes o r
  no_list : (bytes : List ℕ) → HasNoList bytes → WrongBody bytes 0 reason.NoBody
  another_list : (bytes : List ℕ) (k : CompositeKind) → HasList bytes k → is_performative k ≡ false → WrongBody bytes 0 reason.NoBody
  wrong_fields : (bytes : List ℕ) (k : CompositeKind) → HasList bytes k → is_performative k ≡ true → NoPerformative bytes → WrongBody bytes 0 reason.Field
  bytes_behind : (bytes : List ℕ) (v : Amqp) (used : ℕ) (said : Performative) → Begins 34 bytes v used → performative_in v ≡ Some said → framed said (drop used bytes) ≡ None → WrongBody bytes used reason.Behind

-- they spell none, and this is where and why
pub record IsBodyFault (bytes : List ℕ) (fault : Fault) : Type 0 where
  pub wrong : WrongBody bytes fault.offset fault.reason
  pub within : fault.offset ≤ length bytes
  pub none : NoBody bytes

pub record HasBody (bytes : List ℕ) : Type 0 where
  pub body : FrameBody
  pub spells : SpellsBody bytes body

-- none where the bytes spell a body, else where and why they spell none
abbrev pub NamesBody : Option Fault → List ℕ → Type 0
NamesBody None bytes = HasBody bytes
NamesBody (Some fault) bytes = IsBodyFault bytes fault

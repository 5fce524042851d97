-- Where bytes are no body of a SASL frame, and why (OASIS AMQP 1.0, part 5, sections 5.3.2 and 5.3.3).
use Rattle.std.specs.Prelude.{◌≡◌, ℕ, ◌<◌, ◌≤◌, List, length, Option, Some, None, Bool, true, false}
use Rattle.amqp_data.specs.Data.{Amqp}
use Rattle.amqp_composites.specs.declared.kind.CompositeKind.{CompositeKind}
use Rattle.amqp_composites.specs.declared.kind.CompositeKind.TheVariants as kind
use Rattle.amqp_described.specs.Reading.{Begins}
use Rattle.amqp_sasl_bodies.specs.declared.sasl_body.SaslBody.{SaslBody}
use Rattle.amqp_sasl_bodies.specs.SaslBody.{sasl_body_in}
use Rattle.amqp_sasl_bodies.specs.SaslBytes.{SpellsSasl}
use Rattle.amqp_faults.specs.declared.fault.Fault.{Fault}
use Rattle.amqp_faults.specs.declared.fault.Reason.{Reason}
use Rattle.amqp_faults.specs.declared.fault.Reason.TheVariants as reason
use Rattle.amqp_faults.specs.Faults.{Wrong}
use Rattle.amqp_body_faults.specs.Seen.{HasList, HasNoList}

-- the lists that are bodies of SASL frames
abbrev pub is_sasl_body : CompositeKind → Bool
is_sasl_body kind.SaslMechanisms = true
is_sasl_body kind.SaslInit = true
is_sasl_body kind.SaslChallenge = true
is_sasl_body kind.SaslResponse = true
is_sasl_body kind.SaslOutcome = true
is_sasl_body k = false

abbrev pub NoSasl : List ℕ → Type 0
NoSasl bytes = (body : SaslBody) → SpellsSasl bytes body → ⊥

-- no value at the front is such a body
abbrev pub NoSaslBody : List ℕ → Type 0
NoSaslBody bytes = (v : Amqp) (used : ℕ) → Begins 34 bytes v used → sasl_body_in v ≡ None

-- What is wrong with the bytes: no value begins them; the value that begins them is none of the five bodies, or its fields are not those
-- of the body that its descriptor says; or bytes stand behind it.
pub data WrongSasl : List ℕ → ℕ → Reason → Type 0 where
  no_value : (bytes : List ℕ) (o : ℕ) (r : Reason) → Wrong 34 bytes o r → WrongSasl bytes o r
  no_list : (bytes : List ℕ) → HasNoList bytes → WrongSasl bytes 0 reason.NoBody
  another_list : (bytes : List ℕ) (k : CompositeKind) → HasList bytes k → is_sasl_body k ≡ false → WrongSasl bytes 0 reason.NoBody
  wrong_fields : (bytes : List ℕ) (k : CompositeKind) → HasList bytes k → is_sasl_body k ≡ true → NoSaslBody bytes → WrongSasl bytes 0 reason.Field
  bytes_behind : (bytes : List ℕ) (v : Amqp) (used : ℕ) → Begins 34 bytes v used → used < length bytes → WrongSasl bytes used reason.Behind

-- they spell none, and this is where and why
pub record IsSaslFault (bytes : List ℕ) (fault : Fault) : Type 0 where
  pub wrong : WrongSasl bytes fault.offset fault.reason
  pub within : fault.offset ≤ length bytes
  pub none : NoSasl bytes

pub record HasSasl (bytes : List ℕ) : Type 0 where
  pub body : SaslBody
  pub spells : SpellsSasl bytes body

-- none where the bytes spell a body, else where and why they spell none
abbrev pub NamesSasl : Option Fault → List ℕ → Type 0
NamesSasl None bytes = HasSasl bytes
NamesSasl (Some fault) bytes = IsSaslFault bytes fault

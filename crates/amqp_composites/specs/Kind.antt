-- The descriptors of the described lists (OASIS AMQP 1.0, parts 2 to 5).
use Rattle.std.specs.Prelude.{ℕ, List, [], ◌∷◌, Option, codes, find, ◌==◌}
use Rattle.std.specs.Str.{bytes_eq}
use Rattle.amqp_composites.specs.declared.kind.CompositeKind.{CompositeKind}
use Rattle.amqp_composites.specs.declared.kind.CompositeKind.TheVariants as kind

-- the number of the descriptor
abbrev pub number_of : CompositeKind → ℕ
number_of kind.Open = 0x10
number_of kind.Begin = 0x11
number_of kind.Attach = 0x12
number_of kind.Flow = 0x13
number_of kind.Transfer = 0x14
number_of kind.Disposition = 0x15
number_of kind.Detach = 0x16
number_of kind.End = 0x17
number_of kind.Close = 0x18
number_of kind.Error = 0x1d
number_of kind.Received = 0x23
number_of kind.Accepted = 0x24
number_of kind.Rejected = 0x25
number_of kind.Released = 0x26
number_of kind.Modified = 0x27
number_of kind.Source = 0x28
number_of kind.Target = 0x29
number_of kind.Coordinator = 0x30
number_of kind.Declared = 0x33
number_of kind.TransactionalState = 0x34
number_of kind.SaslMechanisms = 0x40
number_of kind.SaslInit = 0x41
number_of kind.SaslChallenge = 0x42
number_of kind.SaslResponse = 0x43
number_of kind.SaslOutcome = 0x44
number_of kind.Header = 0x70
number_of kind.Properties = 0x73

-- the name of the descriptor
abbrev pub name_of : CompositeKind → List ℕ
name_of kind.Open = codes "amqp:open:list"
name_of kind.Begin = codes "amqp:begin:list"
name_of kind.Attach = codes "amqp:attach:list"
name_of kind.Flow = codes "amqp:flow:list"
name_of kind.Transfer = codes "amqp:transfer:list"
name_of kind.Disposition = codes "amqp:disposition:list"
name_of kind.Detach = codes "amqp:detach:list"
name_of kind.End = codes "amqp:end:list"
name_of kind.Close = codes "amqp:close:list"
name_of kind.Error = codes "amqp:error:list"
name_of kind.Received = codes "amqp:received:list"
name_of kind.Accepted = codes "amqp:accepted:list"
name_of kind.Rejected = codes "amqp:rejected:list"
name_of kind.Released = codes "amqp:released:list"
name_of kind.Modified = codes "amqp:modified:list"
name_of kind.Source = codes "amqp:source:list"
name_of kind.Target = codes "amqp:target:list"
name_of kind.Coordinator = codes "amqp:coordinator:list"
name_of kind.Declared = codes "amqp:declared:list"
name_of kind.TransactionalState = codes "amqp:transactional-state:list"
name_of kind.SaslMechanisms = codes "amqp:sasl-mechanisms:list"
name_of kind.SaslInit = codes "amqp:sasl-init:list"
name_of kind.SaslChallenge = codes "amqp:sasl-challenge:list"
name_of kind.SaslResponse = codes "amqp:sasl-response:list"
name_of kind.SaslOutcome = codes "amqp:sasl-outcome:list"
name_of kind.Header = codes "amqp:header:list"
name_of kind.Properties = codes "amqp:properties:list"

abbrev pub all_kinds : List CompositeKind
all_kinds =
    kind.Open ∷ kind.Begin ∷ kind.Attach ∷ kind.Flow ∷ kind.Transfer ∷ kind.Disposition ∷ kind.Detach ∷ kind.End ∷ kind.Close ∷ kind.Error ∷ kind.Received ∷ kind.Accepted ∷ kind.Rejected ∷ kind.Released ∷ kind.Modified ∷ kind.Source ∷ kind.Target ∷ kind.Coordinator ∷ kind.Declared ∷ kind.TransactionalState ∷ kind.SaslMechanisms ∷ kind.SaslInit ∷ kind.SaslChallenge ∷ kind.SaslResponse ∷ kind.SaslOutcome ∷ kind.Header ∷ kind.Properties ∷ []

-- the kind with that number
abbrev pub kind_numbered : ℕ → Option CompositeKind
kind_numbered n = find (λ k. n == number_of k) all_kinds

-- the kind with that name
abbrev pub kind_named : List ℕ → Option CompositeKind
kind_named name = find (λ k. bytes_eq name (name_of k)) all_kinds

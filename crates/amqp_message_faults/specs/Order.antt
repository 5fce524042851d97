-- The sections of a message, one after another (OASIS AMQP 1.0, part 3, section 3.2).
use Rattle.std.specs.Prelude.{◌≡◌, List, [], ◌∷◌, Bool, true, false, ◌&&◌, nat_lt, if◌then◌else◌, find, Option, Some, None, is_some, Result, Ok, Err}
use Rattle.amqp_data.specs.Data.{Amqp, described}
use Rattle.amqp_fields.specs.Fields.{◌>>=◌, map_with, binary_in, is_annotation, is_string}
use Rattle.amqp_messages.specs.declared.kind.SectionKind.{SectionKind}
use Rattle.amqp_messages.specs.declared.kind.SectionKind.TheVariants as kind
use Rattle.amqp_messages.specs.Kind.{number_of, is_descriptor}
use Rattle.amqp_messages.specs.Content.{header_in, properties_in, list_in}
use Rattle.amqp_faults.specs.declared.fault.Reason.{Reason}
use Rattle.amqp_faults.specs.declared.fault.Reason.TheVariants as reason

abbrev pub all_kinds : List SectionKind
all_kinds = kind.Header ∷ kind.DeliveryAnnotations ∷ kind.MessageAnnotations ∷ kind.Properties ∷ kind.ApplicationProperties ∷ kind.Data ∷ kind.Sequence ∷ kind.Value ∷ kind.Footer ∷ []

-- Whether a section of the second kind may stand behind one of the first, or begin a message: those behind are of later kinds, but
-- the body is data, or sequences, or one value (section 3.2).
abbrev pub follows : Option SectionKind → SectionKind → Bool
follows None k = true
follows (Some kind.Data) kind.Data = true
follows (Some kind.Data) kind.Footer = true
follows (Some kind.Data) k = false
follows (Some kind.Sequence) kind.Sequence = true
follows (Some kind.Sequence) kind.Footer = true
follows (Some kind.Sequence) k = false
follows (Some p) k = nat_lt (number_of p) (number_of k)

-- the kind whose descriptor it is, of those that may stand behind
abbrev pub next_kind : Option SectionKind → Amqp → Option SectionKind
next_kind last d = find (λ k. follows last k && is_descriptor k d) all_kinds

-- whether a section of that kind may hold it
abbrev pub is_content : SectionKind → Amqp → Bool
is_content kind.Header v = is_some (header_in v)
is_content kind.DeliveryAnnotations v = is_some (map_with is_annotation v)
is_content kind.MessageAnnotations v = is_some (map_with is_annotation v)
is_content kind.Properties v = is_some (properties_in v)
is_content kind.ApplicationProperties v = is_some (map_with is_string v)
is_content kind.Data v = is_some (binary_in v)
is_content kind.Sequence v = is_some (list_in v)
is_content kind.Value v = true
is_content kind.Footer v = is_some (map_with is_annotation v)

abbrev pub checked : Amqp → SectionKind → Option SectionKind
checked v k = if is_content k v then Some k else None

-- the section that the value is, behind one of that kind
abbrev pub step : Option SectionKind → Amqp → Option SectionKind
step last (described d v) = next_kind last d >>= checked v
step last v = None

-- the kind of section that the value would be there, whatever it held
abbrev pub kind_at : Option SectionKind → Amqp → Option SectionKind
kind_at last (described d v) = next_kind last d
kind_at last v = None

-- why the value is no section there: no kind is, or it has other content
abbrev pub WrongSection : Option SectionKind → Amqp → Reason → Type 0
WrongSection last v reason.NoSection = kind_at last v ≡ None
WrongSection last v reason.Field = (is_some (kind_at last v) ≡ true) × (step last v ≡ None)
WrongSection last v r = ⊥

abbrev pub SeesSection : Result SectionKind Reason → Option SectionKind → Amqp → Type 0
SeesSection (Ok k) last v = step last v ≡ Some k
SeesSection (Err r) last v = WrongSection last v r

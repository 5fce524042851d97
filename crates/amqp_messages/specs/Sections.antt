-- The sections of a message, in order (OASIS AMQP 1.0, part 3, section 3.2).
use Rattle.std.specs.Prelude.{◌≡◌, ℕ, Bool, false, List, [], ◌∷◌, Option, Some, None, Result, Ok, Err, if◌then◌else◌}
use Rattle.std.specs.Vec.Iter.{into_iter_items}
use Rattle.amqp_data.specs.Data.{Amqp, Items, described, no_items, item}
use Rattle.amqp_data.specs.View.{view, items_view}
use Rattle.amqp_data.specs.declared.value.Value.{Value}
use Rattle.amqp_fields.specs.declared.error.BaseError.{BaseError}
use Rattle.amqp_fields.specs.declared.error.BaseError.TheVariants as errors
use Rattle.amqp_fields.specs.Fields.{◌>>=◌, binary_in}
use Rattle.amqp_messages.specs.declared.kind.SectionKind.{SectionKind}
use Rattle.amqp_messages.specs.declared.kind.SectionKind.TheVariants as kind
use Rattle.amqp_messages.specs.declared.sections.Sections.{Sections}
use Rattle.amqp_messages.specs.Kind.{is_descriptor}
use Rattle.amqp_messages.specs.Content.{list_in}
use Rattle.amqp_messages.specs.Message.{Said, one_value, all_data, all_sequences, nothing}

-- the sections that are still to be read
abbrev pub before : Option Value → Items → Items
before (Some v) vs = item (view v) vs
before None vs = no_items

abbrev pub left : Sections → Items
left s = before s.next (items_view (into_iter_items s.others))

-- What was returned is what is read, and those sections are left, unless memory ran out.
abbrev pub Takes : {X Y : Type 0} → (X → Y) → Result X BaseError → Items → Option (Y × Items) → Type 0
Takes view (Ok x) rest read = read ≡ Some (view x, rest)
Takes view (Err (errors.Memory a)) rest read = Unit {0}
Takes view (Err errors.Decode) rest read = read ≡ None
Takes view (Err errors.Size) rest read = ⊥

-- the first section is of that kind
abbrev pub is_next : SectionKind → Items → Bool
is_next k (item (described d v) vs) = is_descriptor k d
is_next k vs = false

-- what the first section holds, where it is of that kind, and the sections after it
abbrev pub taken : SectionKind → Items → Option Amqp × Items
taken k (item (described d v) vs) = if is_descriptor k d then (Some v, vs) else (None, item (described d v) vs)
taken k vs = (None, vs)

abbrev pub held : {A : Type 0} → (Amqp → Option A) → Option Amqp × Items → Option (Option A × Items)
held reads (None, vs) = Some (None, vs)
held reads (Some v, vs) = reads v >>= λ x. Some (Some x, vs)

-- a section that may be absent
abbrev pub section : {A : Type 0} → SectionKind → (Amqp → Option A) → Items → Option (Option A × Items)
section k reads vs = held reads (taken k vs)

-- all sections of a kind that come next
unfoldable pub sections : {A : Type 0} → SectionKind → (Amqp → Option A) → Items → Option (List A × Items)
sections k reads (item (described d v) vs) = if is_descriptor k d then (do
  x ← reads v
  xs ← sections k reads vs
  Some (x ∷ xs.0, xs.1)) else Some ([], item (described d v) vs)
sections k reads vs = Some ([], vs)

abbrev pub value_or : Option Amqp × Items → Option (Said × Items)
value_or (Some v, vs) = Some (one_value v, vs)
value_or (None, vs) = Some (nothing, vs)

-- one value, or nothing
abbrev pub one_or_nothing : Items → Option (Said × Items)
one_or_nothing vs = value_or (taken kind.Value vs)

abbrev pub sequences_or : Option Items × Items → Option (Said × Items)
sequences_or (Some first, vs) = sections kind.Sequence list_in vs >>= λ x. Some (all_sequences first x.0, x.1)
sequences_or (None, vs) = one_or_nothing vs

-- sequences, or one value, or nothing
abbrev pub sequences_in : Items → Option (Said × Items)
sequences_in vs = section kind.Sequence list_in vs >>= sequences_or

abbrev pub data_or : Option (List ℕ) × Items → Option (Said × Items)
data_or (Some first, vs) = sections kind.Data binary_in vs >>= λ x. Some (all_data first x.0, x.1)
data_or (None, vs) = sequences_in vs

-- one value, or data, or sequences, or nothing (sections 3.2.6 to 3.2.8)
unfoldable pub body_in : Items → Option (Said × Items)
body_in vs = section kind.Data binary_in vs >>= data_or

-- The sections of a message as they are written (OASIS AMQP 1.0, part 3, section 3.2).
use Rattle.std.specs.Prelude.{◌≡◌, ℕ, ◌≤◌, List, [], ◌∷◌, ◌++◌, Option, Some, None, Result, Ok, Err}
use Rattle.amqp_data.specs.Data.{Amqp, Items, no_items, item, items_depth}
use Rattle.amqp_value.specs.Grammar.{SpellAll}
use Rattle.amqp_value.specs.Canonical.{canonical_items, AreSized}
use Rattle.amqp_fields.specs.declared.error.BaseError.{BaseError}
use Rattle.amqp_fields.specs.declared.error.BaseError.TheVariants as errors
use Rattle.amqp_fields.specs.Fields.{of_map, of_binary, is_annotation, is_string, IsValid}
use Rattle.amqp_fields.specs.Again.{HasKeys}
use Rattle.amqp_described.specs.Writing.{numbered}
use Rattle.amqp_messages.specs.declared.kind.SectionKind.{SectionKind}
use Rattle.amqp_messages.specs.declared.kind.SectionKind.TheVariants as kind
use Rattle.amqp_messages.specs.declared.message.Message.{Message}
use Rattle.amqp_messages.specs.Kind.{number_of}
use Rattle.amqp_messages.specs.Content.{of_header, of_properties, of_list}
use Rattle.amqp_messages.specs.Message.{Said, one_value, all_data, all_sequences, nothing}

infixr 5 ◌&◌
-- the ones before the others
abbrev pub ◌&◌ : Items → Items → Items
no_items & ws = ws
item v vs & ws = item v (vs & ws)

-- a section that may be absent
abbrev pub present : {A : Type 0} → SectionKind → (A → Amqp) → Option A → Items
present k writes None = no_items
present k writes (Some x) = item (numbered (number_of k) (writes x)) no_items

-- a section for each
abbrev pub each : {A : Type 0} → SectionKind → (A → Amqp) → List A → Items
each k writes [] = no_items
each k writes (x ∷ xs) = item (numbered (number_of k) (writes x)) (each k writes xs)

-- sections 3.2.1 to 3.2.3
abbrev pub head_items : {B : Type 0} → Message B → Items
head_items m = present kind.Header of_header m.header & present kind.DeliveryAnnotations of_map m.delivery_annotations & present kind.MessageAnnotations of_map m.message_annotations

-- sections 3.2.4 and 3.2.5
abbrev pub about_items : {B : Type 0} → Message B → Items
about_items m = present kind.Properties of_properties m.properties & present kind.ApplicationProperties of_map m.application_properties

-- sections 3.2.6 to 3.2.8
abbrev pub body_items : Said → Items
body_items (one_value v) = item (numbered (number_of kind.Value) v) no_items
body_items (all_data first rest) = each kind.Data of_binary (first ∷ rest)
body_items (all_sequences first rest) = each kind.Sequence of_list (first ∷ rest)
body_items nothing = no_items

-- the body and the footer (section 3.2.9)
abbrev pub rest_items : Message Said → Items
rest_items m = body_items m.body & present kind.Footer of_map m.footer

-- the sections of the message, in order
abbrev pub message_items : Message Said → Items
message_items m = head_items m & about_items m & rest_items m

-- the keys of each map are of its kind, as they are in each message
pub record IsMessageValid {B : Type 0} (m : Message B) : Type 0 where
  pub delivery : IsValid (HasKeys is_annotation) m.delivery_annotations
  pub message : IsValid (HasKeys is_annotation) m.message_annotations
  pub application : IsValid (HasKeys is_string) m.application_properties
  pub footer : IsValid (HasKeys is_annotation) m.footer

-- each length has room, and each value is nested within 33 levels
pub record AllFit (vs : Items) : Type 0 where
  pub sized : AreSized vs
  pub nests : items_depth vs ≤ 33

-- the one spelling of each value was added
pub record AllAdded (old new : List ℕ) (vs : Items) : Type 0 where
  pub bytes : new ≡ old ++ canonical_items vs
  pub spelled : SpellAll (canonical_items vs) vs

-- They were added, and they fit; they are refused for their size exactly where one does not fit, unless memory ran out.
abbrev pub AddsAll : Result (Unit {0}) BaseError → List ℕ → List ℕ → Items → Type 0
AddsAll (Ok x) old new vs = AllAdded old new vs × AllFit vs
AddsAll (Err (errors.Memory a)) old new vs = Unit {0}
AddsAll (Err errors.Size) old new vs = AllFit vs → ⊥
AddsAll (Err errors.Decode) old new vs = ⊥

-- The canonical spelling of the values was returned, and they fit; refused for their size exactly where one does not fit.
abbrev pub Encodes : Result (List ℕ) BaseError → Items → Type 0
Encodes (Ok bytes) vs = (bytes ≡ canonical_items vs) × AllFit vs
Encodes (Err (errors.Memory a)) vs = Unit {0}
Encodes (Err errors.Size) vs = AllFit vs → ⊥
Encodes (Err errors.Decode) vs = ⊥

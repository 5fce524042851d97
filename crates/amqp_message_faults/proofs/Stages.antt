-- The sections that the reader of messages takes are those that the walk takes.
use Rattle.std.proofs.Common.{◌≡◌, ℕ, List, [], ◌∷◌, Bool, true, false, cond, refl, sym, ap, ◌∙◌}
use Rattle.std.specs.Prelude.{Option, Some, None, is_some, find}
use Rattle.amqp_data.specs.Data.{Amqp, Items, Pairs, scalar, list, dict, array, described, no_items, item}
use Rattle.amqp_fields.specs.Fields.{◌>>=◌, ends, map_with, is_annotation, is_string, binary_in}
use Rattle.amqp_sections.specs.declared.header.Header.{Header}
use Rattle.amqp_sections.specs.declared.properties.Properties.{Properties}
use Rattle.amqp_messages.specs.declared.kind.SectionKind.{SectionKind}
use Rattle.amqp_messages.specs.declared.kind.SectionKind.TheVariants as kind
use Rattle.amqp_messages.specs.declared.message.Message.{Message}
use Rattle.amqp_messages.specs.Kind.{is_descriptor}
use Rattle.amqp_messages.specs.Content.{header_in, properties_in, list_in}
use Rattle.amqp_messages.specs.Message.{Said, one_value, all_data, all_sequences, nothing}
use Rattle.amqp_messages.specs.Sections.{taken, held, section, sections, value_or, sequences_or, sequences_in, data_or, body_in}
use Rattle.amqp_messages.specs.Reading.{head_in, about_in, rest_in, whole, message_in}
use Rattle.amqp_message_faults.specs.Order.{next_kind, is_content, checked, step}

-- the kind of the last section, where each stands behind the one before
abbrev pub walk : Option SectionKind → Items → Option (Option SectionKind)
walk last no_items = Some last
walk last (item v vs) = step last v >>= λ k. walk (Some k) vs

-- a section of that kind and the sections behind it
abbrev goes : Amqp → Items → Option SectionKind → Bool
goes v vs r = is_some ((r >>= checked v) >>= λ k. walk (Some k) vs)

-- the first of the sections is one of the kinds that may stand there, and the others stand behind it
abbrev stands : (Amqp → Option SectionKind) → Items → Bool
stands next no_items = true
stands next (item (described d v) vs) = goes v vs (next d)
stands next (item v vs) = false

stands_is : (last : Option SectionKind) (vs : Items) → stands (next_kind last) vs ≡ is_some (walk last vs)
stands_is last no_items = refl
stands_is last (item (scalar s) vs) = refl
stands_is last (item (list ws) vs) = refl
stands_is last (item (dict ps) vs) = refl
stands_is last (item (array k ws) vs) = refl
stands_is last (item (described d v) vs) = refl

-- ---- results one after another

in_turn : {A B C : Type 0} (r : Option A) (f : A → Option B) (g : B → Option C) → ((r >>= f) >>= g) ≡ (r >>= λ x. f x >>= g)
in_turn (Some x) f g = refl
in_turn None f g = refl

-- ---- one section

by_content : (v : Amqp) (vs : Items) (k : SectionKind) (b : Bool) → is_some (cond b (Some k) None >>= λ j. walk (Some j) vs) ≡ cond b (is_some (walk (Some k) vs)) false
by_content v vs k true = refl
by_content v vs k false = refl

by_kind : (v : Amqp) (vs : Items) (k : SectionKind) (b : Bool) (r : Option SectionKind) → goes v vs (cond b (Some k) r) ≡ cond b (cond (is_content k v) (is_some (walk (Some k) vs)) false) (goes v vs r)
by_kind v vs k true r = by_content v vs k (is_content k v)
by_kind v vs k false r = refl

-- A section of the kind may come first: those behind it are read then; else the section is one of the others.
module _ {A R : Type 0} (k : SectionKind) (reads : Amqp → Option A) (next others : Amqp → Option SectionKind)
    (same : (v : Amqp) → is_some (reads v) ≡ is_content k v)
    (first : (d : Amqp) → next d ≡ cond (is_descriptor k d) (Some k) (others d)) where
  by_reading : (f : Option A × Items → Option R) (vs : Items) → ((x : A) → is_some (f (Some x, vs)) ≡ is_some (walk (Some k) vs))
      → (r : Option A) → is_some ((r >>= λ x. Some (Some x, vs)) >>= f) ≡ cond (is_some r) (is_some (walk (Some k) vs)) false
  by_reading f vs found (Some x) = found x
  by_reading f vs found None = refl

  by_test : (f : Option A × Items → Option R) (d v : Amqp) (vs : Items) → ((x : A) → is_some (f (Some x, vs)) ≡ is_some (walk (Some k) vs))
      → is_some (f (None, item (described d v) vs)) ≡ goes v vs (others d)
      → (b : Bool) → is_some (held reads (cond b (Some v, vs) (None, item (described d v) vs)) >>= f) ≡ cond b (cond (is_content k v) (is_some (walk (Some k) vs)) false) (goes v vs (others d))
  by_test f d v vs found without true = by_reading f vs found (reads v) ∙ λ i. cond (same v i) (is_some (walk (Some k) vs)) false
  by_test f d v vs found without false = without

  optional_is : (f : Option A × Items → Option R) → ((x : A) (vs : Items) → is_some (f (Some x, vs)) ≡ is_some (walk (Some k) vs)) → ((vs : Items) → is_some (f (None, vs)) ≡ stands others vs)
      → (vs : Items) → is_some (section k reads vs >>= f) ≡ stands next vs
  optional_is f found without no_items = without no_items
  optional_is f found without (item (scalar s) vs) = without (item (scalar s) vs)
  optional_is f found without (item (list ws) vs) = without (item (list ws) vs)
  optional_is f found without (item (dict ps) vs) = without (item (dict ps) vs)
  optional_is f found without (item (array e ws) vs) = without (item (array e ws) vs)
  optional_is f found without (item (described d v) vs) =
      by_test f d v vs (λ x. found x vs) (without (item (described d v) vs)) (is_descriptor k d)
      ∙ sym (by_kind v vs k (is_descriptor k d) (others d)) ∙ ap (goes v vs) (sym (first d))

  -- the same where more is read of what was read
  optional_then : {B : Type 0} (f : Option A × Items → Option B) (g : B → Option R) → ((x : A) (vs : Items) → is_some (f (Some x, vs) >>= g) ≡ is_some (walk (Some k) vs)) → ((vs : Items) → is_some (f (None, vs) >>= g) ≡ stands others vs)
      → (vs : Items) → is_some ((section k reads vs >>= f) >>= g) ≡ stands next vs
  optional_then f g found without vs = ap is_some (in_turn (section k reads vs) f g) ∙ optional_is (λ x. f x >>= g) found without vs

-- ---- all sections of a kind

-- Sections of the kind come while they may; behind them the section is one of the others.
module _ {A : Type 0} (k : SectionKind) (reads : Amqp → Option A) (others : Amqp → Option SectionKind)
    (same : (v : Amqp) → is_some (reads v) ≡ is_content k v)
    (first : (d : Amqp) → next_kind (Some k) d ≡ cond (is_descriptor k d) (Some k) (others d)) where
  abbrev with_first : A → Option (List A × Items) → Option (List A × Items)
  with_first x r = r >>= λ xs. Some (x ∷ xs.0, xs.1)

  by_first : {R : Type 0} (f : List A × Items → Option R) (vs : Items) → ((x : A) → is_some (sections k reads vs >>= λ xs. f (x ∷ xs.0, xs.1)) ≡ is_some (walk (Some k) vs))
      → (r : Option A) → is_some ((r >>= λ x. with_first x (sections k reads vs)) >>= f) ≡ cond (is_some r) (is_some (walk (Some k) vs)) false
  by_first f vs found (Some x) = ap is_some (in_turn (sections k reads vs) (λ xs. Some (x ∷ xs.0, xs.1)) f) ∙ found x
  by_first f vs found None = refl

  by_tests : {R : Type 0} (f : List A × Items → Option R) (d v : Amqp) (vs : Items) → ((x : A) → is_some (sections k reads vs >>= λ xs. f (x ∷ xs.0, xs.1)) ≡ is_some (walk (Some k) vs))
      → is_some (f ([], item (described d v) vs)) ≡ goes v vs (others d)
      → (b : Bool) → is_some (cond b (reads v >>= λ x. with_first x (sections k reads vs)) (Some ([], item (described d v) vs)) >>= f) ≡ cond b (cond (is_content k v) (is_some (walk (Some k) vs)) false) (goes v vs (others d))
  by_tests f d v vs found without true = by_first f vs found (reads v) ∙ λ i. cond (same v i) (is_some (walk (Some k) vs)) false
  by_tests f d v vs found without false = without

  all_are : {R : Type 0} (f : List A × Items → Option R) → ((xs : List A) (vs : Items) → is_some (f (xs, vs)) ≡ stands others vs) → (vs : Items) → is_some (sections k reads vs >>= f) ≡ is_some (walk (Some k) vs)
  unfolding sections
  all_are f found no_items = found [] no_items
  all_are f found (item (scalar s) vs) = found [] (item (scalar s) vs)
  all_are f found (item (list ws) vs) = found [] (item (list ws) vs)
  all_are f found (item (dict ps) vs) = found [] (item (dict ps) vs)
  all_are f found (item (array e ws) vs) = found [] (item (array e ws) vs)
  all_are f found (item (described d v) vs) =
      by_tests f d v vs (λ x. all_are (λ xs. f (x ∷ xs.0, xs.1)) (λ xs. found (x ∷ xs)) vs) (found [] (item (described d v) vs)) (is_descriptor k d)
      ∙ sym (by_kind v vs k (is_descriptor k d) (others d)) ∙ ap (goes v vs) (sym (first d))

-- ---- the footer, and nothing behind it

ends_are : (x : Said × Option Pairs) (vs : Items) → is_some (ends vs >>= λ u. Some x) ≡ is_some (walk (Some kind.Footer) vs)
ends_are x no_items = refl
ends_are x (item (scalar s) vs) = refl
ends_are x (item (list ws) vs) = refl
ends_are x (item (dict ps) vs) = refl
ends_are x (item (array e ws) vs) = refl
ends_are x (item (described d v) vs) = refl

abbrev with_footer : Said → Option Pairs × Items → Option (Said × Option Pairs)
with_footer body footer = ends footer.1 >>= λ u. Some (body, footer.0)

abbrev tail : Said × Items → Option (Said × Option Pairs)
tail body = section kind.Footer (map_with is_annotation) body.1 >>= with_footer body.0

none_else : (x : Said × Option Pairs) (vs : Items) → is_some (ends vs >>= λ u. Some x) ≡ stands (λ d. None) vs
none_else x no_items = refl
none_else x (item (scalar s) vs) = refl
none_else x (item (list ws) vs) = refl
none_else x (item (dict ps) vs) = refl
none_else x (item (array e ws) vs) = refl
none_else x (item (described d v) vs) = refl

tail_is : (body : Said) (vs : Items) → is_some (tail (body, vs)) ≡ is_some (walk (Some kind.Value) vs)
tail_is body vs =
    optional_is kind.Footer (map_with is_annotation) (next_kind (Some kind.Value)) (λ d. None) (λ v. refl) (λ d. refl) (with_footer body) (λ x ws. ends_are (body, Some x) ws) (λ ws. none_else (body, None) ws) vs
    ∙ stands_is (Some kind.Value) vs

tail_stands : (body : Said) (vs : Items) → is_some (tail (body, vs)) ≡ stands (next_kind (Some kind.Value)) vs
tail_stands body vs = tail_is body vs ∙ sym (stands_is (Some kind.Value) vs)

-- ---- the body

-- one of the kinds
abbrev one_of : List SectionKind → Amqp → Option SectionKind
one_of ks d = find (λ k. is_descriptor k d) ks

abbrev value_then : Option Amqp × Items → Option (Said × Option Pairs)
value_then (Some v, vs) = tail (one_value v, vs)
value_then (None, vs) = tail (nothing, vs)

value_or_nothing : (x : Option Amqp × Items) → (value_or x >>= tail) ≡ (held (λ (v : Amqp). Some v) x >>= value_then)
value_or_nothing (Some v, vs) = refl
value_or_nothing (None, vs) = refl

value_is : (vs : Items) → is_some (value_or (taken kind.Value vs) >>= tail) ≡ stands (one_of (kind.Value ∷ kind.Footer ∷ [])) vs
value_is vs =
    ap is_some (value_or_nothing (taken kind.Value vs))
    ∙ optional_is kind.Value (λ (v : Amqp). Some v) (one_of (kind.Value ∷ kind.Footer ∷ [])) (next_kind (Some kind.Value)) (λ v. refl) (λ d. refl) value_then (λ x ws. tail_is (one_value x) ws) (λ ws. tail_stands nothing ws) vs

sequences_are : (x : Items) (vs : Items) → is_some (sequences_or (Some x, vs) >>= tail) ≡ is_some (walk (Some kind.Sequence) vs)
sequences_are x vs =
    ap is_some (in_turn (sections kind.Sequence list_in vs) (λ xs. Some (all_sequences x xs.0, xs.1)) tail)
    ∙ all_are kind.Sequence list_in (next_kind (Some kind.Value)) (λ v. refl) (λ d. refl) (λ xs. tail (all_sequences x xs.0, xs.1)) (λ xs ws. tail_stands (all_sequences x xs) ws) vs

sequences_or_value : (vs : Items) → is_some (sequences_in vs >>= tail) ≡ stands (one_of (kind.Sequence ∷ kind.Value ∷ kind.Footer ∷ [])) vs
sequences_or_value vs =
    optional_then kind.Sequence list_in (one_of (kind.Sequence ∷ kind.Value ∷ kind.Footer ∷ [])) (one_of (kind.Value ∷ kind.Footer ∷ [])) (λ v. refl) (λ d. refl) sequences_or tail (λ x ws. sequences_are x ws) (λ ws. value_is ws) vs

data_are : (x : List ℕ) (vs : Items) → is_some (data_or (Some x, vs) >>= tail) ≡ is_some (walk (Some kind.Data) vs)
data_are x vs =
    ap is_some (in_turn (sections kind.Data binary_in vs) (λ xs. Some (all_data x xs.0, xs.1)) tail)
    ∙ all_are kind.Data binary_in (next_kind (Some kind.Value)) (λ v. refl) (λ d. refl) (λ xs. tail (all_data x xs.0, xs.1)) (λ xs ws. tail_stands (all_data x xs) ws) vs

body_is : (vs : Items) → is_some (body_in vs >>= tail) ≡ stands (next_kind (Some kind.ApplicationProperties)) vs
unfolding body_in
body_is vs =
    optional_then kind.Data binary_in (next_kind (Some kind.ApplicationProperties)) (one_of (kind.Sequence ∷ kind.Value ∷ kind.Footer ∷ [])) (λ v. refl) (λ d. refl) data_or tail (λ x ws. data_are x ws) (λ ws. sequences_or_value ws) vs

rest_is : (vs : Items) → is_some (rest_in vs) ≡ stands (next_kind (Some kind.ApplicationProperties)) vs
unfolding rest_in
rest_is vs = body_is vs

-- ---- the sections before the body

-- what a message is made of before its body
abbrev first_of : (A B : Type 0) → (A → B) → Type 0
first_of A B f = A

abbrev second_of : (A B C : Type 0) → (A → B → C) → Type 0
second_of A B C f = B

abbrev Head : Type 0
Head = first_of _ _ (whole {B = Said})

abbrev About : Type 0
About = second_of _ _ _ (whole {B = Said})

abbrev after_application : Option Properties → Option Pairs × Items → Option (About × Items)
after_application properties application = Some (record { properties = properties; application_properties = application.0 }, application.1)

abbrev after_properties : Option Properties × Items → Option (About × Items)
after_properties properties = section kind.ApplicationProperties (map_with is_string) properties.1 >>= after_application properties.0

application_is : {R : Type 0} (g : About × Items → Option R) → ((about : About) (vs : Items) → is_some (g (about, vs)) ≡ stands (next_kind (Some kind.ApplicationProperties)) vs)
    → (properties : Option Properties) (vs : Items) → is_some (after_properties (properties, vs) >>= g) ≡ stands (next_kind (Some kind.Properties)) vs
application_is g found properties vs =
    optional_then kind.ApplicationProperties (map_with is_string) (next_kind (Some kind.Properties)) (next_kind (Some kind.ApplicationProperties)) (λ v. refl) (λ d. refl) (after_application properties) g
    (λ x ws. found (record { properties = properties; application_properties = Some x }) ws ∙ stands_is (Some kind.ApplicationProperties) ws)
    (λ ws. found (record { properties = properties; application_properties = None }) ws) vs

about_is : {R : Type 0} (g : About × Items → Option R) → ((about : About) (vs : Items) → is_some (g (about, vs)) ≡ stands (next_kind (Some kind.ApplicationProperties)) vs)
    → (vs : Items) → is_some (about_in vs >>= g) ≡ stands (next_kind (Some kind.MessageAnnotations)) vs
unfolding about_in
about_is g found vs =
    optional_then kind.Properties properties_in (next_kind (Some kind.MessageAnnotations)) (next_kind (Some kind.Properties)) (λ v. refl) (λ d. refl) after_properties g
    (λ x ws. application_is g found (Some x) ws ∙ stands_is (Some kind.Properties) ws) (λ ws. application_is g found None ws) vs

abbrev after_message : Option Header → Option Pairs → Option Pairs × Items → Option (Head × Items)
after_message header delivery message = Some (record { header = header; delivery_annotations = delivery; message_annotations = message.0 }, message.1)

abbrev after_delivery : Option Header → Option Pairs × Items → Option (Head × Items)
after_delivery header delivery = section kind.MessageAnnotations (map_with is_annotation) delivery.1 >>= after_message header delivery.0

abbrev after_header : Option Header × Items → Option (Head × Items)
after_header header = section kind.DeliveryAnnotations (map_with is_annotation) header.1 >>= after_delivery header.0

module _ {R : Type 0} (g : Head × Items → Option R) (found : (head : Head) (vs : Items) → is_some (g (head, vs)) ≡ stands (next_kind (Some kind.MessageAnnotations)) vs) where
  message_annotations_are : (header : Option Header) (delivery : Option Pairs) (vs : Items) → is_some (after_delivery header (delivery, vs) >>= g) ≡ stands (next_kind (Some kind.DeliveryAnnotations)) vs
  message_annotations_are header delivery vs =
      optional_then kind.MessageAnnotations (map_with is_annotation) (next_kind (Some kind.DeliveryAnnotations)) (next_kind (Some kind.MessageAnnotations)) (λ v. refl) (λ d. refl) (after_message header delivery) g
      (λ x ws. found (record { header = header; delivery_annotations = delivery; message_annotations = Some x }) ws ∙ stands_is (Some kind.MessageAnnotations) ws)
      (λ ws. found (record { header = header; delivery_annotations = delivery; message_annotations = None }) ws) vs

  delivery_annotations_are : (header : Option Header) (vs : Items) → is_some (after_header (header, vs) >>= g) ≡ stands (next_kind (Some kind.Header)) vs
  delivery_annotations_are header vs =
      optional_then kind.DeliveryAnnotations (map_with is_annotation) (next_kind (Some kind.Header)) (next_kind (Some kind.DeliveryAnnotations)) (λ v. refl) (λ d. refl) (after_delivery header) g
      (λ x ws. message_annotations_are header (Some x) ws ∙ stands_is (Some kind.DeliveryAnnotations) ws) (λ ws. message_annotations_are header None ws) vs

  head_is : (vs : Items) → is_some (head_in vs >>= g) ≡ stands (next_kind None) vs
  unfolding head_in
  head_is vs =
      optional_then kind.Header header_in (next_kind None) (next_kind (Some kind.Header)) (λ v. refl) (λ d. refl) after_header g
      (λ x ws. delivery_annotations_are (Some x) ws ∙ stands_is (Some kind.Header) ws) (λ ws. delivery_annotations_are None ws) vs

-- ---- the whole

abbrev after_about : Head → About × Items → Option (Message Said)
after_about head about = rest_in about.1 >>= λ rest. Some (whole head about.0 rest.0 rest.1)

abbrev after_head : Head × Items → Option (Message Said)
after_head head = about_in head.1 >>= after_about head.0

still : {A B : Type 0} (f : A → B) (r : Option A) → is_some (r >>= λ x. Some (f x)) ≡ is_some r
still f (Some x) = refl
still f None = refl

-- values are the sections of a message exactly where the walk takes them
pub message_is : (vs : Items) → is_some (message_in vs) ≡ is_some (walk None vs)
unfolding message_in
message_is vs =
    head_is after_head (λ head ws. about_is (after_about head) (λ about us. still (λ (rest : Said × Option Pairs). whole head about rest.0 rest.1) (rest_in us) ∙ rest_is us) ws) vs
    ∙ stands_is None vs

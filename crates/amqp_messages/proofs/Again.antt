-- What is written of a message is read again.
use Rattle.std.proofs.Common.{◌≡◌, ℕ, ◌<◌, ◌≤◌, List, [], ◌∷◌, Bool, true, false, nat_eq, refl, sym, ap, subst, ◌∙◌, cond, arith}
use Rattle.std.specs.Prelude.{Option, Some, None}
use Rattle.std.proofs.lemmas.Bool.{eqb-true}
use Rattle.amqp_data.specs.Data.{Amqp, Items, Pairs, scalar, ulong, described, no_items, item}
use Rattle.amqp_fields.specs.Fields.{◌>>=◌, ends, map_with, of_map, is_annotation, is_string, binary_in, of_binary, IsValid}
use Rattle.amqp_fields.specs.Maps.{map_again}
use Rattle.amqp_fields.specs.Again.{HasKeys}
use Rattle.amqp_sections.specs.declared.header.Header.{Header}
use Rattle.amqp_sections.specs.declared.properties.Properties.{Properties}
use Rattle.amqp_sections.specs.Header.{header_again}
use Rattle.amqp_sections.specs.Properties.{properties_again}
use Rattle.amqp_described.specs.Writing.{numbered}
use Rattle.amqp_messages.specs.declared.kind.SectionKind.{SectionKind}
use Rattle.amqp_messages.specs.declared.kind.SectionKind.TheVariants as kind
use Rattle.amqp_messages.specs.declared.message.Message.{Message}
use Rattle.amqp_messages.specs.Kind.{number_of}
use Rattle.amqp_messages.specs.Content.{header_in, of_header, properties_in, of_properties, list_in, of_list}
use Rattle.amqp_messages.specs.Message.{Said, one_value, all_data, all_sequences, nothing}
use Rattle.amqp_messages.specs.Sections.{taken, held, section, sections, value_or, sequences_or, data_or, body_in}
use Rattle.amqp_messages.specs.Reading.{head_in, about_in, rest_in, whole, message_in}
use Rattle.amqp_messages.specs.Writing.{◌&◌, present, each, head_items, about_items, body_items, rest_items, message_items, IsMessageValid}
use Rattle.amqp_messages.proofs.Taken.{sections_are, more}

-- ---- which section comes first

-- the first section has a greater number
abbrev IsAfter : ℕ → Items → Type 0
IsAfter n no_items = Unit {0}
IsAfter n (item (described (scalar (ulong m)) v) vs) = n < m
IsAfter n (item v vs) = ⊥

not_taken : (k : SectionKind) (m : ℕ) (v : Amqp) (vs : Items) (b : Bool) → number_of k < m → nat_eq m (number_of k) ≡ b → ◌≡◌ {A = Option Amqp × Items} (cond b (Some v, vs) (None, item (numbered m v) vs)) (None, item (numbered m v) vs)
not_taken k m v vs false lt e = refl
not_taken k m v vs true lt e = absurd (omega (arith, lt, eqb-true m (number_of k) e))

none_taken : (k : SectionKind) (vs : Items) → IsAfter (number_of k) vs → taken k vs ≡ (None, vs)
none_taken k no_items h = refl
none_taken k (item (described (scalar (ulong m)) v) vs) h = not_taken k m v vs (nat_eq m (number_of k)) h refl
none_taken k (item v vs) h = absurd h

own : (k : SectionKind) → nat_eq (number_of k) (number_of k) ≡ true
own kind.Header = refl
own kind.DeliveryAnnotations = refl
own kind.MessageAnnotations = refl
own kind.Properties = refl
own kind.ApplicationProperties = refl
own kind.Data = refl
own kind.Sequence = refl
own kind.Value = refl
own kind.Footer = refl

one_taken : (k : SectionKind) (v : Amqp) (vs : Items) → taken k (item (numbered (number_of k) v) vs) ≡ (Some v, vs)
one_taken k v vs = λ i. cond (own k i) (Some v, vs) (None, item (numbered (number_of k) v) vs)

present_after : {A : Type 0} (n : ℕ) (k : SectionKind) (writes : A → Amqp) (o : Option A) (vs : Items) → n < number_of k → IsAfter n vs → IsAfter n (present k writes o & vs)
present_after n k writes None vs lt h = h
present_after n k writes (Some x) vs lt h = lt

body_after : (b : Said) (vs : Items) → IsAfter 0x74 vs → IsAfter 0x74 (body_items b & vs)
body_after (one_value v) vs h = omega arith
body_after (all_data first rest) vs h = omega arith
body_after (all_sequences first rest) vs h = omega arith
body_after nothing vs h = h

weaker : (n m : ℕ) (vs : Items) → n ≤ m → IsAfter m vs → IsAfter n vs
weaker n m no_items le h = tt
weaker n m (item (described (scalar (ulong k)) v) vs) le h = omega (arith, le, h)
weaker n m (item v vs) le h = absurd h

-- ---- sections

each_valid : {A : Type 0} (o : Option A) → IsValid (λ (x : A). Unit {0}) o
each_valid None = tt
each_valid (Some x) = tt

module _ {A : Type 0} (k : SectionKind) (reads : Amqp → Option A) (writes : A → Amqp) where
  section_again : (o : Option A) (vs : Items) → (valid : A → Type 0) → ((x : A) → valid x → reads (writes x) ≡ Some x) → IsValid valid o → IsAfter (number_of k) vs → section k reads (present k writes o & vs) ≡ Some (o, vs)
  section_again None vs valid again h after = ap (held reads) (none_taken k vs after)
  section_again (Some x) vs valid again h after = ap (held reads) (one_taken k (writes x) vs) ∙ ap (λ (r : Option A). r >>= λ y. Some (Some y, vs)) (again x h)

  sections_again : (xs : List A) (vs : Items) → ((x : A) → reads (writes x) ≡ Some x) → IsAfter (number_of k) vs → sections k reads (each k writes xs & vs) ≡ Some (xs, vs)
  sections_again [] vs again after = sections_are k reads vs ∙ ap (more k reads) (none_taken k vs after)
  sections_again (x ∷ xs) vs again after =
      sections_are k reads (item (numbered (number_of k) (writes x)) (each k writes xs & vs)) ∙ ap (more k reads) (one_taken k (writes x) (each k writes xs & vs)) ∙ ap (λ (r : Option A). r >>= λ y. sections k reads (each k writes xs & vs) >>= λ ys. Some (y ∷ ys.0, ys.1)) (again x)
      ∙ ap (λ (r : Option (List A × Items)). r >>= λ ys. Some (x ∷ ys.0, ys.1)) (sections_again xs vs again after)

-- ---- some before others

joined : (us vs ws : Items) → (us & vs) & ws ≡ us & (vs & ws)
joined no_items vs ws = refl
joined (item u us) vs ws = ap (item u) (joined us vs ws)

alone : (vs : Items) → vs & no_items ≡ vs
alone no_items = refl
alone (item v vs) = ap (item v) (alone vs)

-- ---- the parts of a message

head_again : (h : Header) → header_in (of_header h) ≡ Some h
head_again h = header_again h tt

properties_are : (p : Properties) → properties_in (of_properties p) ≡ Some p
properties_are p = properties_again p tt

head_are : {B : Type 0} (m : Message B) (vs : Items) → IsMessageValid m → IsAfter 0x72 vs
    → head_in (head_items m & vs) ≡ Some (record { header = m.header; delivery_annotations = m.delivery_annotations; message_annotations = m.message_annotations }, vs)
unfolding head_in
head_are m vs valid after =
    let H = present kind.Header of_header m.header in
    let D = present kind.DeliveryAnnotations of_map m.delivery_annotations in
    let M = present kind.MessageAnnotations of_map m.message_annotations in
    let afterM : IsAfter 0x71 (M & vs) = present_after 0x71 kind.MessageAnnotations of_map m.message_annotations vs (omega arith) (weaker 0x71 0x72 vs (omega arith) after) in
    let afterD : IsAfter 0x70 (D & (M & vs)) = present_after 0x70 kind.DeliveryAnnotations of_map m.delivery_annotations (M & vs) (omega arith) (weaker 0x70 0x71 (M & vs) (omega arith) afterM) in
    ap head_in (joined H (D & M) vs ∙ ap (λ (z : Items). H & z) (joined D M vs))
    ∙ (λ i. do
      header ← section_again kind.Header header_in of_header m.header (D & (M & vs)) (λ x. Unit {0}) (λ x h. head_again x) (each_valid m.header) afterD i
      delivery ← section kind.DeliveryAnnotations (map_with is_annotation) header.1
      message ← section kind.MessageAnnotations (map_with is_annotation) delivery.1
      Some (record { header = header.0; delivery_annotations = delivery.0; message_annotations = message.0 }, message.1))
    ∙ (λ i. do
      delivery ← section_again kind.DeliveryAnnotations (map_with is_annotation) of_map m.delivery_annotations (M & vs) (HasKeys is_annotation) (map_again is_annotation) valid.delivery afterM i
      message ← section kind.MessageAnnotations (map_with is_annotation) delivery.1
      Some (record { header = m.header; delivery_annotations = delivery.0; message_annotations = message.0 }, message.1))
    ∙ (λ i. do
      message ← section_again kind.MessageAnnotations (map_with is_annotation) of_map m.message_annotations vs (HasKeys is_annotation) (map_again is_annotation) valid.message after i
      Some (record { header = m.header; delivery_annotations = m.delivery_annotations; message_annotations = message.0 }, message.1))

about_are : {B : Type 0} (m : Message B) (vs : Items) → IsMessageValid m → IsAfter 0x74 vs → about_in (about_items m & vs) ≡ Some (record { properties = m.properties; application_properties = m.application_properties }, vs)
unfolding about_in
about_are m vs valid after =
    let P = present kind.Properties of_properties m.properties in
    let A = present kind.ApplicationProperties of_map m.application_properties in
    let afterA : IsAfter 0x73 (A & vs) = present_after 0x73 kind.ApplicationProperties of_map m.application_properties vs (omega arith) (weaker 0x73 0x74 vs (omega arith) after) in
    ap about_in (joined P A vs)
    ∙ (λ i. do
      properties ← section_again kind.Properties properties_in of_properties m.properties (A & vs) (λ x. Unit {0}) (λ x h. properties_are x) (each_valid m.properties) afterA i
      application ← section kind.ApplicationProperties (map_with is_string) properties.1
      Some (record { properties = properties.0; application_properties = application.0 }, application.1))
    ∙ (λ i. do
      application ← section_again kind.ApplicationProperties (map_with is_string) of_map m.application_properties vs (HasKeys is_string) (map_again is_string) valid.application after i
      Some (record { properties = m.properties; application_properties = application.0 }, application.1))

-- ---- the body

no_body : (vs : Items) → IsAfter 0x77 vs → body_in vs ≡ Some (nothing, vs)
unfolding body_in
no_body vs after =
    ap (λ (r : Option Amqp × Items). held binary_in r >>= data_or) (none_taken kind.Data vs (weaker 0x75 0x77 vs (omega arith) after))
    ∙ ap (λ (r : Option Amqp × Items). held list_in r >>= sequences_or) (none_taken kind.Sequence vs (weaker 0x76 0x77 vs (omega arith) after)) ∙ ap value_or (none_taken kind.Value vs after)

body_are : (b : Said) (vs : Items) → IsAfter 0x77 vs → body_in (body_items b & vs) ≡ Some (b, vs)
unfolding body_in
body_are (one_value v) vs after = refl
body_are (all_data first rest) vs after =
    ap (λ (r : Option (List (List ℕ) × Items)). r >>= λ x. Some (all_data first x.0, x.1)) (sections_again kind.Data binary_in of_binary rest vs (λ x. refl) (weaker 0x75 0x77 vs (omega arith) after))
body_are (all_sequences first rest) vs after =
    ap (λ (r : Option (List Items × Items)). r >>= λ x. Some (all_sequences first x.0, x.1)) (sections_again kind.Sequence list_in of_list rest vs (λ x. refl) (weaker 0x76 0x77 vs (omega arith) after))
body_are nothing vs after = no_body vs after

footer_last : (o : Option Pairs) → IsAfter 0x77 (present kind.Footer of_map o)
footer_last None = tt
footer_last (Some ps) = omega arith

footer_is : (o : Option Pairs) → IsValid (HasKeys is_annotation) o → section kind.Footer (map_with is_annotation) (present kind.Footer of_map o) ≡ Some (o, no_items)
footer_is o valid = ap (section kind.Footer (map_with is_annotation)) (sym (alone (present kind.Footer of_map o))) ∙ section_again kind.Footer (map_with is_annotation) of_map o no_items (HasKeys is_annotation) (map_again is_annotation) valid tt

rest_are : (m : Message Said) → IsMessageValid m → rest_in (rest_items m) ≡ Some (m.body, m.footer)
unfolding rest_in
rest_are m valid =
    let F = present kind.Footer of_map m.footer in
    (λ i. do
      body ← body_are m.body F (footer_last m.footer) i
      footer ← section kind.Footer (map_with is_annotation) body.1
      no_more ← ends footer.1
      Some (body.0, footer.0))
    ∙ (λ i. do
      footer ← footer_is m.footer valid.footer i
      no_more ← ends footer.1
      Some (m.body, footer.0))

-- ---- the whole

rest_after : (m : Message Said) → IsAfter 0x74 (rest_items m)
rest_after m = body_after m.body (present kind.Footer of_map m.footer) (weaker 0x74 0x77 (present kind.Footer of_map m.footer) (omega arith) (footer_last m.footer))

about_after : {B : Type 0} (m : Message B) (vs : Items) → IsAfter 0x74 vs → IsAfter 0x72 (about_items m & vs)
about_after m vs after =
    let P = present kind.Properties of_properties m.properties in
    let A = present kind.ApplicationProperties of_map m.application_properties in
    subst (IsAfter 0x72) (sym (joined P A vs))
    (present_after 0x72 kind.Properties of_properties m.properties (A & vs) (omega arith) (present_after 0x72 kind.ApplicationProperties of_map m.application_properties vs (omega arith) (weaker 0x72 0x74 vs (omega arith) after)))

pub message_again : (m : Message Said) → IsMessageValid m → message_in (message_items m) ≡ Some m
unfolding message_in
message_again m valid =
    let R = rest_items m in
    (λ i. do
      head ← head_are m (about_items m & R) valid (about_after m R (rest_after m)) i
      about ← about_in head.1
      rest ← rest_in about.1
      Some (whole head.0 about.0 rest.0 rest.1))
    ∙ (λ i. do
      about ← about_are m R valid (rest_after m) i
      rest ← rest_in about.1
      Some (whole (record { header = m.header; delivery_annotations = m.delivery_annotations; message_annotations = m.message_annotations }) about.0 rest.0 rest.1))
    ∙ (λ i. do
      rest ← rest_are m valid i
      Some (whole (record { header = m.header; delivery_annotations = m.delivery_annotations; message_annotations = m.message_annotations }) (record { properties = m.properties; application_properties = m.application_properties }) rest.0 rest.1))

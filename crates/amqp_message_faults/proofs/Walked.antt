-- The sections walked so far, and what is wrong behind them.
use Rattle.std.proofs.Common.{◌≡◌, ℕ, ◌+◌, ◌-◌, ◌<◌, ◌≤◌, List, [], ◌∷◌, ◌++◌, length, take, drop, true, false, cond, refl, sym, ap, subst, ◌∙◌, append_assoc, append-nil, arith}
use Rattle.std.specs.Prelude.{Option, Some, None, is_some}
use Rattle.std.proofs.lemmas.List.{take-append-drop, length-append, length-drop}
use Rattle.std.proofs.lemmas.Option.{none-some, same_Some}
use Rattle.amqp_data.specs.Data.{Amqp, Items, scalar, list, dict, array, described, no_items, item, no_pairs, binary, pushed, depth, items_depth}
use Rattle.amqp_value.specs.Grammar.{Spells, scalar', empty_list, list', map', array', described', SpellAll, no_values, more_values}
use Rattle.amqp_fields.specs.Fields.{◌>>=◌}
use Rattle.amqp_sections.specs.Header.{header_of}
use Rattle.amqp_sections.specs.Properties.{properties_of, address_of, content_of}
use Rattle.amqp_described.specs.Reading.{Begins, Fill}
use Rattle.amqp_messages.specs.declared.kind.SectionKind.{SectionKind}
use Rattle.amqp_messages.specs.declared.kind.SectionKind.TheVariants as kind
use Rattle.amqp_messages.specs.declared.message.Message.{Message}
use Rattle.amqp_messages.specs.Message.{Said}
use Rattle.amqp_messages.specs.Reading.{message_in, SpellsMessage}
use Rattle.amqp_faults.specs.declared.fault.Reason.{Reason}
use Rattle.amqp_faults.specs.declared.fault.Reason.TheVariants as reason
use Rattle.amqp_message_faults.specs.Order.{is_content, checked, step, kind_at, WrongSection}
use Rattle.amqp_message_faults.specs.Sees.{HasSection, WrongFront, none_begins, one_begins}
use Rattle.amqp_message_faults.specs.Messages.{NoMessage, holding, WrongMessage, no_value, no_section, wrong_content}
use Rattle.amqp_message_faults.proofs.Stages.{walk, message_is}

-- ---- one section more

by_step : (q : Option SectionKind) (ws : Items) (v : Amqp) → ((k : SectionKind) → walk (Some k) ws ≡ Some q → walk (Some k) (pushed ws v) ≡ (step q v >>= λ j. Some (Some j)))
    → (r : Option SectionKind) → (r >>= λ k. walk (Some k) ws) ≡ Some q → (r >>= λ k. walk (Some k) (pushed ws v)) ≡ (step q v >>= λ j. Some (Some j))
by_step q ws v on (Some k) e = on k e
by_step q ws v on None e = absurd (none-some q e)

walk_on : (p q : Option SectionKind) (vs : Items) (v : Amqp) → walk p vs ≡ Some q → walk p (pushed vs v) ≡ (step q v >>= λ k. Some (Some k))
walk_on p q no_items v e = ap (λ (z : Option SectionKind). step z v >>= λ k. Some (Some k)) (same_Some p q e)
walk_on p q (item w ws) v e = by_step q ws v (λ k h. walk_on (Some k) q ws v h) (step p w) e

spelled_on : {front : List ℕ} {vs : Items} (text : List ℕ) (v : Amqp) → SpellAll front vs → Spells text v → SpellAll (front ++ text) (pushed vs v)
spelled_on text v no_values s = subst (λ (z : List ℕ). SpellAll z (item v no_items)) (append-nil text) (more_values v no_items text [] s no_values)
spelled_on text v (more_values w ws first rest t all) s =
    subst (λ (z : List ℕ). SpellAll z (item w (pushed ws v))) (sym (append_assoc first rest text)) (more_values w (pushed ws v) first (rest ++ text) t (spelled_on text v all s))

nests_on : (vs : Items) (v : Amqp) (n : ℕ) → items_depth vs ≤ n → depth v ≤ n → items_depth (pushed vs v) ≤ n
nests_on no_items v n le one = omega (arith, one)
nests_on (item w ws) v n le one = omega (arith, le, nests_on ws v n (omega (arith, le)) one)

-- the bytes so far are sections in their order, the last of that kind
pub record Walked (input rest : List ℕ) (last : Option SectionKind) : Type 0 where
  pub front : List ℕ
  pub values : Items
  pub parts : input ≡ front ++ rest
  pub within : length rest ≤ length input
  pub fill : Fill 33 front values
  pub walked : walk None values ≡ Some last

pub starts : (input : List ℕ) → Walked input input None
starts input = record { front = []; values = no_items; parts = refl; within = omega arith; fill = record { spelled = no_values; nests = omega arith }; walked = refl }

pub goes_on : (input rest : List ℕ) (last : Option SectionKind) (k : SectionKind) (used : ℕ) → Walked input rest last → HasSection last rest k used → Walked input (drop used rest) (Some k)
goes_on input rest last k used w h = record {
  front = w.front ++ take used rest;
  values = pushed w.values h.value;
  parts = w.parts ∙ ap (λ (z : List ℕ). w.front ++ z) (sym (take-append-drop used rest)) ∙ sym (append_assoc w.front (take used rest) (drop used rest));
  within = omega (arith, w.within, length-drop used rest);
  fill = record { spelled = spelled_on (take used rest) h.value w.fill.spelled h.begins.spelled; nests = nests_on w.values h.value 33 w.fill.nests h.begins.nests };
  walked = walk_on None last w.values h.value w.walked ∙ ap (λ (r : Option SectionKind). r >>= λ j. Some (Some j)) h.stands;
}

-- a spelling has a byte at least
spelled_pos : {text : List ℕ} {v : Amqp} → Spells text v → 0 < length text
spelled_pos (scalar' c text s l) = omega arith
spelled_pos empty_list = omega arith
spelled_pos (list' w vs items s few short) = omega arith
spelled_pos (map' w ps items s d few short) = omega arith
spelled_pos (array' w k c vs elements e l few short) = omega arith
spelled_pos (described' d v first rest s t) = omega arith

pub begins_pos : (rest : List ℕ) (v : Amqp) (used : ℕ) → Begins 33 rest v used → length (drop used rest) < length rest
begins_pos rest v used b =
    omega (arith, spelled_pos b.spelled, ap length (take-append-drop used rest), length-append (take used rest) (drop used rest))

-- ---- what the sections so far say

some_of : {A : Type 0} (r : Option A) → is_some r ≡ true → (x : A) × (r ≡ Some x)
some_of (Some x) e = (x, refl)
some_of None e = absurd cc

none_of : {A : Type 0} (r : Option A) → is_some r ≡ false → r ≡ None
none_of (Some x) e = absurd cc
none_of None e = refl

still : {A B : Type 0} (f : A → B) (r : Option A) → is_some (r >>= λ x. Some (f x)) ≡ is_some r
still f (Some x) = refl
still f None = refl

-- what is read with one value more
with_one : (vs : Items) (last : Option SectionKind) (v : Amqp) → walk None vs ≡ Some last → is_some (message_in (pushed vs v)) ≡ is_some (step last v)
with_one vs last v e = message_is (pushed vs v) ∙ ap is_some (walk_on None last vs v e) ∙ still (λ (k : SectionKind). Some k) (step last v)

record Says (front : List ℕ) (vs : Items) : Type 0 where
  pub message : Message Said
  pub says : message_in vs ≡ Some message

says : (front : List ℕ) (vs : Items) (last : Option SectionKind) → walk None vs ≡ Some last → Says front vs
says front vs last e = let m = some_of (message_in vs) (message_is vs ∙ ap is_some e) in record { message = m.0; says = m.1 }

-- the whole input is walked, and spells a message
pub all_walked : (input rest : List ℕ) (last : Option SectionKind) → Walked input rest last → rest ≡ [] → NoMessage input → ⊥
all_walked input rest last w e none =
    let m = says w.front w.values last w.walked in
    let same : w.front ≡ input = sym (w.parts ∙ ap (λ (z : List ℕ). w.front ++ z) e ∙ append-nil w.front) in
    none m.message (subst (λ (z : List ℕ). SpellsMessage z m.message) same (record { values = w.values; fill = w.fill; says = m.says }))

-- ---- what is wrong behind them

none_held : (last : Option SectionKind) (v content : Amqp) → kind_at last v ≡ None → step last (holding v content) ≡ None
none_held last (scalar s) content e = refl
none_held last (list ws) content e = refl
none_held last (dict ps) content e = refl
none_held last (array k ws) content e = refl
none_held last (described d v) content e = ap (λ (r : Option SectionKind). r >>= checked content) e

-- something that a section of the kind may hold
abbrev blank : SectionKind → Amqp
blank kind.Header = list no_items
blank kind.DeliveryAnnotations = dict no_pairs
blank kind.MessageAnnotations = dict no_pairs
blank kind.Properties = list no_items
blank kind.ApplicationProperties = dict no_pairs
blank kind.Data = scalar (binary [])
blank kind.Sequence = list no_items
blank kind.Value = list no_items
blank kind.Footer = dict no_pairs

blank_is : (k : SectionKind) → is_content k (blank k) ≡ true
unfolding header_of properties_of address_of content_of
blank_is kind.Header = refl
blank_is kind.DeliveryAnnotations = refl
blank_is kind.MessageAnnotations = refl
blank_is kind.Properties = refl
blank_is kind.ApplicationProperties = refl
blank_is kind.Data = refl
blank_is kind.Sequence = refl
blank_is kind.Value = refl
blank_is kind.Footer = refl

blank_held : (last : Option SectionKind) (v : Amqp) (k : SectionKind) → kind_at last v ≡ Some k → step last (holding v (blank k)) ≡ Some k
blank_held last (scalar s) k e = absurd (none-some k e)
blank_held last (list ws) k e = absurd (none-some k e)
blank_held last (dict ps) k e = absurd (none-some k e)
blank_held last (array j ws) k e = absurd (none-some k e)
blank_held last (described d v) k e = ap (λ (r : Option SectionKind). r >>= checked (blank k)) e ∙ λ i. cond (blank_is k i) (Some k) None

module _ (front rest : List ℕ) (vs : Items) (last : Option SectionKind) (fill : Fill 33 front vs) (e : walk None vs ≡ Some last) where
  at_front : (r : Reason) → WrongMessage (front ++ rest) (length front) r → WrongMessage (front ++ rest) (length front + 0) r
  at_front r w =
      let same : length front ≡ length front + 0 = omega arith in
      subst (λ (n : ℕ). WrongMessage (front ++ rest) n r) same w

  section_none : (v : Amqp) (used : ℕ) → Begins 33 rest v used → kind_at last v ≡ None → WrongMessage (front ++ rest) (length front) reason.NoSection
  section_none v used b none =
      let m = says front vs last e in
      no_section front rest m.message v used (record { values = vs; fill = fill; says = m.says }) b
      (λ content. none_of (message_in (pushed vs (holding v content))) (with_one vs last (holding v content) e ∙ ap is_some (none_held last v content none)))

  section_other : (v : Amqp) (used : ℕ) (k : SectionKind) → Begins 33 rest v used → kind_at last v ≡ Some k → step last v ≡ None → WrongMessage (front ++ rest) (length front) reason.Field
  section_other v used k b stands not =
      let m = says front vs last e in
      let n = some_of (message_in (pushed vs (holding v (blank k)))) (with_one vs last (holding v (blank k)) e ∙ ap is_some (blank_held last v k stands)) in
      wrong_content front rest m.message n.0 v (blank k) used (record { values = vs; fill = fill; says = m.says }) b (none_of (message_in (pushed vs v)) (with_one vs last v e ∙ ap is_some not)) n.1

  section_wrong : (v : Amqp) (used : ℕ) (r : Reason) → Begins 33 rest v used → WrongSection last v r → WrongMessage (front ++ rest) (length front) r
  section_wrong v used reason.NoSection b w = section_none v used b w
  section_wrong v used reason.Field b w = let k = some_of (kind_at last v) w.0 in section_other v used k.0 b k.1 w.1
  section_wrong v used r b w = absurd w

front_wrong : (front rest : List ℕ) (vs : Items) (last : Option SectionKind) (o : ℕ) (r : Reason) → Fill 33 front vs → walk None vs ≡ Some last → 0 < length rest → WrongFront last rest o r → WrongMessage (front ++ rest) (length front + o) r
front_wrong front rest vs last o r fill e some (none_begins _ _ _ _ w) =
    let m = says front vs last e in
    no_value front rest m.message o r (record { values = vs; fill = fill; says = m.says }) some w
front_wrong front rest vs last o r fill e some (one_begins _ _ v used _ b w) = at_front front rest vs last fill e r (section_wrong front rest vs last fill e v used r b w)

-- how many bytes stand before the rest
pub place : (input rest : List ℕ) (last : Option SectionKind) (w : Walked input rest last) → length input ≡ length w.front + length rest
place input rest last w = ap length w.parts ∙ length-append w.front rest

pub is_wrong : (input rest : List ℕ) (last : Option SectionKind) (o offset : ℕ) (r : Reason) → Walked input rest last → 0 < length rest → WrongFront last rest o r → offset ≡ (length input - length rest) + o → WrongMessage input offset r
is_wrong input rest last o offset r w some h at =
    let same : length w.front + o ≡ offset = omega (arith, at, place input rest last w) in
    subst (λ (n : ℕ). WrongMessage input n r) same (subst (λ (z : List ℕ). WrongMessage z (length w.front + o) r) (sym w.parts) (front_wrong w.front rest w.values last o r w.fill w.walked some h))

pub none_left : (rest : List ℕ) → length rest ≡ 0 → rest ≡ []
none_left [] e = refl
none_left (b ∷ rest) e = absurd (omega (arith, e))

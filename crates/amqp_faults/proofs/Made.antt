-- The faults that the walk finds.
use Rattle.std.proofs.Common.{◌≡◌, ℕ, zero, suc, ◌+◌, ◌-◌, ◌/◌, ◌%◌, ◌<◌, ◌≤◌, Bool, true, false, cond, eqb, List, [], ◌∷◌, length, take, drop, Option, Some, None, Result, Ok, Err, refl, sym, ap, subst, ◌∙◌, arith}
use Rattle.std.proofs.lemmas.Bool.{ne_eqb}
use Rattle.std.proofs.lemmas.List.{take_at, length-append}
use Rattle.std.proofs.lemmas.Option.{none-some}
use Rattle.std.proofs.lemmas.Str.{IsUtf8-from_is_utf8, is_utf8-from_IsUtf8}
use Rattle.std.specs.Str.{is_utf8, IsUtf8}
use Rattle.std.specs.Prelude.{option_map, is_ok, IfOk, MatchResult}
use Rattle.std.specs.List.{list_any}
use Rattle.amqp_data.specs.Data.{Amqp, Pairs}
use Rattle.amqp_data.specs.Same.{same}
use Rattle.amqp_data.specs.View.{view}
use Rattle.amqp_data.specs.declared.value.Value.{Value}
use Rattle.amqp_value.specs.Code.{find_code}
use Rattle.amqp_value.specs.Grammar.{Spells}
use Rattle.amqp_value.proofs.Numbers.{IsBytes}
use Rattle.amqp_value.proofs.Sound.{value_sound}
use Rattle.amqp_value.specs.Reading.{size_at, block_at, half, pairs_at, value_at}
use Rattle.amqp_faults.specs.declared.fault.Reason.{Reason}
use Rattle.amqp_faults.specs.declared.fault.Reason.TheVariants.{CutShort, KeyTwice, TooDeep, Sizes}
use Rattle.amqp_faults.specs.declared.form.Width.{Width}
use Rattle.amqp_faults.specs.declared.form.Layout.{Layout}
use Rattle.amqp_faults.specs.declared.form.Form.{Form}
use Rattle.amqp_faults.specs.declared.form.Form.TheVariants as f
use Rattle.amqp_faults.specs.Forms.{form_of, element_layout, reason_of_code, unlike, size_width}
use Rattle.amqp_faults.specs.Faults.{laid_at, is_like, passed, value_past, element_past, stepped, before, keys_of, width_in, within_block, placed, WrongScalar, ends', unlike', WrongElement, too_deep, scalar', WrongElements, in_element, more_elements, Wrong, too_deep', no_bytes, no_code, behind', WrongBehind, in_descriptor, in_described, cut_block, no_count, in_content, WrongParts, in_value, more_values, odd_count, in_pairs, no_element_code, no_element, in_elements, WrongPairs, in_pair, key_twice, more_pairs, WrongPair, in_its_value, past}
use Rattle.amqp_faults.specs.Sees.{NoneBehind, HasPair, SeesScalar, SeesElement}
use Rattle.amqp_faults.proofs.Steps.{PairsRead, is_old}
use Rattle.amqp_faults.specs.Names.{HasFront}
use Rattle.amqp_faults.proofs.Read.{is_read}
use Rattle.amqp_faults.proofs.Behind.{behind_none, past_some}

pub ok_map : {A E : Type 0} (r : Result A E) (P Q : A → Type 0) → ((x : A) → P x → Q x) → IfOk r P → IfOk r Q
ok_map (Ok x) P Q g h = g x h
ok_map (Err e) P Q g h = tt

not_true : (b : Bool) → (b ≡ true → ⊥) → b ≡ false
not_true true h = absurd (h refl)
not_true false h = refl

pub text_test : {A E : Type 0} (r : Result A E) (P : A → Type 0) (Q : E → Type 0) (s : List ℕ) (b : Bool) → MatchResult r (λ x. P x × IsUtf8 s) (λ e. (IsUtf8 s → ⊥) × Q e) → b ≡ is_ok r → b ≡ is_utf8 s
text_test (Ok x) P Q s b h e = e ∙ sym (is_utf8-from_IsUtf8 s h.1)
text_test (Err x) P Q s b h e = e ∙ sym (not_true (is_utf8 s) (λ t. h.0 (IsUtf8-from_is_utf8 s t)))

pub is_deeper : (d : ℕ) → (d ≡ 0 → ⊥) → d ≡ suc (d - 1)
is_deeper d h = omega arith

-- ---- a value

pub deep : (d : ℕ) (bytes : List ℕ) → d ≡ 0 → Wrong d bytes 0 TooDeep
deep d bytes e = subst (λ (z : ℕ). Wrong z bytes 0 TooDeep) (sym e) (too_deep' bytes)

pub ended : (d : ℕ) (bytes : List ℕ) → (d ≡ 0 → ⊥) → bytes ≡ [] → Wrong d bytes 0 CutShort
ended d bytes h e = rw (is_deeper d h, e) (no_bytes (d - 1))

pub uncoded : (d b : ℕ) (bytes rest : List ℕ) → (d ≡ 0 → ⊥) → bytes ≡ b ∷ rest → option_map form_of (find_code b) ≡ None → Wrong d bytes 0 (reason_of_code b)
uncoded d b bytes rest h e none = rw (is_deeper d h, e) (no_code (d - 1) b rest (no_form (find_code b) none))
  where
    no_form : (r : Option _) → option_map form_of r ≡ None → r ≡ None
    no_form (Some x) n = absurd cc
    no_form None n = refl

pub coded : (d b : ℕ) (bytes rest : List ℕ) (form : Form) (o : ℕ) (r : Reason) → (d ≡ 0 → ⊥) → bytes ≡ b ∷ rest → option_map form_of (find_code b) ≡ Some form → WrongBehind (d - 1) form rest o r → Wrong d bytes o r
coded d b bytes rest form o r h e is w = rw (is_deeper d h, e) (behind' (d - 1) b rest form o r is w)

pub refused_behind : (d b : ℕ) (bytes rest : List ℕ) (form : Form) → value_at d bytes ≡ None → (d ≡ 0 → ⊥) → bytes ≡ b ∷ rest → option_map form_of (find_code b) ≡ Some form → NoneBehind (d - 1) form rest
refused_behind d b bytes rest form none h e is =
    let at : value_at (suc (d - 1)) (b ∷ rest) ≡ None = ap (λ (z : ℕ). value_at z (b ∷ rest)) (sym (is_deeper d h)) ∙ ap (value_at d) (sym e) ∙ none in
    behind_none (d - 1) b rest form at is

-- ---- keys and values

pub odd : (n : ℕ) → (n % 2 ≡ 0 → ⊥) → half n ≡ None
odd n h = ap (λ (z : Bool). cond z (Some (n / 2)) None) (ne_eqb (n % 2) 0 h)

pub even : (n : ℕ) → n % 2 ≡ 0 → half n ≡ Some (n / 2)
even n e = ap (λ (z : ℕ). cond (eqb z 0) (Some (n / 2)) None) e

pub old_key : (d m : ℕ) (parts : List ℕ) (i : ℕ) (seen : List Value) (rest : List ℕ) (key : Value) (next : List ℕ) → i < m → PairsRead d parts i seen rest → HasPair d rest (view key) next → list_any (λ k. same (view key) (view k)) seen ≡ true
    → WrongPairs d m parts (Some (before parts rest)) KeyTwice
old_key d m parts i seen rest key next lt g p h = key_twice d m i parts rest p.after g.pairs (view key) lt g.read p.first (is_old d parts i seen rest key g h)

pub left_pairs : (d m : ℕ) (parts : List ℕ) (i : ℕ) (seen : List Value) (rest : List ℕ) → i ≡ m → 0 < length rest → PairsRead d parts i seen rest → WrongPairs d m parts None Sizes
left_pairs d m parts i seen rest e some g = more_pairs d m parts rest g.pairs (ap (λ (z : ℕ). pairs_at (value_at d) z parts) (sym e) ∙ g.read) some

pub left_values : (step : List ℕ → Option (List ℕ)) (n i : ℕ) (parts rest : List ℕ) → i ≡ n → stepped step i parts ≡ Some rest → stepped step n parts ≡ Some rest
left_values step n i parts rest e f = ap (λ (z : ℕ). stepped step z parts) (sym e) ∙ f

-- ---- elements

pub deep_element : (d : ℕ) (l : Layout) (bytes : List ℕ) → d ≡ 0 → WrongElement d l bytes TooDeep
deep_element d l bytes e = subst (λ (z : ℕ). WrongElement z l bytes TooDeep) (sym e) (too_deep l bytes)

pub sees_element : {X : Type 0} (bytes_of : X → List ℕ) (r : Result X Reason) (d : ℕ) (l : Layout) (bytes : List ℕ) → (d ≡ 0 → ⊥) → SeesScalar bytes_of r l bytes → SeesElement bytes_of r d l bytes
sees_element bytes_of (Ok x) d l bytes h s = (ap (λ (z : ℕ). element_past z l bytes) (is_deeper d h) ∙ s.0, s.1)
sees_element bytes_of (Err r) d l bytes h s = rw (is_deeper d h) (scalar' (d - 1) l bytes r s)

-- ---- what was read

pub has_pair : (d : ℕ) (bytes after rest : List ℕ) (key : Amqp) → value_at d bytes ≡ Some (key, after) → length after ≤ length bytes → value_past d after ≡ Some rest → length rest ≤ length after → HasPair d bytes key rest
has_pair d bytes after rest key e le f le' =
    let p = past_some (value_at d after) rest f in
    record { after = after; value = p.0; first = e; second = p.1; shorter = omega (arith, le, le') }

pub second_wrong : (d : ℕ) (bytes after : List ℕ) (key : Amqp) (o : ℕ) (r : Reason) → value_at d bytes ≡ Some (key, after) → Wrong d after o r → WrongPair d bytes (before bytes after + o) r
second_wrong d bytes after key o r e w = in_its_value d bytes after o r (ap past e) w

pub has_front : (d : ℕ) (bytes rest : List ℕ) → IsBytes bytes → value_past d bytes ≡ Some rest → HasFront d bytes
has_front d bytes rest fits e =
    let p = past_some (value_at d bytes) rest e in
    let t = value_sound d bytes (p.0, rest) fits p.1 in
    let front : take (length t.text) bytes ≡ t.text = ap (take (length t.text)) t.parts ∙ take_at t.text rest (length t.text) refl in
    record {
      value = p.0;
      used = length t.text;
      begins = record { within = omega (arith, ap length t.parts, length-append t.text rest); spelled = subst (λ (z : List ℕ). Spells z p.0) (sym front) t.spelled; nests = t.within };
    }

pub no_front : (d : ℕ) (bytes : List ℕ) → value_at d bytes ≡ None → HasFront d bytes → ⊥
no_front d bytes e h = none-some (h.value, drop h.used bytes) (sym e ∙ is_read d h.used bytes h.value h.begins.spelled h.begins.nests)

-- What the steps of the walk find.
use Rattle.std.proofs.Common.{◌≡◌, ℕ, zero, suc, ◌-◌, ◌<◌, List, [], ◌∷◌, Option, Some, None, ap, ◌∙◌, refl, inl, inr, arith}
use Rattle.std.proofs.lemmas.Bool.{cases_lt}
use Rattle.std.specs.Prelude.{option_map}
use Rattle.amqp_value.specs.Code.{find_code}
use Rattle.amqp_value.specs.Reading.{◌>>=◌}
use Rattle.amqp_faults.specs.declared.fault.Reason.{Reason}
use Rattle.amqp_faults.specs.declared.form.Layout.{Layout}
use Rattle.amqp_faults.specs.declared.form.Form.{Form}
use Rattle.amqp_faults.specs.Forms.{form_of, element_layout}
use Rattle.amqp_faults.specs.Faults.{passed, element_past, stepped, WrongScalar, ends', unlike'}
use Rattle.amqp_faults.proofs.Made.{is_deeper}
use Rattle.amqp_skips.specs.Skipped.{elements_past, form_past, skipped}

pub wrong_none : (l : Layout) (bytes : List ℕ) (r : Reason) → WrongScalar l bytes r → passed l bytes ≡ None
wrong_none l bytes r (ends' m other e) = rw e refl
wrong_none l bytes r (unlike' m other s rest e h) = rw (e, h) refl

-- ---- steps

-- behind a step that finds nothing there is nothing
pub none_behind : (step : List ℕ → Option (List ℕ)) (i n : ℕ) (bytes left : List ℕ) → stepped step i bytes ≡ Some left → step left ≡ None → i < n → stepped step n bytes ≡ None
none_behind step i zero bytes left e none lt = absurd (omega (arith, lt))
none_behind step i (suc n) bytes left e none lt =
    elim (cases_lt i n) [
      | inl more ↦ ap (λ (z : Option (List ℕ)). z >>= step) (none_behind step i n bytes left e none more)
      | inr last ↦ let same : n ≡ i = omega (arith, last, lt) in ap (λ (z : ℕ). stepped step z bytes >>= step) same ∙ ap (λ (z : Option (List ℕ)). z >>= step) e ∙ none
    ]

pub all_steps : (step : List ℕ → Option (List ℕ)) (i n : ℕ) (bytes left : List ℕ) → stepped step i bytes ≡ Some left → n ≡ i → stepped step n bytes ≡ Some left
all_steps step i n bytes left e same = ap (λ (z : ℕ). stepped step z bytes) same ∙ e

-- ---- elements

pub elements_are : (d n b : ℕ) (l : Layout) (bytes rest : List ℕ) → bytes ≡ b ∷ rest → element_layout b ≡ Some l → elements_past d n bytes ≡ stepped (element_past d l) n rest
elements_are d n b l bytes rest e f = ap (elements_past d n) e ∙ ap (λ (z : Option Layout). z >>= λ m. stepped (element_past d m) n rest) f

pub element_deep : (d : ℕ) (l : Layout) (bytes : List ℕ) → d ≡ 0 → element_past d l bytes ≡ None
element_deep d l bytes e = ap (λ (z : ℕ). element_past z l bytes) e

pub element_is : (d : ℕ) (l : Layout) (bytes : List ℕ) → (d ≡ 0 → ⊥) → element_past d l bytes ≡ passed l bytes
element_is d l bytes h = ap (λ (z : ℕ). element_past z l bytes) (is_deeper d h)

-- ---- a spelling

pub too_deep : (d : ℕ) (bytes : List ℕ) → d ≡ 0 → skipped d bytes ≡ None
unfolding skipped
too_deep d bytes e = ap (λ (z : ℕ). skipped z bytes) e

pub no_bytes : (d : ℕ) (bytes : List ℕ) → (d ≡ 0 → ⊥) → bytes ≡ [] → skipped d bytes ≡ None
unfolding skipped
no_bytes d bytes h e = ap (λ (z : ℕ). skipped z bytes) (is_deeper d h) ∙ ap (skipped (suc (d - 1))) e

at_code : (d b : ℕ) (bytes rest : List ℕ) (r : Option Form) → (d ≡ 0 → ⊥) → bytes ≡ b ∷ rest → option_map form_of (find_code b) ≡ r → skipped d bytes ≡ (r >>= λ form. form_past (skipped (d - 1)) (d - 1) form rest)
unfolding skipped
at_code d b bytes rest r h e f =
    ap (λ (z : ℕ). skipped z bytes) (is_deeper d h) ∙ ap (skipped (suc (d - 1))) e ∙ ap (λ (z : Option Form). z >>= λ form. form_past (skipped (d - 1)) (d - 1) form rest) f

pub no_code : (d b : ℕ) (bytes rest : List ℕ) → (d ≡ 0 → ⊥) → bytes ≡ b ∷ rest → option_map form_of (find_code b) ≡ None → skipped d bytes ≡ None
no_code d b bytes rest h e f = at_code d b bytes rest None h e f

pub behind_code : (d b : ℕ) (bytes rest : List ℕ) (form : Form) → (d ≡ 0 → ⊥) → bytes ≡ b ∷ rest → option_map form_of (find_code b) ≡ Some form → skipped d bytes ≡ form_past (skipped (d - 1)) (d - 1) form rest
behind_code d b bytes rest form h e f = at_code d b bytes rest (Some form) h e f

-- The lengths that are told.
use Rattle.std.proofs.Common.{◌≡◌, ℕ, ◌+◌, ◌-◌, ◌<◌, ◌≤◌, List, ◌++◌, length, take, drop, Some, None, Result, Ok, Err, refl, sym, ap, subst, ◌∙◌, arith}
use Rattle.std.proofs.lemmas.List.{take_at, take-append-drop, length-append, length-drop}
use Rattle.std.proofs.lemmas.Option.{none-some}
use Rattle.amqp_data.specs.Data.{Amqp, depth}
use Rattle.amqp_value.specs.declared.error.ValueError.{ValueError}
use Rattle.amqp_value.specs.declared.error.ValueError.TheVariants as errors
use Rattle.amqp_value.specs.Grammar.{Spells}
use Rattle.amqp_value.proofs.Numbers.{IsBytes, some_is}
use Rattle.amqp_faults.specs.Faults.{stepped}
use Rattle.amqp_skips.specs.Skipped.{skipped}
use Rattle.amqp_skips.specs.Spelling.{IsSpelling, AreSpellings, Fronts, FrontsAll, IsTheLength, PassesValues}
use Rattle.amqp_skips.proofs.Law.{value_kept}
use Rattle.amqp_skips.proofs.Again.{skipped_again, all_skipped}
use Rattle.amqp_skips.proofs.Took.{skipped_sound, all_sound}
use Rattle.amqp_skips.proofs.Walked.{none_behind}

-- what stands before the rest
front_is : (text rest bytes : List ℕ) → bytes ≡ text ++ rest → (length bytes - length rest ≡ length text) × (take (length bytes - length rest) bytes ≡ text)
front_is text rest bytes e =
    let total : length bytes ≡ length text + length rest = ap length e ∙ length-append text rest in
    let n : length bytes - length rest ≡ length text = omega (arith, total) in
    (n, ap (λ (z : ℕ). take z bytes) n ∙ ap (take (length text)) e ∙ take_at text rest (length text) refl)

behind_front : (used : ℕ) (bytes rest : List ℕ) → used ≤ length bytes → drop used bytes ≡ rest → length bytes - length rest ≡ used
behind_front used bytes rest le e = let n : length rest ≡ length bytes - used = ap length (sym e) ∙ length-drop used bytes in omega (arith, n, le)

-- ---- one

fronts_past : (d used : ℕ) (bytes : List ℕ) → Fronts d bytes used → skipped d bytes ≡ Some (drop used bytes)
fronts_past d used bytes h = ap (skipped d) (sym (take-append-drop used bytes)) ∙ skipped_again d (drop used bytes) h.spelling

only_length : (d used : ℕ) (bytes rest : List ℕ) → skipped d bytes ≡ Some rest → Fronts d bytes used → length bytes - length rest ≡ used
only_length d used bytes rest e h = behind_front used bytes rest h.within (some_is (drop used bytes) rest (sym (fronts_past d used bytes h) ∙ e))

pub the_length : (d : ℕ) (bytes rest : List ℕ) → IsBytes bytes → skipped d bytes ≡ Some rest → IsTheLength (Ok (length bytes - length rest)) (Fronts d bytes)
the_length d bytes rest fits e =
    let p = skipped_sound d bytes rest fits e in
    let f = front_is p.text rest bytes p.parts in
    let one : Fronts d bytes (length bytes - length rest) = record { within = omega arith; spelling = subst (λ (z : List ℕ). IsSpelling d z) (sym f.1) p.spelling } in
    (one, λ other h. only_length d other bytes rest e h)

pub no_length : (d : ℕ) (bytes : List ℕ) → skipped d bytes ≡ None → IsTheLength (Err errors.Decode) (Fronts d bytes)
no_length d bytes e = λ used h. none-some (drop used bytes) (sym e ∙ fronts_past d used bytes h)

fronts_of : (d : ℕ) (bytes text rest : List ℕ) (v : Amqp) → bytes ≡ text ++ rest → Spells text v → depth v ≤ d → Fronts d bytes (length text)
fronts_of d bytes text rest v e s le = record {
  within = let total : length bytes ≡ length text + length rest = ap length e ∙ length-append text rest in omega (arith, total);
  spelling = subst (λ (z : List ℕ). IsSpelling d z) (sym (ap (take (length text)) e ∙ take_at text rest (length text) refl)) (value_kept d s le);
}

pub passes_values : (r : Result ℕ ValueError) (d : ℕ) (bytes : List ℕ) → IsTheLength r (Fronts d bytes) → PassesValues r d bytes
passes_values (Ok used) d bytes h text rest v e s le = ap (λ (z : ℕ). Ok z) (h.1 (length text) (fronts_of d bytes text rest v e s le))
passes_values (Err errors.Decode) d bytes h text rest v e s le = absurd (h (length text) (fronts_of d bytes text rest v e s le))
passes_values (Err (errors.Memory a)) d bytes h text rest v e s le = absurd h
passes_values (Err errors.Depth) d bytes h text rest v e s le = absurd h
passes_values (Err errors.Size) d bytes h text rest v e s le = absurd h
passes_values (Err errors.Short) d bytes h text rest v e s le = absurd h

-- ---- several

all_past : (d n used : ℕ) (bytes : List ℕ) → FrontsAll d n bytes used → stepped (skipped d) n bytes ≡ Some (drop used bytes)
all_past d n used bytes h = ap (stepped (skipped d) n) (sym (take-append-drop used bytes)) ∙ all_skipped d n (drop used bytes) h.spellings

pub the_start : (d n : ℕ) (bytes rest : List ℕ) → IsBytes bytes → stepped (skipped d) n bytes ≡ Some rest → IsTheLength (Ok (length bytes - length rest)) (FrontsAll d n bytes)
the_start d n bytes rest fits e =
    let p = all_sound d n bytes rest fits e in
    let f = front_is p.text rest bytes p.parts in
    let all : FrontsAll d n bytes (length bytes - length rest) = record { within = omega arith; spellings = subst (λ (z : List ℕ). AreSpellings d n z) (sym f.1) p.spellings } in
    (all, λ other h. behind_front other bytes rest h.within (some_is (drop other bytes) rest (sym (all_past d n other bytes h) ∙ e)))

pub no_start : (d i n : ℕ) (bytes left : List ℕ) → stepped (skipped d) i bytes ≡ Some left → skipped d left ≡ None → i < n → IsTheLength (Err errors.Decode) (FrontsAll d n bytes)
no_start d i n bytes left e none lt =
    let never : stepped (skipped d) n bytes ≡ None = none_behind (skipped d) i n bytes left e none lt in
    λ used h. none-some (drop used bytes) (sym never ∙ all_past d n used bytes h)

-- A value at the front of bytes.
use Rattle.std.proofs.Common.{◌≡◌, ℕ, ◌≤◌, List, ◌++◌, length, take, drop, refl, sym, subst, ◌∙◌}
use Rattle.std.specs.Prelude.{Err}
use Rattle.std.proofs.lemmas.List.{take-append-drop, length-take-le}
use Rattle.amqp_value.specs.amqp_data.Data.{Amqp, depth}
use Rattle.amqp_value.specs.Grammar.{Spells}
use Rattle.amqp_value.specs.declared.error.ValueError.{ValueError}
use Rattle.amqp_value.specs.declared.error.ValueError.TheVariants as errors
use Rattle.amqp_value.specs.ReadErrors.{IsReadError}
use Rattle.amqp_composites.specs.amqp_fields.declared.error.BaseError.{BaseError}
use Rattle.amqp_described.specs.Error.{of_value_error}
use Rattle.amqp_described.specs.Reading.{Begins, ReadsFront}

-- the value that was read is the one that begins the bytes
pub the_front : (levels : ℕ) (bytes : List ℕ) (found : Amqp) (n : ℕ) → ((text rest : List ℕ) (v : Amqp) → bytes ≡ text ++ rest → Spells text v → depth v ≤ levels → (found ≡ v) × (n ≡ length text))
    → (v : Amqp) (used : ℕ) → Begins levels bytes v used → (found ≡ v) × (n ≡ used)
the_front levels bytes found n only v used b =
    let both = only (take used bytes) (drop used bytes) v (sym (take-append-drop used bytes)) b.spelled b.nests in
    (both.0, both.1 ∙ length-take-le used bytes b.within)

-- no value begins the bytes
pub no_front : (levels : ℕ) (bytes : List ℕ) → ((text rest : List ℕ) (v : Amqp) → bytes ≡ text ++ rest → Spells text v → depth v ≤ levels → ⊥) → (v : Amqp) (used : ℕ) → Begins levels bytes v used → ⊥
no_front levels bytes none v used b = none (take used bytes) (drop used bytes) v (sym (take-append-drop used bytes)) b.spelled b.nests

not_read : (levels : ℕ) (bytes : List ℕ) (e : ValueError) → IsReadError e → (e ≡ errors.Decode → (text rest : List ℕ) (v : Amqp) → bytes ≡ text ++ rest → Spells text v → depth v ≤ levels → ⊥) → ReadsFront (Err (of_value_error e)) levels bytes
not_read levels bytes (errors.Memory a) is none = tt
not_read levels bytes errors.Decode is none = no_front levels bytes (none refl)
not_read levels bytes errors.Depth is none = is
not_read levels bytes errors.Size is none = is
not_read levels bytes errors.Short is none = absurd is

pub refused_front : (levels : ℕ) (bytes : List ℕ) (e : ValueError) (b : BaseError) → b ≡ of_value_error e → IsReadError e → (e ≡ errors.Decode → (text rest : List ℕ) (v : Amqp) → bytes ≡ text ++ rest → Spells text v → depth v ≤ levels → ⊥)
    → ReadsFront (Err b) levels bytes
refused_front levels bytes e b is read none = subst (λ (z : BaseError). ReadsFront (Err z) levels bytes) (sym is) (not_read levels bytes e read none)

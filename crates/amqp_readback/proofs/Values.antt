-- What is read of the canonical bytes of a value.
use Rattle.std.proofs.Common.{◌≡◌, ℕ, ◌≤◌, List, [], ◌++◌, length, Result, Ok, Err, refl, sym, subst, ◌∙◌, append-nil}
use Rattle.std.specs.Prelude.{IfOk, IfErr}
use Rattle.amqp_data.specs.declared.value.Value.{Value}
use Rattle.amqp_data.specs.Data.{Amqp, depth}
use Rattle.amqp_data.specs.View.{view}
use Rattle.amqp_value.specs.declared.error.ValueError.{ValueError}
use Rattle.amqp_value.specs.declared.error.ValueError.TheVariants as errors
use Rattle.amqp_value.specs.Grammar.{Spells}
use Rattle.amqp_value.specs.ReadErrors.{IsReadError}
use Rattle.amqp_value.specs.Writing.{IsOfWriting}

-- it is the value, and all of them are read
pub all_read : (r : Result (Value × ℕ) ValueError) (input bytes : List ℕ) (v : Amqp) → ((text rest : List ℕ) (w : Amqp) → input ≡ text ++ rest → Spells text w → depth w ≤ 32 → IfOk r (λ x. (view x.0 ≡ w) × (x.1 ≡ length text))) → input ≡ bytes → Spells bytes v → depth v ≤ 32
    → IfOk r (λ x. (view x.0 ≡ v) × (x.1 ≡ length bytes))
all_read r input bytes v only is s le = only bytes [] v (is ∙ sym (append-nil bytes)) s le

-- they are never refused
pub never_refused : (r : Result (Value × ℕ) ValueError) (input bytes : List ℕ) (v : Amqp) → IfErr r IsReadError → (r ≡ Err errors.Decode → (text rest : List ℕ) (w : Amqp) → input ≡ text ++ rest → Spells text w → depth w ≤ 32 → ⊥) → input ≡ bytes → Spells bytes v → depth v ≤ 32
    → IfErr r IsOfWriting
never_refused (Ok x) input bytes v read none is s le = read
never_refused (Err (errors.Memory a)) input bytes v read none is s le = tt
never_refused (Err errors.Decode) input bytes v read none is s le = none refl bytes [] v (is ∙ sym (append-nil bytes)) s le
never_refused (Err errors.Depth) input bytes v read none is s le = absurd read
never_refused (Err errors.Size) input bytes v read none is s le = absurd read
never_refused (Err errors.Short) input bytes v read none is s le = absurd read

-- nothing that is read is refused for its depth or its size
pub not_deep : (r : Result (Value × ℕ) ValueError) → IfErr r IsReadError → r ≡ Err errors.Depth → ⊥
not_deep r read e = subst (λ (z : Result (Value × ℕ) ValueError). IfErr z IsReadError) e read

pub not_long : (r : Result (Value × ℕ) ValueError) → IfErr r IsReadError → r ≡ Err errors.Size → ⊥
not_long r read e = subst (λ (z : Result (Value × ℕ) ValueError). IfErr z IsReadError) e read

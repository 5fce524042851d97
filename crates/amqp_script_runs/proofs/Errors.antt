-- Errors of runs.
use Rattle.std.proofs.Common.{◌≡◌, ◌∙◌, ℕ, Result, Ok, Err, sym, ap, subst}
use Rattle.amqp_world.specs.declared.world.WorldError.{WorldError}
use Rattle.amqp_world.specs.declared.world.WorldError.TheVariants as world
use Rattle.amqp_script_runs.specs.declared.runs.RunError.{RunError}
use Rattle.amqp_script_runs.specs.declared.runs.RunError.TheVariants.{Memory, BadStep}
use Rattle.amqp_script_runs.specs.Errors.{error_of}

abbrev pub index_or : RunError → ℕ → ℕ
index_or (Memory e) d = d
index_or (BadStep i) d = i

abbrev pub IsBadStep : RunError → Type 0
IsBadStep (Memory e) = ⊥
IsBadStep (BadStep i) = Unit {0}

abbrev pub error_or : {T : Type 0} → Result T RunError → RunError → RunError
error_or (Ok x) d = d
error_or (Err e) d = e

-- a run that tells of a step that is not valid was told of it
pub told : (e : WorldError) (i : ℕ) → error_of e ≡ BadStep i → e ≡ world.BadStep i
told (world.BadStep n) i h = ap (λ (k : ℕ). world.BadStep k) (ap (λ (x : RunError). index_or x n) h)
told (world.Memory a) i h = absurd (subst (λ (x : RunError). IsBadStep x) (sym h) tt)
told world.Failed i h = absurd (subst (λ (x : RunError). IsBadStep x) (sym h) tt)

pub told_by : {T U : Type 0} (r : Result U WorldError) (e : WorldError) (x : RunError) (i : ℕ) → r ≡ Err e → x ≡ error_of e → ◌≡◌ {A = Result T RunError} (Err x) (Err (BadStep i)) → r ≡ Err (world.BadStep i)
told_by {T} r e x i is same h = is ∙ ap (λ (z : WorldError). Err z) (told e i (sym same ∙ ap (λ (z : Result T RunError). error_or z x) h))

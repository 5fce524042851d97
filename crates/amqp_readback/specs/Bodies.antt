-- What comes back of a message or a body that was written.
use Rattle.std.specs.Prelude.{◌≡◌, ◌≤◌, Result, Ok, Err}
use Rattle.amqp_data.specs.Data.{Items, items_depth}
use Rattle.amqp_value.specs.Canonical.{AreSized}
use Rattle.amqp_fields.specs.declared.error.BaseError.{BaseError}
use Rattle.amqp_fields.specs.declared.error.BaseError.TheVariants as errors

-- What was read is the same, and it fits; it is refused for its size exactly where it does not fit, unless memory ran out.
abbrev pub ComesBack : {X Y : Type 0} → (X → Y) → Result X BaseError → Y → Type 0 → Type 0
ComesBack view (Ok x) y Fits = (view x ≡ y) × Fits
ComesBack view (Err (errors.Memory a)) y Fits = Unit {0}
ComesBack view (Err errors.Size) y Fits = Fits → ⊥
ComesBack view (Err errors.Decode) y Fits = ⊥

-- each length has room, and each value is nested within 34 levels
abbrev pub FitFrames : Items → Type 0
FitFrames vs = AreSized vs × (items_depth vs ≤ 34)

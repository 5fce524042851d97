-- How many bytes a performative and the body of a frame take (OASIS AMQP 1.0, part 2, sections 2.3.2 and 2.7).
use Rattle.std.specs.Prelude.{◌≡◌, ℕ, ◌<◌, ◌≤◌, ◌^◌, List, ◌++◌, length, Option, Some, None, Result, Ok, Err}
use Rattle.amqp_data.specs.Data.{Amqp, Items, items_depth}
use Rattle.amqp_value.specs.Canonical.{canonical_items, AreSized}
use Rattle.amqp_fields.specs.declared.error.BaseError.{BaseError}
use Rattle.amqp_fields.specs.declared.error.BaseError.TheVariants as errors
use Rattle.amqp_described.specs.Writing.{Fits}
use Rattle.amqp_sizes.specs.Taken.{HasSize}

-- so many bytes are written of the values, each of which nests within 34 levels
pub record HaveBodySize (n : ℕ) (vs : Items) : Type 0 where
  pub bytes : n ≡ length (canonical_items vs)
  pub sized : AreSized vs
  pub nests : items_depth vs ≤ 34
  pub small : n < 2 ^ 34

-- how many bytes are written of the values; none where a length has no room, or one nests deeper
abbrev pub BodyTakes : Option ℕ → Items → Type 0
BodyTakes (Some n) vs = HaveBodySize n vs
BodyTakes None vs = AreSized vs → items_depth vs ≤ 34 → ⊥

-- How many bytes are written of the value; it is refused for its size exactly where it does not fit, and for nothing else.
abbrev pub Sizes : Result ℕ BaseError → ℕ → Amqp → Type 0
Sizes (Ok n) levels v = HasSize n levels v
Sizes (Err errors.Size) levels v = Fits levels v → ⊥
Sizes (Err errors.Decode) levels v = ⊥
Sizes (Err (errors.Memory a)) levels v = ⊥

-- How many bytes are written of the values and the payload; refused for their size exactly where a length has no room or a value
-- nests deeper than 34 levels, and for nothing else.
abbrev pub SizesBody : Result ℕ BaseError → Items → List ℕ → Type 0
SizesBody (Ok n) vs payload = (n ≡ length (canonical_items vs ++ payload)) × AreSized vs × (items_depth vs ≤ 34)
SizesBody (Err errors.Size) vs payload = AreSized vs → items_depth vs ≤ 34 → ⊥
SizesBody (Err errors.Decode) vs payload = ⊥
SizesBody (Err (errors.Memory a)) vs payload = ⊥

-- How many bytes texts take, and the symbols of an array (OASIS AMQP 1.0, part 1, sections 1.2.2, 1.2.4 and 1.6.19 to 1.6.24).
use Rattle.std.specs.Prelude.{◌≡◌, ℕ, suc, ◌+◌, ◌<◌, ◌≤◌, ◌^◌, List, length, Option, Some, None}
use Rattle.amqp_data.specs.Data.{Amqp, Items}
use Rattle.amqp_value.specs.declared.code.SizeWidth.{SizeWidth}
use Rattle.amqp_value.specs.declared.code.ScalarCode.TheVariants as c
use Rattle.amqp_value.specs.Canonical.{width_of, elements, canonical, AreSized}
use Rattle.amqp_value.specs.Writing.{octet_count}
use Rattle.amqp_described.specs.Writing.{Fits}

-- a constructor, a length and the text, or that the length has no room, or that nothing may be nested
abbrev pub TakesText : Option ℕ → ℕ → List ℕ → Type 0
TakesText (Some n) levels s = (n ≡ suc (octet_count (width_of s) + length s)) × (length s < 2 ^ 32) × (1 ≤ levels)
TakesText None levels s = length s < 2 ^ 32 → 1 ≤ levels → ⊥

-- symbols behind one constructor, with their lengths in that width
pub record HaveElementsSize (n : ℕ) (w : SizeWidth) (vs : Items) : Type 0 where
  pub bytes : n ≡ length (elements (c.Symbol w) vs)
  pub sized : AreSized vs
  pub short : 5 + n < 2 ^ 32

-- how many bytes they take; none where a length has no room, also that of a count, a constructor and them
abbrev pub TakeElements : Option ℕ → SizeWidth → Items → Type 0
TakeElements (Some n) w vs = HaveElementsSize n w vs
TakeElements None w vs = AreSized vs → 5 + length (elements (c.Symbol w) vs) < 2 ^ 32 → ⊥

-- a key and its value
pub record HasPairSize (n levels : ℕ) (k v : Amqp) : Type 0 where
  pub bytes : n ≡ length (canonical k) + length (canonical v)
  pub key : Fits levels k
  pub value : Fits levels v

abbrev pub TakesPair : Option ℕ → ℕ → Amqp → Amqp → Type 0
TakesPair (Some n) levels k v = HasPairSize n levels k v
TakesPair None levels k v = Fits levels k → Fits levels v → length (canonical k) + length (canonical v) < 2 ^ 32 → ⊥

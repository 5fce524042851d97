-- How many bytes are written of a value and of fields (OASIS AMQP 1.0, part 1, sections 1.2 and 1.4).
use Rattle.std.specs.Prelude.{◌≡◌, ℕ, ◌+◌, ◌<◌, ◌≤◌, ◌^◌, List, [], ◌∷◌, length, Option, Some, None}
use Rattle.amqp_data.specs.Data.{Amqp, Items, Pairs, scalar, null, count, items_depth, pairs_depth}
use Rattle.amqp_value.specs.Canonical.{canonical, canonical_items, canonical_pairs, AreSized, ArePairsSized}
use Rattle.amqp_fields.specs.Fields.{IsThere}
use Rattle.amqp_described.specs.Writing.{Fits}
use Rattle.amqp_sizes.specs.declared.slot.Slot.{Slot}
use Rattle.amqp_sizes.specs.declared.slot.Slot.TheVariants as slot
use Rattle.amqp_sizes.specs.declared.composite.Measure.{Measure}

-- so many bytes are written of the value, and it nests within so many levels
pub record HasSize (n levels : ℕ) (v : Amqp) : Type 0 where
  pub is : n ≡ length (canonical v)
  pub fits : Fits levels v

-- how many bytes are written of it; none where a length has no room, or it nests deeper
abbrev pub Takes : Option ℕ → ℕ → Amqp → Type 0
Takes (Some n) levels v = HasSize n levels v
Takes None levels v = Fits levels v → ⊥

-- a field that is a null, or that is there with its size, or that has none
abbrev pub IsSlot : Slot → ℕ → Amqp → Type 0
IsSlot slot.Null levels v = v ≡ scalar null
IsSlot (slot.Takes n) levels v = IsThere v × HasSize n levels v
IsSlot slot.Refused levels v = IsThere v × (Fits levels v → ⊥)

abbrev pub AreSlots : List Slot → ℕ → List Amqp → Type 0
AreSlots [] levels [] = Unit {0}
AreSlots [] levels (v ∷ vs) = ⊥
AreSlots (s ∷ ss) levels [] = ⊥
AreSlots (s ∷ ss) levels (v ∷ vs) = IsSlot s levels v × AreSlots ss levels vs

-- each length has room, also that of a count and the values, and each value nests within so many levels
pub record AllFit (levels : ℕ) (vs : Items) : Type 0 where
  pub sized : AreSized vs
  pub short : 4 + length (canonical_items vs) < 2 ^ 32
  pub nests : items_depth vs ≤ levels

-- so many values take so many bytes
pub record HaveSize (m : Measure) (levels : ℕ) (vs : Items) : Type 0 where
  pub count : m.count ≡ count vs
  pub bytes : m.bytes ≡ length (canonical_items vs)
  pub fit : AllFit levels vs

abbrev pub TakeAll : Option Measure → ℕ → Items → Type 0
TakeAll (Some m) levels vs = HaveSize m levels vs
TakeAll None levels vs = AllFit levels vs → ⊥

-- the same of keys and values in turn
pub record PairsFit (levels : ℕ) (ps : Pairs) : Type 0 where
  pub sized : ArePairsSized ps
  pub short : 4 + length (canonical_pairs ps) < 2 ^ 32
  pub nests : pairs_depth ps ≤ levels

pub record PairsHaveSize (n levels : ℕ) (ps : Pairs) : Type 0 where
  pub bytes : n ≡ length (canonical_pairs ps)
  pub fit : PairsFit levels ps

abbrev pub PairsTake : Option ℕ → ℕ → Pairs → Type 0
PairsTake (Some n) levels ps = PairsHaveSize n levels ps
PairsTake None levels ps = PairsFit levels ps → ⊥

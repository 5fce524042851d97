-- Looking for a pair in ranges that rise.
use Rattle.std.specs.Prelude.{◌≡◌, ℕ, ◌+◌, ◌*◌, ◌<◌, ◌≤◌, List, Option, None, Some, length, slice_get}
use Rattle.amqp_delivery.specs.Ranges.{rank, low_end, high_end}
use Rattle.amqp_delivery.specs.declared.ranges.Range.{Range}
use Rattle.amqp_delivery.specs.declared.search.Search.{Search}
use Rattle.amqp_delivery.specs.declared.search.Side.{Side}
use Rattle.amqp_delivery.specs.declared.search.Side.TheVariants.{Before, Inside, After}

-- the range holds the pair
abbrev pub Holds : Range → ℕ → ℕ → Type 0
Holds r attachment number = (low_end r ≤ rank attachment number) × (rank attachment number ≤ high_end r)

-- where the pair stands beside the range
abbrev pub side_is : Range → ℕ → ℕ → Side → Type 0
side_is r attachment number Before = rank attachment number < low_end r
side_is r attachment number Inside = Holds r attachment number
side_is r attachment number After = high_end r < rank attachment number

-- the ranges rise
pub record IsSorted (ranges : List Range) : Type 0 where
  pub each : (i : ℕ) (r : Range) → slice_get ranges i ≡ Some r → low_end r ≤ high_end r
  pub rise : (i j : ℕ) (r s : Range) → i < j → slice_get ranges i ≡ Some r → slice_get ranges j ≡ Some s → high_end r ≤ low_end s

-- each range before the position ends below the pair
abbrev pub NoneBelow : List Range → ℕ → ℕ → ℕ → Type 0
NoneBelow ranges attachment number n = (j : ℕ) (r : Range) → j < n → slice_get ranges j ≡ Some r → high_end r < rank attachment number

-- no range from the position on ends below the pair
abbrev pub NoneEndsBelow : List Range → ℕ → ℕ → ℕ → Type 0
NoneEndsBelow ranges attachment number n = (j : ℕ) (r : Range) → n ≤ j → slice_get ranges j ≡ Some r → rank attachment number ≤ high_end r

-- the position is that of the first range that holds the pair; none where no range does
abbrev pub IsFirstRun : List Range → ℕ → ℕ → Option ℕ → Type 0
IsFirstRun ranges attachment number (Some i) =
    (r : Range) × (slice_get ranges i ≡ Some r) × Holds r attachment number × ((j : ℕ) (s : Range) → j < i → slice_get ranges j ≡ Some s → Holds s attachment number → ⊥)
IsFirstRun ranges attachment number None = (j : ℕ) (s : Range) → slice_get ranges j ≡ Some s → Holds s attachment number → ⊥

-- what stands from n on: nothing that holds the pair, but for what was found at n
abbrev pub FoundFrom : List Range → ℕ → ℕ → ℕ → Option ℕ → Type 0
FoundFrom ranges attachment number n (Some i) = (i ≡ n) × ((r : Range) × (slice_get ranges n ≡ Some r) × Holds r attachment number)
FoundFrom ranges attachment number n None = (j : ℕ) (r : Range) → n ≤ j → slice_get ranges j ≡ Some r → rank attachment number < low_end r

pub record IsSearch (ranges : List Range) (attachment number : ℕ) (s : Search) : Type 0 where
  pub order : s.low ≤ s.high
  pub within : s.high ≤ length ranges
  pub below : NoneBelow ranges attachment number s.low
  pub above : FoundFrom ranges attachment number s.high s.found
  pub ends : NoneEndsBelow ranges attachment number s.high

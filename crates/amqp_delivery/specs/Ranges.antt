-- Pairs of an attachment and a delivery-id in order, and their ranges.
use Rattle.std.specs.Prelude.{◌≡◌, ℕ, zero, suc, ◌+◌, ◌-◌, ◌*◌, ◌<◌, ◌≤◌, ◌==◌, ◌&&◌, nat_le, nat_lt, Bool, true, false, cond, List, [], ◌∷◌, ◌++◌, length, take, drop}
use Rattle.amqp_delivery.specs.declared.ranges.Range.{Range}

-- the place of a pair in the order: by the attachment, then by the number, which is below 2^32
abbrev pub rank : ℕ → ℕ → ℕ
rank attachment number = attachment * 4294967296 + number

abbrev pub rank_of : ℕ × ℕ → ℕ
rank_of p = rank p.0 p.1

-- before the first pair that is not below it
abbrev pub insert_pair : ℕ × ℕ → List (ℕ × ℕ) → List (ℕ × ℕ)
insert_pair p [] = p ∷ []
insert_pair p (q ∷ qs) = cond (nat_le (rank_of p) (rank_of q)) (p ∷ q ∷ qs) (q ∷ insert_pair p qs)

-- of pairs in order, without that one, where it is among them
abbrev pub remove_pair : ℕ × ℕ → List (ℕ × ℕ) → List (ℕ × ℕ)
remove_pair p [] = []
remove_pair p (q ∷ qs) = cond (nat_le (rank_of p) (rank_of q)) (cond (rank_of p == rank_of q) qs (q ∷ qs)) (q ∷ remove_pair p qs)

abbrev pub sorted_pairs : List (ℕ × ℕ) → List (ℕ × ℕ)
sorted_pairs [] = []
sorted_pairs (p ∷ ps) = insert_pair p (sorted_pairs ps)

-- a pair alone
abbrev pub single : ℕ × ℕ → Range
single p = record { attachment = p.0; first = p.1; last = p.1 }

-- does the second range go on where the first ends? No number follows 2^32 - 1.
abbrev pub meets : Range → Range → Bool
meets r s = (r.attachment == s.attachment) && (r.last + 1 == s.first)

abbrev pub glue_at : Bool → Range → Range → List Range → List Range
glue_at true r s ys = record { attachment = r.attachment; first = r.first; last = s.last } ∷ ys
glue_at false r s ys = r ∷ s ∷ ys

-- a pair before ranges: it goes on with the first where it meets it
abbrev pub cons_run : ℕ × ℕ → List Range → List Range
cons_run p [] = single p ∷ []
cons_run p (r ∷ rs) = glue_at (meets (single p) r) (single p) r rs

-- the maximal runs of pairs in order
abbrev pub runs : List (ℕ × ℕ) → List Range
runs [] = []
runs (p ∷ ps) = cons_run p (runs ps)

-- ranges, and ranges behind them: the two in the middle are one where they meet
abbrev pub glue : List Range → List Range → List Range
glue [] ys = ys
glue (r ∷ []) [] = r ∷ []
glue (r ∷ []) (s ∷ ys) = glue_at (meets r s) r s ys
glue (r ∷ q ∷ rs) ys = r ∷ glue (q ∷ rs) ys

-- so many pairs with numbers in a row
abbrev pub spread_from : ℕ → ℕ → ℕ → List (ℕ × ℕ)
spread_from attachment first zero = []
spread_from attachment first (suc k) = (attachment, first) ∷ spread_from attachment (first + 1) k

-- the pairs of a range
abbrev pub spread : Range → List (ℕ × ℕ)
spread r = spread_from r.attachment r.first (r.last + 1 - r.first)

-- the pairs of ranges
abbrev pub pairs_in : List Range → List (ℕ × ℕ)
pairs_in [] = []
pairs_in (r ∷ rs) = spread r ++ pairs_in rs

abbrev pub low_end : Range → ℕ
low_end r = rank r.attachment r.first

abbrev pub high_end : Range → ℕ
high_end r = rank r.attachment r.last

-- the ranges behind it are above it, and it does not meet them
abbrev pub IsBefore : Range → List Range → Type 0
IsBefore r [] = Unit {0}
IsBefore r (s ∷ ss) = (high_end r ≤ low_end s) × (meets r s ≡ false)

-- the ranges rise, and none meets the next
abbrev pub AreRuns : List Range → Type 0
AreRuns [] = Unit {0}
AreRuns (r ∷ rs) = (r.first ≤ r.last) × IsBefore r rs × AreRuns rs

-- each of the ranges ends below the rank
abbrev pub AllBelow : ℕ → List Range → Type 0
AllBelow x [] = Unit {0}
AllBelow x (r ∷ rs) = (high_end r < x) × AllBelow x rs

-- the first of the ranges begins no lower than the rank
abbrev pub StartsFrom : ℕ → List Range → Type 0
StartsFrom x [] = Unit {0}
StartsFrom x (r ∷ rs) = x ≤ low_end r

-- the first of the ranges begins above the rank
abbrev pub StartsAbove : ℕ → List Range → Type 0
StartsAbove x [] = Unit {0}
StartsAbove x (r ∷ rs) = x < low_end r

-- the last of the ranges ends no higher than the first of the others begins
abbrev pub Seam : List Range → List Range → Type 0
Seam [] bs = Unit {0}
Seam (r ∷ []) [] = Unit {0}
Seam (r ∷ []) (s ∷ ss) = high_end r ≤ low_end s
Seam (r ∷ q ∷ rs) bs = Seam (q ∷ rs) bs

-- the ranges are parted at a place, so that those before it end below the rank and those behind it do not begin below it
pub record IsParted (ranges : List Range) (place x : ℕ) : Type 0 where
  pub within : place ≤ length ranges
  pub left : AreRuns (take place ranges)
  pub right : AreRuns (drop place ranges)
  pub below : AllBelow x (take place ranges)
  pub above : StartsFrom x (drop place ranges)

-- what is seen of a list of ranges: its pairs, and room for so many ranges
pub record Ranged : Type 0 where
  pub pairs : List (ℕ × ℕ)
  pub room : ℕ

-- the pair was between the ranges that are parted at that place
abbrev pub IsTakenOut : List Range → List Range → ℕ → ℕ × ℕ → Type 0
IsTakenOut old new place p = pairs_in old ≡ pairs_in (take place new) ++ p ∷ pairs_in (drop place new)

-- what is left of a range below a number in it
abbrev pub left_of : Range → ℕ → List Range
left_of r number = cond (nat_lt r.first number) (record r { last = number - 1 } ∷ []) []

-- what is left of a range above a number in it
abbrev pub right_of : Range → ℕ → List Range
right_of r number = cond (nat_lt number r.last) (record r { first = number + 1 } ∷ []) []

-- the pairs of entries, in order
abbrev pub sorted_by : {K V : Type 0} → (V → ℕ × ℕ) → List (K × V) → List (ℕ × ℕ)
sorted_by pair [] = []
sorted_by pair (e ∷ es) = insert_pair (pair e.1) (sorted_by pair es)

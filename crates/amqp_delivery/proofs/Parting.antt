-- Parting ranges at a pair.
use Rattle.std.specs.Prelude.{◌≡◌, ℕ, zero, suc, ◌+◌, ◌-◌, ◌*◌, ◌<◌, ◌≤◌, nat_lt, Bool, true, false, cond, List, [], ◌∷◌, ◌++◌, length, take, drop, Option, Some, None, IfSome, slice_get, refl}
use Rattle.std.proofs.Common.{ap, sym, subst, ◌∙◌, arith, append-nil, length-append, get_or}
use Rattle.std.proofs.lemmas.List.{append_assoc, take_at, take-append-drop, drop_more, take_all, drop_all, length-take-le, drop_at}
use Rattle.std.proofs.lemmas.Bool.Decides.{nat_tests}
use Rattle.amqp_delivery.specs.declared.ranges.Range.{Range}
use Rattle.amqp_delivery.specs.Ranges.{rank, rank_of, insert_pair, remove_pair, single, meets, glue, spread_from, spread, pairs_in, low_end, high_end, IsBefore, AreRuns, AllBelow, StartsFrom, StartsAbove, IsParted, IsTakenOut, left_of, right_of}
use Rattle.amqp_delivery.specs.Search.{IsSorted, NoneBelow, NoneEndsBelow}
use Rattle.amqp_delivery.proofs.Spreading.{spread_split}
use Rattle.amqp_delivery.proofs.Putting.{put_runs, put_pairs, taken_runs, taken_pairs, absent_pairs, pairs_append, runs_left, runs_right}

-- ---- ranges rise

next_from : (r : Range) (rs : List Range) → IsBefore r rs → StartsFrom (high_end r) rs
next_from r [] h = tt
next_from r (s ∷ ss) h = h.0

from_less : (x y : ℕ) (rs : List Range) → x ≤ y → StartsFrom y rs → StartsFrom x rs
from_less x y [] h hs = tt
from_less x y (r ∷ rs) h hs = omega (arith, h, hs)

each_from : (x : ℕ) (rs : List Range) → AreRuns rs → StartsFrom x rs → (j : ℕ) → IfSome (slice_get rs j) (λ s. x ≤ low_end s)
each_from x [] h hs j = tt
each_from x (r ∷ rs) h hs zero = hs
each_from x (r ∷ rs) h hs (suc j) = let hr = h.0 in each_from x rs h.2 (from_less x (high_end r) rs (omega (arith, hr, hs)) (next_from r rs h.1)) j

at_found : (x j : ℕ) (rs : List Range) (s : Range) → slice_get rs j ≡ Some s → IfSome (slice_get rs j) (λ t. x ≤ low_end t) → x ≤ low_end s
at_found x j rs s e h = let P : Option Range → Type 0 = λ o. IfSome o (λ t. x ≤ low_end t) in subst P e h

each_fits : (rs : List Range) → AreRuns rs → (j : ℕ) → IfSome (slice_get rs j) (λ s. low_end s ≤ high_end s)
each_fits [] h j = tt
each_fits (r ∷ rs) h zero = let hr = h.0 in omega (arith, hr)
each_fits (r ∷ rs) h (suc j) = each_fits rs h.2 j

later_from : (rs : List Range) → AreRuns rs → (i j : ℕ) → i < j → IfSome (slice_get rs i) (λ r. IfSome (slice_get rs j) (λ s. high_end r ≤ low_end s))
later_from [] h i j l = tt
later_from (r ∷ rs) h zero zero l = absurd (omega (arith, l))
later_from (r ∷ rs) h zero (suc j) l = each_from (high_end r) rs h.2 (next_from r rs h.1) j
later_from (r ∷ rs) h (suc i) zero l = absurd (omega (arith, l))
later_from (r ∷ rs) h (suc i) (suc j) l = later_from rs h.2 i j (omega (arith, l))

pub sorted_runs : (rs : List Range) → AreRuns rs → IsSorted rs
sorted_runs rs h = record {
  each = λ i r e. let P : Option Range → Type 0 = λ o. IfSome o (λ s. low_end s ≤ high_end s) in subst P e (each_fits rs h i);
  rise = λ i j r s l er es.
      let P : Option Range → Type 0 = λ o. IfSome o (λ r. IfSome (slice_get rs j) (λ s. high_end r ≤ low_end s)) in
      let Q : Option Range → Type 0 = λ o. IfSome o (λ s. high_end r ≤ low_end s) in
      subst Q es (subst P er (later_from rs h i j l));
}

-- ---- counts

longer : (a n k : ℕ) (ps : List (ℕ × ℕ)) → length ps + 1 ≤ length (spread_from a n (suc k) ++ ps)
longer a n zero ps = omega arith
longer a n (suc k) ps = let h = longer a (n + 1) k ps in omega (arith, h)

pub fewer_ranges : (rs : List Range) → AreRuns rs → length rs ≤ length (pairs_in rs)
fewer_ranges [] h = omega arith
fewer_ranges (r ∷ rs) h =
    let hr = h.0 in
    let count : r.last + 1 - r.first ≡ suc (r.last - r.first) = omega (arith, hr) in
    let rest = fewer_ranges rs h.2 in
    let more : length (pairs_in rs) + 1 ≤ length (spread r ++ pairs_in rs) = rw count (longer r.attachment r.first (r.last - r.first) (pairs_in rs)) in
    omega (arith, rest, more)

pub fewer_parted : (ys : List Range) (place x : ℕ) → IsParted ys place x → length ys ≤ length (pairs_in ys)
fewer_parted ys place x h =
    let ts = take place ys in
    let bs = drop place ys in
    let left = fewer_ranges ts h.left in
    let right = fewer_ranges bs h.right in
    let whole : length (pairs_in ys) ≡ length (pairs_in ts) + length (pairs_in bs) = ap length (ap pairs_in (sym (take-append-drop place ys)) ∙ pairs_append ts bs) ∙ length-append (pairs_in ts) (pairs_in bs) in
    let parts : length ys ≡ length ts + length bs = ap length (sym (take-append-drop place ys)) ∙ length-append ts bs in
    omega (arith, left, right, whole, parts)

-- ---- what a search says of the parts

pub all_below : (a n : ℕ) (rs : List Range) (place : ℕ) → NoneBelow rs a n place → AllBelow (rank a n) (take place rs)
all_below a n rs zero h = tt
all_below a n [] (suc p) h = tt
all_below a n (r ∷ rs) (suc p) h = (h zero r (omega arith) refl, all_below a n rs p (λ j s l e. h (suc j) s (omega (arith, l)) e))

pub got : (rs : List Range) (place : ℕ) (r : Range) → place < length rs → r ≡ get_or rs place r → slice_get rs place ≡ Some r
got [] place r l e = absurd (omega (arith, l))
got (s ∷ rs) zero r l e = ap (λ (x : Range). Some x) (sym e)
got (s ∷ rs) (suc p) r l e = got rs p r (omega (arith, l)) e

pub ends_from : (a n : ℕ) (rs : List Range) (place : ℕ) (r : Range) → place < length rs → r ≡ get_or rs place r → NoneEndsBelow rs a n place → rank a n ≤ high_end r
ends_from a n rs place r l e h = h place r (omega arith) (got rs place r l e)

-- the range at a place, between the parts
pub parts_at : (rs : List Range) (place : ℕ) (r : Range) → place < length rs → r ≡ get_or rs place r → rs ≡ take place rs ++ r ∷ drop (place + 1) rs
parts_at rs place r l e =
    sym (take-append-drop place rs) ∙ ap (λ (xs : List Range). take place rs ++ xs) (drop_more rs place r l) ∙ ap (λ (x : Range). take place rs ++ x ∷ drop (place + 1) rs) (sym e)

-- ---- a range that is cut

below_append : (x : ℕ) (ts bs : List Range) → AllBelow x ts → AllBelow x bs → AllBelow x (ts ++ bs)
below_append x [] bs h hb = hb
below_append x (r ∷ rs) bs h hb = (h.0, below_append x rs bs h.1 hb)

before_like : (t r l : Range) → l.attachment ≡ r.attachment → l.first ≡ r.first → (high_end t ≤ low_end r) × (meets t r ≡ false) → (high_end t ≤ low_end l) × (meets t l ≡ false)
before_like t r l ea ef h = (rw (ea, ef) h.0, rw (ea, ef) h.1)

end_cut : (ts bs : List Range) (r l : Range) → AreRuns (ts ++ r ∷ bs) → l.attachment ≡ r.attachment → l.first ≡ r.first → l.first ≤ l.last → AreRuns (ts ++ l ∷ [])
end_cut [] bs r l h ea ef hl = (hl, tt, tt)
end_cut (t ∷ []) bs r l h ea ef hl = (h.0, before_like t r l ea ef h.1, (hl, tt, tt))
end_cut (t ∷ q ∷ rs) bs r l h ea ef hl = (h.0, h.1, end_cut (q ∷ rs) bs r l h.2 ea ef hl)

start_before : (r s : Range) (bs : List Range) → IsBefore r bs → s.attachment ≡ r.attachment → s.last ≡ r.last → IsBefore s bs
start_before r s [] h ea el = tt
start_before r s (b ∷ bs) h ea el = (rw (ea, el) h.0, rw (ea, el) h.1)

start_cut : (bs : List Range) (r s : Range) → AreRuns (r ∷ bs) → s.attachment ≡ r.attachment → s.last ≡ r.last → s.first ≤ s.last → AreRuns (s ∷ bs)
start_cut bs r s h ea el hs = (hs, start_before r s bs h.1 ea el, h.2)

-- the parts of ranges that are parted, as those lists
abbrev Parts : List Range → List Range → ℕ → Type 0
Parts ts bs x = AreRuns ts × AreRuns bs × AllBelow x ts × StartsFrom x bs

pub parted_as : (ys ts bs : List Range) (place x : ℕ) → place ≤ length ys → take place ys ≡ ts → drop place ys ≡ bs → Parts ts bs x → IsParted ys place x
parted_as ys ts bs place x within et eb h = record { within = within; left = rw et h.0; right = rw eb h.1; below = rw et h.2; above = rw eb h.3 }

pub pairs_parted : (ys ts bs : List Range) (place : ℕ) → take place ys ≡ ts → drop place ys ≡ bs → pairs_in ys ≡ pairs_in ts ++ pairs_in bs
pairs_parted ys ts bs place et eb = ap pairs_in (sym (take-append-drop place ys)) ∙ pairs_append (take place ys) (drop place ys) ∙ rw (et, eb) refl

-- the pairs of a range cut before a number
spread_cut : (r : Range) (n : ℕ) → r.first < n → n ≤ r.last → spread r ≡ spread (record r { last = n - 1 }) ++ spread (record r { first = n })
spread_cut r n hf hl =
    let whole : r.last + 1 - r.first ≡ (n - r.first) + (r.last + 1 - n) = omega (arith, hf, hl) in
    let left : n - 1 + 1 - r.first ≡ n - r.first = omega (arith, hf) in
    let next : r.first + (n - r.first) ≡ n = omega (arith, hf) in
    ap (spread_from r.attachment r.first) whole ∙ spread_split r.attachment r.first (n - r.first) (r.last + 1 - n) ∙ rw (left, next) refl

-- the ranges, one of which is cut before a pair in it
pub cut_parts : (ts bs : List Range) (r : Range) (n : ℕ) → AreRuns (ts ++ r ∷ bs) → AllBelow (rank r.attachment n) ts → r.first < n → n ≤ r.last
    → Parts (ts ++ record r { last = n - 1 } ∷ []) (record r { first = n } ∷ bs) (rank r.attachment n)
cut_parts ts bs r n h below hf hl = (
  end_cut ts bs r (record r { last = n - 1 }) h refl refl (omega (arith, hf)),
  start_cut bs r (record r { first = n }) (runs_right ts (r ∷ bs) h) refl refl hl,
  below_append (rank r.attachment n) ts (record r { last = n - 1 } ∷ []) below (omega (arith, hf), tt),
  omega arith,
)

pub cut_pairs : (ts bs : List Range) (r : Range) (n : ℕ) → r.first < n → n ≤ r.last → pairs_in (ts ++ record r { last = n - 1 } ∷ []) ++ pairs_in (record r { first = n } ∷ bs) ≡ pairs_in (ts ++ r ∷ bs)
cut_pairs ts bs r n hf hl =
    let left = record r { last = n - 1 } in
    let right = record r { first = n } in
    ap (λ (xs : List (ℕ × ℕ)). xs ++ pairs_in (right ∷ bs)) (pairs_append ts (left ∷ []) ∙ ap (λ (xs : List (ℕ × ℕ)). pairs_in ts ++ xs) (append-nil (spread left)))
    ∙ append_assoc (pairs_in ts) (spread left) (spread right ++ pairs_in bs)
    ∙ ap (λ (xs : List (ℕ × ℕ)). pairs_in ts ++ xs) (sym (append_assoc (spread left) (spread right) (pairs_in bs)) ∙ ap (λ (xs : List (ℕ × ℕ)). xs ++ pairs_in bs) (sym (spread_cut r n hf hl)))
    ∙ sym (pairs_append ts (r ∷ bs))

-- ---- the pair put in

pub put_is : (p : ℕ × ℕ) (ys zs ws : List Range) (place : ℕ) → IsParted ys place (rank_of p) → zs ≡ take place ys ++ glue (single p ∷ []) (drop place ys) → ws ≡ glue (take place zs) (drop place zs)
    → AreRuns ws × (pairs_in ws ≡ insert_pair p (pairs_in ys))
put_is p ys zs ws place h ez ew =
    let ts = take place ys in
    let bs = drop place ys in
    let within = h.within in
    let size : length ts ≡ place = length-take-le place ys within in
    let et : take place zs ≡ ts = ap (take place) ez ∙ take_at ts (glue (single p ∷ []) bs) place size in
    let eb : drop place zs ≡ glue (single p ∷ []) bs = ap (drop place) ez ∙ drop_at ts (glue (single p ∷ []) bs) place size in
    let e : ws ≡ glue ts (glue (single p ∷ []) bs) = ew ∙ rw (et, eb) refl in (
      rw e (put_runs p ts bs h.left h.right h.below h.above),
      ap pairs_in e ∙ put_pairs p ts bs h.left h.right h.below h.above ∙ ap (insert_pair p) (sym (pairs_append ts bs) ∙ ap pairs_in (take-append-drop place ys)),
    )

-- ---- the pair within a range

-- where a range that does not end below a pair begins below it, the pair is in it, and not its first
pub inside : (r : Range) (a n : ℕ) → n < 4294967296 → r.last < 4294967296 → low_end r < rank a n → rank a n ≤ high_end r → (r.attachment ≡ a) × (r.first < n) × (n ≤ r.last)
inside r a n hn hl low high =
    let up : r.attachment ≤ a = omega (arith, hn, hl, low, high) in
    let down : a ≤ r.attachment = omega (arith, hn, hl, low, high) in
    let same : r.attachment ≡ a = omega (arith, up, down) in
    (same, omega (arith, same, low), omega (arith, same, high))

-- where it does not begin above it, the pair is in it
pub within : (r : Range) (a n : ℕ) → n < 4294967296 → r.last < 4294967296 → r.first < 4294967296 → low_end r ≤ rank a n → rank a n ≤ high_end r → (r.attachment ≡ a) × (r.first ≤ n) × (n ≤ r.last)
within r a n hn hl hf low high =
    let up : r.attachment ≤ a = omega (arith, hn, hl, low, high) in
    let down : a ≤ r.attachment = omega (arith, hn, hl, low, high) in
    let same : r.attachment ≡ a = omega (arith, up, down) in
    (same, omega (arith, same, low), omega (arith, same, high))

-- ---- parted at a place without a cut

pub cut_end : (a n : ℕ) (xs : List Range) (place : ℕ) → AreRuns xs → place ≡ length xs → NoneBelow xs a n place → IsParted xs place (rank a n)
cut_end a n xs place h e below =
    let all : take place xs ≡ xs = take_all place xs (omega (arith, e)) in
    let none : drop place xs ≡ [] = drop_all place xs (omega (arith, e)) in
    parted_as xs xs [] place (rank a n) (omega (arith, e)) all none (h, tt, let P : List Range → Type 0 = AllBelow (rank a n) in subst P all (all_below a n xs place below), tt)

pub cut_here : (a n : ℕ) (xs : List Range) (place : ℕ) (r : Range) → AreRuns xs → place < length xs → r ≡ get_or xs place r → NoneBelow xs a n place → rank a n ≤ low_end r → IsParted xs place (rank a n)
cut_here a n xs place r h l e below low =
    let ts = take place xs in
    let bs = drop (place + 1) xs in
    let parts = parts_at xs place r l e in
    let runs : AreRuns (ts ++ r ∷ bs) = let P : List Range → Type 0 = AreRuns in subst P parts h in
    let rest : drop place xs ≡ r ∷ bs = drop_more xs place r l ∙ ap (λ (x : Range). x ∷ bs) (sym e) in
    parted_as xs ts (r ∷ bs) place (rank a n) (omega (arith, l)) refl rest (runs_left ts (r ∷ bs) runs, runs_right ts (r ∷ bs) runs, all_below a n xs place below, low)

-- ---- parted by a cut

pub cut_inside : (a n : ℕ) (xs ys : List Range) (place : ℕ) (r : Range) → AreRuns xs → place < length xs → r ≡ get_or xs place r → NoneBelow xs a n place → r.attachment ≡ a → r.first < n → n ≤ r.last
    → place + 1 ≤ length ys → take (place + 1) ys ≡ take place xs ++ record r { last = n - 1 } ∷ [] → drop (place + 1) ys ≡ record r { first = n } ∷ drop (place + 1) xs
    → IsParted ys (place + 1) (rank a n) × (pairs_in ys ≡ pairs_in xs)
cut_inside a n xs ys place r h l e below ea hf hl size et eb =
    let ts = take place xs in
    let bs = drop (place + 1) xs in
    let parts = parts_at xs place r l e in
    let runs : AreRuns (ts ++ r ∷ bs) = let P : List Range → Type 0 = AreRuns in subst P parts h in
    let under : AllBelow (rank r.attachment n) ts = rw ea (all_below a n xs place below) in
    let cut = cut_parts ts bs r n runs under hf hl in
    let P : ℕ → Type 0 = λ b. IsParted ys (place + 1) (rank b n) in (
      subst P ea (parted_as ys (ts ++ record r { last = n - 1 } ∷ []) (record r { first = n } ∷ bs) (place + 1) (rank r.attachment n) size et eb cut),
      pairs_parted ys (ts ++ record r { last = n - 1 } ∷ []) (record r { first = n } ∷ bs) (place + 1) et eb ∙ cut_pairs ts bs r n hf hl ∙ ap pairs_in (sym parts),
    )

-- ---- a pair that is in no range

pub absent_end : (a n : ℕ) (xs : List Range) (place : ℕ) → AreRuns xs → place ≡ length xs → NoneBelow xs a n place → remove_pair (a, n) (pairs_in xs) ≡ pairs_in xs
absent_end a n xs place h e below =
    let parted = cut_end a n xs place h e below in
    let all : take place xs ≡ xs = take_all place xs (omega (arith, e)) in
    let under : AllBelow (rank a n) xs = let P : List Range → Type 0 = AllBelow (rank a n) in subst P all parted.below in
    ap (remove_pair (a, n)) (sym (append-nil (pairs_in xs))) ∙ absent_pairs (a, n) xs [] h tt under tt ∙ append-nil (pairs_in xs)

pub absent_above : (a n : ℕ) (xs : List Range) (place : ℕ) (r : Range) → AreRuns xs → place < length xs → r ≡ get_or xs place r → NoneBelow xs a n place → rank a n < low_end r → remove_pair (a, n) (pairs_in xs) ≡ pairs_in xs
absent_above a n xs place r h l e below low =
    let ts = take place xs in
    let bs = drop (place + 1) xs in
    let parts = parts_at xs place r l e in
    let runs : AreRuns (ts ++ r ∷ bs) = let P : List Range → Type 0 = AreRuns in subst P parts h in
    let whole : pairs_in xs ≡ pairs_in ts ++ pairs_in (r ∷ bs) = ap pairs_in parts ∙ pairs_append ts (r ∷ bs) in
    ap (remove_pair (a, n)) whole ∙ absent_pairs (a, n) ts (r ∷ bs) (runs_left ts (r ∷ bs) runs) (runs_right ts (r ∷ bs) runs) (all_below a n xs place below) low ∙ sym whole

-- ---- a pair taken out of the range that holds it

less_by : (m n : ℕ) → nat_lt m n ≡ true → m < n
less_by m n e = grind (arith, nat_tests, e)

not_less_by : (m n : ℕ) → nat_lt m n ≡ false → n ≤ m
not_less_by m n e = grind (arith, nat_tests, e)

abbrev left_if : Bool → Range → ℕ → List Range
left_if b r n = cond b (record r { last = n - 1 } ∷ []) []

abbrev right_if : Bool → Range → ℕ → List Range
right_if b r n = cond b (record r { first = n + 1 } ∷ []) []

left_runs : (b : Bool) (ts bs : List Range) (r : Range) (n : ℕ) → nat_lt r.first n ≡ b → AreRuns (ts ++ r ∷ bs) → AreRuns (ts ++ left_if b r n)
left_runs true ts bs r n e h = let hf = less_by r.first n e in end_cut ts bs r (record r { last = n - 1 }) h refl refl (omega (arith, hf))
left_runs false ts bs r n e h = rw (append-nil ts) (runs_left ts (r ∷ bs) h)

left_below : (b : Bool) (ts : List Range) (r : Range) (n : ℕ) → nat_lt r.first n ≡ b → AllBelow (rank r.attachment n) ts → AllBelow (rank r.attachment n) (ts ++ left_if b r n)
left_below true ts r n e h = let hf = less_by r.first n e in below_append (rank r.attachment n) ts (record r { last = n - 1 } ∷ []) h (omega (arith, hf), tt)
left_below false ts r n e h = rw (append-nil ts) h

right_runs : (b : Bool) (bs : List Range) (r : Range) (n : ℕ) → nat_lt n r.last ≡ b → AreRuns (r ∷ bs) → AreRuns (right_if b r n ++ bs)
right_runs true bs r n e h = let hl = less_by n r.last e in start_cut bs r (record r { first = n + 1 }) h refl refl (omega (arith, hl))
right_runs false bs r n e h = h.2

right_from : (b : Bool) (bs : List Range) (r : Range) (n : ℕ) → nat_lt n r.last ≡ b → n ≤ r.last → AreRuns (r ∷ bs) → StartsFrom (rank r.attachment n) (right_if b r n ++ bs)
right_from true bs r n e hn h = omega arith
right_from false bs r n e hn h = from_less (rank r.attachment n) (high_end r) bs (omega (arith, hn)) (next_from r bs h.1)

left_pairs : (b : Bool) (r : Range) (n : ℕ) → nat_lt r.first n ≡ b → r.first ≤ n → pairs_in (left_if b r n) ≡ spread_from r.attachment r.first (n - r.first)
left_pairs true r n e hf =
    let less = less_by r.first n e in
    let count : n - 1 + 1 - r.first ≡ n - r.first = omega (arith, less) in
    append-nil (spread (record r { last = n - 1 })) ∙ ap (spread_from r.attachment r.first) count
left_pairs false r n e hf =
    let most = not_less_by r.first n e in
    let count : n - r.first ≡ 0 = omega (arith, most) in
    sym (ap (spread_from r.attachment r.first) count)

right_pairs : (b : Bool) (r : Range) (n : ℕ) → nat_lt n r.last ≡ b → n ≤ r.last → pairs_in (right_if b r n) ≡ spread_from r.attachment (n + 1) (r.last - n)
right_pairs true r n e hl =
    let count : r.last + 1 - (n + 1) ≡ r.last - n = omega arith in
    append-nil (spread (record r { first = n + 1 })) ∙ ap (spread_from r.attachment (n + 1)) count
right_pairs false r n e hl =
    let most = not_less_by n r.last e in
    let count : r.last - n ≡ 0 = omega (arith, most) in
    sym (ap (spread_from r.attachment (n + 1)) count)

range_pairs : (r : Range) (n : ℕ) → r.first ≤ n → n ≤ r.last → spread r ≡ pairs_in (left_of r n) ++ (r.attachment, n) ∷ pairs_in (right_of r n)
range_pairs r n hf hl =
    let whole : r.last + 1 - r.first ≡ (n - r.first) + suc (r.last - n) = omega (arith, hf, hl) in
    let next : r.first + (n - r.first) ≡ n = omega (arith, hf) in
    ap (spread_from r.attachment r.first) whole
    ∙ spread_split r.attachment r.first (n - r.first) (suc (r.last - n))
    ∙ ap (λ (m : ℕ). spread_from r.attachment r.first (n - r.first) ++ (r.attachment, m) ∷ spread_from r.attachment (m + 1) (r.last - n)) next
    ∙ rw (left_pairs (nat_lt r.first n) r n refl hf, right_pairs (nat_lt n r.last) r n refl hl) refl

taken_out : (ts bs : List Range) (r : Range) (n : ℕ) → r.first ≤ n → n ≤ r.last → pairs_in (ts ++ r ∷ bs) ≡ pairs_in (ts ++ left_of r n) ++ (r.attachment, n) ∷ pairs_in (right_of r n ++ bs)
taken_out ts bs r n hf hl =
    let p : ℕ × ℕ = (r.attachment, n) in
    let ls = left_of r n in
    let rs = right_of r n in
    pairs_append ts (r ∷ bs)
    ∙ ap (λ (xs : List (ℕ × ℕ)). pairs_in ts ++ (xs ++ pairs_in bs)) (range_pairs r n hf hl)
    ∙ ap (λ (xs : List (ℕ × ℕ)). pairs_in ts ++ xs) (append_assoc (pairs_in ls) (p ∷ pairs_in rs) (pairs_in bs))
    ∙ sym (append_assoc (pairs_in ts) (pairs_in ls) (p ∷ (pairs_in rs ++ pairs_in bs)))
    ∙ rw (pairs_append ts ls, pairs_append rs bs) refl

pub take_inside : (a n : ℕ) (xs ys : List Range) (place seam : ℕ) (r : Range) → AreRuns xs → place < length xs → r ≡ get_or xs place r → NoneBelow xs a n place → r.attachment ≡ a → r.first ≤ n → n ≤ r.last
    → seam ≤ length ys → take seam ys ≡ take place xs ++ left_of r n → drop seam ys ≡ right_of r n ++ drop (place + 1) xs
    → IsParted ys seam (rank a n) × IsTakenOut xs ys seam (a, n)
take_inside a n xs ys place seam r h l e below ea hf hl size et eb =
    let ts = take place xs in
    let bs = drop (place + 1) xs in
    let parts = parts_at xs place r l e in
    let runs : AreRuns (ts ++ r ∷ bs) = let P : List Range → Type 0 = AreRuns in subst P parts h in
    let last = runs_right ts (r ∷ bs) runs in
    let under : AllBelow (rank r.attachment n) ts = rw ea (all_below a n xs place below) in
    let P : ℕ → Type 0 = λ b. IsParted ys seam (rank b n) in
    let Q : ℕ → Type 0 = λ b. IsTakenOut xs ys seam (b, n) in (
      subst P ea (parted_as ys (ts ++ left_of r n) (right_of r n ++ bs) seam (rank r.attachment n) size et eb
          (left_runs (nat_lt r.first n) ts bs r n refl runs, right_runs (nat_lt n r.last) bs r n refl last, left_below (nat_lt r.first n) ts r n refl under, right_from (nat_lt n r.last) bs r n refl hl last)),
      subst Q ea (ap pairs_in parts ∙ taken_out ts bs r n hf hl ∙ rw (et, eb) refl),
    )

pub taken_is : (p : ℕ × ℕ) (xs ys ws : List Range) (place : ℕ) → IsParted ys place (rank_of p) → IsTakenOut xs ys place p → ws ≡ glue (take place ys) (drop place ys) → AreRuns ws × (pairs_in ws ≡ remove_pair p (pairs_in xs))
taken_is p xs ys ws place h t ew = (
  rw ew (taken_runs (rank_of p) (take place ys) (drop place ys) h.left h.right h.below h.above),
  ap pairs_in ew ∙ taken_pairs p (take place ys) (drop place ys) h.left h.right h.below ∙ ap (remove_pair p) (sym t),
)

-- The first handle that is free.
use Rattle.std.proofs.Common.{◌≡◌, ◌⊎◌, inl, inr, ◌∙◌, ap, refl, arith, ℕ, zero, suc, ◌+◌, ◌<◌, ◌≤◌, Bool, true, false, cond, not, List, Option, Some, None}
use Rattle.std.proofs.lemmas.Bool.{cases_order}
use Rattle.std.specs.List.{find, range_with_len}
use Rattle.amqp_link_tables.specs.declared.handles.Held.{Held}
use Rattle.amqp_link_tables.specs.Handles.{is_held, IsLowestFree, lowest_free}

from : ℕ → ℕ → List (ℕ × Held) → Option ℕ
from a n hs = find (λ h. not (is_held h hs)) (range_with_len a n)

step : (a n : ℕ) (hs : List (ℕ × Held)) (b : Bool) → is_held a hs ≡ b → from a (suc n) hs ≡ cond (not b) (Some a) (from (a + 1) n hs)
unfolding from
step a n hs b e = ap (λ c. cond (not c) (Some a) (find (λ h. not (is_held h hs)) (range_with_len (a + 1) n))) e

found : (hs : List (ℕ × Held)) (r : ℕ) → IsLowestFree r hs → (n a : ℕ) → a ≤ r → r < a + n → from a n hs ≡ Some r
found hs r p zero a up within = absurd (omega arith)
found hs r p (suc n) a up within = by (cases_order a r) (λ less. found hs r p n (a + 1) (omega arith) (omega arith))
  where
    by : (a ≡ r) ⊎ ((a < r) ⊎ (r < a)) → (a < r → from (a + 1) n hs ≡ Some r) → from a (suc n) hs ≡ Some r
    by (inl e) rest = step a n hs false (ap (λ k. is_held k hs) e ∙ p.0) ∙ ap (λ k. Some k) e
    by (inr (inl less)) rest = step a n hs true (p.1 a less) ∙ rest less
    by (inr (inr more)) rest = absurd (omega arith)

not_found : (hs : List (ℕ × Held)) (r : ℕ) → IsLowestFree r hs → (n a : ℕ) → a + n ≤ r → from a n hs ≡ None
unfolding from
not_found hs r p zero a above = refl
not_found hs r p (suc n) a above = step a n hs true (p.1 a (omega arith)) ∙ not_found hs r p n (a + 1) (omega arith)

pub lowest_within : (hs : List (ℕ × Held)) (r max : ℕ) → IsLowestFree r hs → r ≤ max → lowest_free max hs ≡ Some r
unfolding from
lowest_within hs r max p within = found hs r p (max + 1) 0 (omega arith) (omega arith)

pub lowest_above : (hs : List (ℕ × Held)) (r max : ℕ) → IsLowestFree r hs → max < r → lowest_free max hs ≡ None
unfolding from
lowest_above hs r max p above = not_found hs r p (max + 1) 0 (omega arith)

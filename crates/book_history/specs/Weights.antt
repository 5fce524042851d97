-- The unsettled deliveries of a book, weighed by their tags.
use Rattle.std.specs.Prelude.{ℕ, ◌≤◌, cond, List}
use Rattle.std.specs.List.{sum_by}
use Rattle.std.specs.Str.{bytes_eq}
use Rattle.amqp_delivery.specs.declared.entry.Kept.{Kept}

-- entries weighed by their tags
abbrev pub weigh : (List ℕ → ℕ) → List (List ℕ × Kept) → ℕ
weigh w es = sum_by (λ p. w p.0) es

-- 1 for this tag
abbrev pub is_tag : List ℕ → List ℕ → ℕ
is_tag t k = cond (bytes_eq t k) 1 0

-- no tag stands twice
abbrev pub IsApart : List (List ℕ × Kept) → Type 0
IsApart es = (t : List ℕ) → weigh (is_tag t) es ≤ 1

-- The handles of this end (OASIS AMQP 1.0, part 2, section 2.6.2).
use Rattle.std.specs.Prelude.{◌≡◌, ℕ, ◌+◌, ◌<◌, Bool, true, false, not, nat_eq, List, Option, is_some}
use Rattle.std.specs.List.{find, range_with_len}
use Rattle.std.specs.Map.{lookup}
use Rattle.amqp_link_tables.specs.declared.handles.Held.{Held}

-- whether a link has that handle
abbrev pub is_held : ℕ → List (ℕ × Held) → Bool
is_held handle hs = is_some (lookup (nat_eq handle) hs)

-- no link has it, and a link has each one below it
abbrev pub IsLowestFree : ℕ → List (ℕ × Held) → Type 0
IsLowestFree handle hs = (is_held handle hs ≡ false) × ((below : ℕ) → below < handle → is_held below hs ≡ true)

-- the first handle from 0 up to that one that no link has
abbrev pub lowest_free : ℕ → List (ℕ × Held) → Option ℕ
lowest_free max hs = find (λ handle. not (is_held handle hs)) (range_with_len 0 (max + 1))

-- What is kept of the handles of this end, so that the lowest free one is at hand.
use Rattle.std.specs.Prelude.{◌≡◌, ℕ, ◌+◌, ◌<◌, ◌≤◌, ◌^◌, Bool, true, false, nat_eq, nat_lt, List, length}
use Rattle.std.specs.List.{count_by}
use Rattle.std.specs.Ordering.{nat_cmp}
use Rattle.std.specs.declared.cmp.Ordering.{Ordering}
use Rattle.std.specs.declared.cmp.Reverse.{Reverse}
use Rattle.std.specs.BinaryHeap.{IsHeap, heap_items, heap_len, heap_capacity}
use Rattle.amqp_link_tables.specs.declared.handles.Held.{Held}
use Rattle.amqp_link_tables.specs.declared.handles.Handles.TheInside.{Inside}
use Rattle.amqp_link_tables.specs.Handles.{is_held}

-- the greater number is less, so that the lowest one is the heap's first
abbrev pub lowest_first : Reverse ℕ → Reverse ℕ → Ordering
lowest_first x y = nat_cmp y.0 x.0

-- how often a handle stands in the heap
abbrev pub times : ℕ → List (Reverse ℕ) → ℕ
times handle xs = count_by (λ x. nat_eq handle x.0) xs

-- how often it is to stand there: once, where it was used and no link has it
abbrev pub due : Bool → Bool → ℕ
due false held = 0
due true true = 0
due true false = 1

-- each handle below `fresh` was used, and each that a link has lies there; those of them that are free stand in the heap
pub record IsAccount (xs : List (Reverse ℕ)) (fresh : ℕ) (hs : List (ℕ × Held)) : Type 0 where
  pub each : (handle : ℕ) → times handle xs ≡ due (nat_lt handle fresh) (is_held handle hs)
  pub used : (handle : ℕ) → is_held handle hs ≡ true → handle < fresh
  pub few : fresh ≤ 2 ^ 32

-- the heap has room for the handles that are in use
abbrev pub IsSound : Inside → Type 0
IsSound p = IsAccount (heap_items p.freed) p.fresh p.held.entries
    × IsHeap lowest_first (heap_items p.freed)
    × (heap_len p.freed + length p.held.entries ≤ heap_capacity p.freed)

-- What is kept of the channels of this end, so that the lowest free one is at hand.
use Rattle.std.specs.Prelude.{◌≡◌, ℕ, ◌+◌, ◌≤◌, Bool, true, false, nat_eq, List, slice_index_or}
use Rattle.std.specs.List.{count_by}
use Rattle.std.specs.Ordering.{nat_cmp}
use Rattle.std.specs.declared.cmp.Ordering.{Ordering}
use Rattle.std.specs.declared.cmp.Reverse.{Reverse}
use Rattle.std.specs.BinaryHeap.{IsHeap, heap_items, heap_len, heap_capacity}
use Rattle.amqp_engine.specs.declared.seats.Seats.TheInside.{Inside}

-- the greater number is less, so that the lowest one is the heap's first
abbrev pub lowest_first : Reverse ℕ → Reverse ℕ → Ordering
lowest_first x y = nat_cmp y.0 x.0

-- how often a channel stands in the heap
abbrev pub times : ℕ → List (Reverse ℕ) → ℕ
times channel xs = count_by (λ x. nat_eq channel x.0) xs

-- how often it is to stand there: once, where it was taken and is free
abbrev pub due : Bool → ℕ
due true = 0
due false = 1

abbrev pub IsAccount : List (Reverse ℕ) → List Bool → Type 0
IsAccount xs seats = (channel : ℕ) → times channel xs ≡ due (slice_index_or seats channel true)

-- how many channels are taken
abbrev pub occupied : List Bool → ℕ
occupied seats = count_by (λ taken. taken) seats

-- the heap has room for the channels that are taken
abbrev pub IsSound : Inside → Type 0
IsSound p = IsAccount (heap_items p.freed) p.taken.items
    × IsHeap lowest_first (heap_items p.freed)
    × (heap_len p.freed + occupied p.taken.items ≤ heap_capacity p.freed)

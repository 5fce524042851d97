-- Deliveries by their numbers, which are modulo 2^32 (OASIS AMQP 1.0, part 2, section 2.8.9; RFC 1982, section 3).
use Rattle.std.specs.Prelude.{◌≡◌, ℕ, ◌+◌, ◌-◌, ◌%◌, ◌^◌, ◌<◌, ◌&&◌, Bool, nat_eq, nat_le, List, ◌++◌, Option, is_some, if◌then◌else◌}
use Rattle.std.specs.List.{filter, count_by, IsDistinct}
use Rattle.std.specs.List.Sorted.{IsStrictlySortedBy}
use Rattle.std.specs.Map.{lookup, keys_of, remove_entry}
use Rattle.std.specs.Ordering.{nat_cmp}
use Rattle.std.specs.BTreeMap.{insert_entry}
use Rattle.amqp_link_tables.specs.declared.deliveries.Delivered.{Delivered}
use Rattle.amqp_link_tables.specs.declared.deliveries.DeliveryTable.{DeliveryTable}

-- in the order of their numbers
abbrev pub deliveries_in : DeliveryTable → List (ℕ × Delivered)
deliveries_in t = t.deliveries.entries

-- a delivery has that number
abbrev pub entered : ℕ → Delivered → List (ℕ × Delivered) → List (ℕ × Delivered)
entered id delivery ds = insert_entry nat_cmp ds id delivery

-- the delivery of that number
abbrev pub delivery_of : ℕ → List (ℕ × Delivered) → Option Delivered
delivery_of id ds = lookup (nat_eq id) ds

-- no delivery has that number
abbrev pub forgotten : ℕ → List (ℕ × Delivered) → List (ℕ × Delivered)
forgotten id ds = remove_entry (nat_eq id) ds

-- no number stands twice
abbrev pub AreApart : List (ℕ × Delivered) → Type 0
AreApart ds = IsDistinct nat_eq (keys_of ds)

-- each number is below those after it
abbrev pub AreInOrder : List (ℕ × Delivered) → Type 0
AreInOrder ds = IsStrictlySortedBy nat_cmp (keys_of ds)

-- how far a number is ahead of the first
abbrev pub ahead : ℕ → ℕ → ℕ
ahead first number = (number + (2 ^ 32 - first)) % 2 ^ 32

-- whether a number is one from the first to the last
abbrev pub is_within : ℕ → ℕ → ℕ → Bool
is_within first last number = nat_le (ahead first number) (ahead first last)

-- whether a delivery has that number
abbrev pub is_there : List (ℕ × Delivered) → ℕ → Bool
is_there ds number = is_some (lookup (nat_eq number) ds)

-- the numbers that have a delivery, of those from the first to the last
abbrev pub numbers_between : ℕ → ℕ → List (ℕ × Delivered) → List ℕ
numbers_between first last ds = filter (λ n. nat_le first n && nat_le n last) (keys_of ds)

-- of those from the first on
abbrev pub numbers_from : ℕ → List (ℕ × Delivered) → List ℕ
numbers_from first ds = filter (nat_le first) (keys_of ds)

-- of those up to the last
abbrev pub numbers_up_to : ℕ → List (ℕ × Delivered) → List ℕ
numbers_up_to last ds = filter (λ n. nat_le n last) (keys_of ds)

-- the one behind the other
abbrev pub numbers_around : ℕ → ℕ → List (ℕ × Delivered) → List ℕ
numbers_around first last ds = numbers_from first ds ++ numbers_up_to last ds

-- the numbers from the first to the last, in that order, that have a delivery: the range goes round 2^32 where its last is below its first
abbrev pub covered : ℕ → ℕ → List (ℕ × Delivered) → List ℕ
covered first last ds = if nat_le first last then numbers_between first last ds else numbers_around first last ds

-- a number stands there once if a delivery has it and it is one from the first to the last, and else not at all
abbrev pub IsCover : ℕ → ℕ → List (ℕ × Delivered) → List ℕ → Type 0
IsCover first last ds numbers =
    (n : ℕ) → n < 2 ^ 32 → count_by (nat_eq n) numbers ≡ (if is_within first last n && is_there ds n then 1 else 0)

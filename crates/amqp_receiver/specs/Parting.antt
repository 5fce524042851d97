-- How a receiver is attached again so that it may be closed (OASIS AMQP 1.0, part 2, sections 2.6.3 to 2.6.6).
use Rattle.std.specs.Prelude.{◌≡◌, ℕ, zero, suc, List, [], ◌∷◌, ◌++◌, length, slice_get, Option, Some, None}
use Rattle.amqp_termini.specs.declared.unsettled.UnsettledDelivery.{UnsettledDelivery}
use Rattle.amqp_delivery.specs.declared.entry.Kept.{Kept}
use Rattle.amqp_link.specs.Parting as link
use Rattle.amqp_receiver.specs.Receiver.{State}

-- what the Attach says of a delivery: its tag, and what was said of it; there is one at each place of the book
abbrev pub told_of : Option (List ℕ × Kept) → UnsettledDelivery
told_of None = record { delivery_tag = []; state = None }
told_of (Some e) = record { delivery_tag = e.0; state = e.1.state }

abbrev pub told_at : List (List ℕ × Kept) → ℕ → UnsettledDelivery
told_at entries place = told_of (slice_get entries place)

-- what the Attach says of so many deliveries, from the first
abbrev pub told_below : List (List ℕ × Kept) → ℕ → List UnsettledDelivery
told_below entries zero = []
told_below entries (suc n) = told_below entries n ++ told_at entries n ∷ []

-- the deliveries that are not settled, in the order of the book
abbrev pub all_told : List (List ℕ × Kept) → List UnsettledDelivery
all_told entries = told_below entries (length entries)

abbrev pub unsettled_of : State → List UnsettledDelivery
unsettled_of s = all_told s.book.entries

-- an Attach of a link without such deliveries has no map of them
abbrev pub map_of : List UnsettledDelivery → Option (List UnsettledDelivery)
map_of [] = None
map_of (x ∷ xs) = Some (x ∷ xs)

abbrev pub reattached : ℕ → State → State
reattached handle s = record s { link = link.reattached handle (map_of (unsettled_of s)) None s.link }

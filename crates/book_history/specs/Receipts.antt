-- Receipts in a history.
use Rattle.std.specs.Prelude.{◌≡◌, ◌≢◌, ℕ, ◌+◌, ◌<◌, ◌≤◌, ◌⊎◌, List, [], ◌∷◌, slice_get, Option, Some}
use Rattle.amqp_delivery.specs.declared.orders.Order.{Order}
use Rattle.amqp_delivery.specs.declared.calls.BookCall.{BookCall}
use Rattle.amqp_delivery.specs.declared.calls.BookCall.TheVariants.{Register, Accept, Release, TakeOrders}
use Rattle.amqp_delivery.specs.Step.{Reply, orders}
use Rattle.book_history.specs.History.{Event}
use Rattle.book_history.specs.declared.entry.Receipt.{Receipt}

-- the receipt is of this call from this seat
abbrev pub IsOf : ℕ → BookCall → Receipt → Type 0
IsOf seat call r = (r.entry.seat ≡ seat) × (r.entry.call ≡ call)

-- a taking of orders hands out those of its reply
abbrev pub HandsOut : BookCall → Reply → List Order → Type 0
HandsOut (Register info) reply list = Unit {0}
HandsOut (Accept view info) reply list = Unit {0}
HandsOut (Release view info) reply list = Unit {0}
HandsOut TakeOrders reply list = reply ≡ orders list

-- each receipt's entry stands at its place, and the places rise from low
abbrev pub Stand : ℕ → List Event → List Receipt → Type 0
Stand low history [] = Unit {0}
Stand low history (r ∷ rs) = (low ≤ r.place) × (slice_get history r.place ≡ Some r.entry) × Stand (r.place + 1) history rs

-- one more than the place of the last receipt, or 0
abbrev pub next_place : List Receipt → ℕ
next_place [] = 0
next_place (r ∷ []) = r.place + 1
next_place (r ∷ s ∷ rs) = next_place (s ∷ rs)

-- How often a delivery is settled.
use Rattle.std.specs.Prelude.{◌≡◌, ◌≢◌, ℕ, ◌+◌, Bool, true, false, cond, nat_le, ◌&&◌, ◌⊎◌, List, [], ◌∷◌, ◌++◌, length, drop, slice_get, None, Some}
use Rattle.amqp_composites.specs.declared.modes.ReceiverSettleMode.TheVariants.{First}
use Rattle.amqp_delivery.specs.Book.{Book, found_in, mode_for}
use Rattle.amqp_delivery.specs.Step.{step}
use Rattle.amqp_delivery.specs.declared.orders.Order.{Order}
use Rattle.amqp_delivery.specs.declared.orders.Order.TheVariants.{Disposition, Flow}
use Rattle.amqp_delivery.specs.declared.calls.BookCall.{BookCall}
use Rattle.amqp_delivery.specs.declared.calls.BookCall.TheVariants.{Register, Accept, Release, TakeOrders}
use Rattle.amqp_delivery.specs.declared.info.DeliveryInfo.{DeliveryInfo}
use Rattle.book_history.specs.History.{Event}

-- the orders that a call makes
abbrev pub made_by : Book → BookCall → List Order
made_by b call = drop (length b.orders) (step b call).book.orders

-- the orders that the steps of a history make
abbrev pub made_orders : Book → List Event → List Order
made_orders b [] = []
made_orders b (e ∷ es) = made_by b e.call ++ made_orders (step b e.call).book es

-- 1 for a settled Disposition of the delivery with this number
abbrev pub settles_number : ℕ → Order → ℕ
settles_number n (Disposition first last true state) = cond (nat_le first n && nat_le n last) 1 0
settles_number n (Disposition first last false state) = 0
settles_number n (Flow delivery_count credit) = 0

abbrev pub count_number : ℕ → List Order → ℕ
count_number n [] = 0
count_number n (o ∷ os) = settles_number n o + count_number n os

-- the delivery has another tag and another number
abbrev pub IsApartFrom : DeliveryInfo → DeliveryInfo → Type 0
IsApartFrom info other = (other.delivery_tag ≢ info.delivery_tag) × (other.delivery_id ≢ info.delivery_id)

-- the call is not of this delivery
abbrev pub IsElse : DeliveryInfo → BookCall → Type 0
IsElse info (Register other) = IsApartFrom info other
IsElse info (Accept view other) = IsApartFrom info other
IsElse info (Release view other) = IsApartFrom info other
IsElse info TakeOrders = Unit {0}

-- the call disposes of this delivery in mode First
abbrev pub Disposes : DeliveryInfo → BookCall → Type 0
Disposes info (Register other) = ⊥
Disposes info (Accept view other) = (other ≡ info) × (mode_for view info ≡ First)
Disposes info (Release view other) = (other ≡ info) × (mode_for view info ≡ First)
Disposes info TakeOrders = ⊥

-- none of these registers this delivery, and each disposal of it is in mode First
abbrev pub AllDispose : DeliveryInfo → List Event → Type 0
AllDispose info [] = Unit {0}
AllDispose info (e ∷ es) = (IsElse info e.call ⊎ Disposes info e.call) × AllDispose info es

-- a history registers a delivery once, and disposes of it later, in mode First
pub record RegistersOnce (info : DeliveryInfo) (before : List Event) (entry : Event) (later : List Event) : Type 0 where
  pub before_dispose : AllDispose info before
  pub registers : entry.call ≡ Register info
  pub later_dispose : AllDispose info later
  pub place : ℕ
  pub disposal : Event
  pub at : slice_get later place ≡ Some disposal
  pub disposes : Disposes info disposal.call

-- from a book without that delivery, such a history makes exactly one settled Disposition of it
abbrev pub IsSettledOnce : Type 0
IsSettledOnce = (b : Book) (info : DeliveryInfo) (before : List Event) (entry : Event) (later : List Event) → found_in b info.delivery_tag ≡ None → RegistersOnce info before entry later → count_number info.delivery_id (made_orders b (before ++ entry ∷ later)) ≡ 1

-- Orders group as calls do.
use Rattle.std.specs.Prelude.{◌≡◌, List, [], ◌∷◌, ◌++◌, map}
use Rattle.amqp_delivery.specs.States.{accepted, released}
use Rattle.amqp_delivery.specs.Book.{Book}
use Rattle.amqp_delivery.specs.Step.{Reply, done, orders, stale}
use Rattle.amqp_delivery.specs.declared.orders.Order.{Order}
use Rattle.amqp_delivery.specs.declared.calls.BookCall.{BookCall}
use Rattle.amqp_delivery.specs.declared.calls.BookCall.TheVariants.{Register, Accept, Release, TakeOrders}
use Rattle.book_history.specs.History.{Event, Replays}
use Rattle.book_laws.specs.Lives.{Deed, registers, disposes, takes_orders, after_all, handed_all, AllOrder, all_of}

-- whatever calls are made of a book: what the takings of orders hand out, and what is left, is what the book had, and
-- then a group of orders for each call, in the order of the calls
abbrev pub OrdersGroup : Type 0
OrdersGroup = (b : Book) (deeds : List Deed) → (groups : List (List Order)) × AllOrder b deeds groups
    × (handed_all b deeds ++ (after_all b deeds).orders ≡ b.orders ++ all_of groups)

-- the call of a history
abbrev pub deed_of : BookCall → Deed
deed_of (Register info) = registers info
deed_of (Accept view info) = disposes view info accepted
deed_of (Release view info) = disposes view info released
deed_of TakeOrders = takes_orders

abbrev pub deeds_of : List Event → List Deed
deeds_of h = map (λ e. deed_of e.call) h

-- the orders of a reply
abbrev pub orders_in : Reply → List Order
orders_in (done found refilled) = []
orders_in (orders list) = list
orders_in stale = []

abbrev pub replied : List Event → List Order
replied [] = []
replied (e ∷ es) = orders_in e.reply ++ replied es

-- the same of a history: the orders in its replies, and those that the last book has left
abbrev pub HistoriesGroup : Type 0
HistoriesGroup = (b c : Book) (h : List Event) → Replays b h c → (groups : List (List Order)) × AllOrder b (deeds_of h) groups
    × (replied h ++ c.orders ≡ b.orders ++ all_of groups)

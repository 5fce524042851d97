-- What a history counts.
use Rattle.std.specs.Prelude.{ℕ, ◌+◌, true, false, List, [], ◌∷◌}
use Rattle.amqp_delivery.specs.Book.{Book}
use Rattle.amqp_delivery.specs.declared.orders.Order.{Order}
use Rattle.amqp_delivery.specs.declared.orders.Order.TheVariants.{Disposition, Flow}
use Rattle.amqp_delivery.specs.declared.calls.BookCall.{BookCall}
use Rattle.amqp_delivery.specs.declared.calls.BookCall.TheVariants.{Register, Accept, Release, TakeOrders}
use Rattle.amqp_delivery.specs.Step.{Reply, done, orders, stale}
use Rattle.book_history.specs.History.{Event}

abbrev pub accepts : BookCall → ℕ
accepts (Register info) = 0
accepts (Accept view info) = 1
accepts (Release view info) = 0
accepts TakeOrders = 0

-- how many entries accept a delivery
abbrev pub accept_count : List Event → ℕ
accept_count [] = 0
accept_count (e ∷ es) = accepts e.call + accept_count es

abbrev pub settles : Order → ℕ
settles (Disposition first last true state) = 1
settles (Disposition first last false state) = 0
settles (Flow delivery_count credit) = 0

-- how many settled Dispositions stand among these orders
abbrev pub settled_count : List Order → ℕ
settled_count [] = 0
settled_count (o ∷ os) = settles o + settled_count os

abbrev pub handed_in : Reply → ℕ
handed_in (done found refilled) = 0
handed_in (orders list) = settled_count list
handed_in stale = 0

-- how many settled Dispositions the takings of orders handed out
abbrev pub handed_count : List Event → ℕ
handed_count [] = 0
handed_count (e ∷ es) = handed_in e.reply + handed_count es

-- how many settled Dispositions a history ordered: those that were handed out, and those that the book has left
abbrev pub settled_in : List Event → Book → ℕ
settled_in history left = handed_count history + settled_count left.orders

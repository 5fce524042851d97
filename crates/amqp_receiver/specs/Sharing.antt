-- A receiver whose deliveries are settled apart from it (OASIS AMQP 1.0, part 2, sections 2.6.7 and 2.6.12).
use Rattle.std.specs.Prelude.{ℕ, Bool, true, false, List, Option, Some, None}
use Rattle.std.specs.List.{list_any}
use Rattle.amqp_delivery.specs.Book.{empty_book}
use Rattle.amqp_delivery.specs.declared.info.CreditMode.TheVariants.{Manual}
use Rattle.amqp_delivery.specs.declared.orders.Order.{Order}
use Rattle.amqp_delivery.specs.declared.orders.Order.TheVariants.{Disposition, Flow}
use Rattle.amqp_link.specs.declared.error.IllegalLinkStateError.{IllegalLinkStateError}
use Rattle.amqp_link.specs.Link as link
use Rattle.amqp_receiver.specs.Disposing.{writing}
use Rattle.amqp_receiver.specs.Receiver.{State, Made, works, refuses}

-- its book is taken: it keeps one without deliveries and without credit
abbrev pub without_book : State → State
without_book s = record s { book = empty_book s.book.mode Manual 0 }

abbrev pub is_flow : Order → Bool
is_flow (Disposition first last settled state) = false
is_flow (Flow count credit) = true

-- whether one of the orders gives credit
abbrev pub gives_credit : List Order → Bool
gives_credit orders = list_any is_flow orders

-- where credit is given the sender need not use it up
abbrev pub undrained_for : Bool → State → State
undrained_for true s = record s { is_draining = false }
undrained_for false s = s

-- the orders of a book that was taken are written
abbrev pub ordered : List Order → State → State
ordered orders s = record (undrained_for (gives_credit orders) s) { link = writing orders s.link }

abbrev pub ordered_unless : Option IllegalLinkStateError → List Order → State → Made
ordered_unless (Some e) orders s = refuses e s
ordered_unless None orders s = works (ordered orders s)

abbrev pub orders_written : List Order → State → Made
orders_written orders s = ordered_unless (link.disposal_refusal s.link) orders s

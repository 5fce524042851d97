-- The calls of a history as steps of the book.
use Rattle.std.specs.Prelude.{ℕ, Bool, false, List}
use Rattle.amqp_delivery.specs.States.{accepted, released}
use Rattle.amqp_delivery.specs.Book.{Book, Out, registered, disposed, taken}
use Rattle.amqp_delivery.specs.declared.orders.Order.{Order}
use Rattle.amqp_delivery.specs.declared.calls.BookCall.{BookCall}
use Rattle.amqp_delivery.specs.declared.calls.BookCall.TheVariants.{Register, Accept, Release, TakeOrders}
use Rattle.amqp_delivery.specs.declared.calls.BookReply.{BookReply}
use Rattle.amqp_delivery.specs.declared.calls.BookReply.TheVariants.{Done, Taken, Stale}

-- what a call answers, with the orders as a list
pub data Reply : Type 0 where
  done : ℕ → Bool → Reply
  orders : List Order → Reply
  stale : Reply

abbrev pub reply_of : BookReply → Reply
reply_of (Done found refilled) = done found refilled
reply_of (Taken list) = orders list.list
reply_of Stale = stale

-- what a call leaves and answers
pub record Made : Type 0 where
  pub book : Book
  pub reply : Reply

abbrev pub made : Out → Made
made o = record { book = o.book; reply = reply_of o.reply }

-- one step of the book
abbrev pub step : Book → BookCall → Made
step b (Register info) = record { book = registered b info; reply = done 0 false }
step b (Accept view info) = made (disposed b view info accepted)
step b (Release view info) = made (disposed b view info released)
step b TakeOrders = record { book = taken b; reply = orders b.orders }

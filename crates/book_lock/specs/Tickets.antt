-- What lies in the slot of a ticketed lock.
use Rattle.std.specs.Prelude.{List}
use Rattle.amqp_delivery.specs.Book.{Book, empty_book}
use Rattle.amqp_delivery.specs.declared.info.CreditMode.TheVariants.{Manual}
use Rattle.amqp_composites.specs.declared.modes.ReceiverSettleMode.TheVariants.{First}
use Rattle.book_history.specs.History.{Event}

-- the book of a desk whose name says none
abbrev pub no_book : Book
no_book = empty_book First Manual 0

-- the book and its history
pub record Held : Type 0 where
  pub book : Book
  pub history : List Event

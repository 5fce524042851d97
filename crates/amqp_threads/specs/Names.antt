-- The book of a desk whose name says none.
use Rattle.std.specs.Prelude.{[]}
use Rattle.amqp_delivery.specs.Book.{Book, empty_book}
use Rattle.amqp_delivery.specs.declared.info.CreditMode.TheVariants.{Manual}
use Rattle.amqp_composites.specs.declared.modes.ReceiverSettleMode.TheVariants.{First}

abbrev pub no_book : Book
no_book = empty_book First Manual 0

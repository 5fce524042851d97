-- The deliveries that disposers accept, and the book that they are registered in.
use Rattle.std.specs.Prelude.{ℕ, zero, suc, List, [], ◌∷◌, ◌++◌, None}
use Rattle.std.specs.Int.{to_be_bytes, w32}
use Rattle.amqp_composites.specs.declared.modes.ReceiverSettleMode.TheVariants.{First}
use Rattle.amqp_delivery.specs.Book.{Book, empty_book, registered}
use Rattle.amqp_delivery.specs.declared.info.CreditMode.TheVariants.{Manual}
use Rattle.amqp_delivery.specs.declared.info.DeliveryInfo.{DeliveryInfo}

-- the delivery with this number, whose tag is the number in four bytes
abbrev pub delivery_of : ℕ → DeliveryInfo
delivery_of number = record { delivery_id = number; delivery_tag = to_be_bytes w32 number; rcv_settle_mode = None }

-- the deliveries with smaller numbers, in order
abbrev pub deliveries_below : ℕ → List DeliveryInfo
deliveries_below zero = []
deliveries_below (suc n) = deliveries_below n ++ delivery_of n ∷ []

-- the deliveries are registered, in order
abbrev pub registered_all : Book → List DeliveryInfo → Book
registered_all b [] = b
registered_all b (info ∷ infos) = registered_all (registered b info) infos

-- a book of mode First without deliveries
abbrev pub first_book : Book
first_book = empty_book First Manual 0

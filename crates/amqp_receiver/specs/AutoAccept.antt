-- Deliveries that are accepted as they are given (OASIS AMQP 1.0, part 2, section 2.6.12, and part 3, section 3.4.2).
use Rattle.std.specs.Prelude.{Bool, not, ◌&&◌, is_some, [], ◌∷◌, if◌then◌else◌}
use Rattle.amqp_delivery.specs.Book.{taken, view_of}
use Rattle.amqp_delivery.specs.States.{accepted}
use Rattle.amqp_delivery.specs.declared.info.DeliveryInfo.{DeliveryInfo}
use Rattle.amqp_link.specs.Link as link
use Rattle.amqp_receiver.specs.Receiver.{State}
use Rattle.amqp_receiver.specs.Disposing.{disposing_in_book, written}

-- whether a Disposition may still be written: the link is attached and its session has not stopped
abbrev pub is_open : State → Bool
is_open s = link.is_attached s.link.phase && not (is_some s.link.stop_reason)

-- what the book has ordered is not written
abbrev pub unwritten : State → State
unwritten s = record s { book = taken s.book }

abbrev pub written_if_open : State → State
written_if_open s = if is_open s then written s else unwritten s

-- the book accepts the delivery also where nothing can be written of it any more
abbrev pub accepted_at_once : DeliveryInfo → State → State
accepted_at_once info s = written_if_open (disposing_in_book (view_of s.book s.link.own.handle) (info ∷ []) accepted s)

abbrev pub auto_accepted : DeliveryInfo → State → State
auto_accepted info s = if s.auto_accept then accepted_at_once info s else s

-- What crosses threads: each type from those that it holds, since one search for all of them would be too long.
use denote.RattleType.{RattleType}
use denote.Param.Send.{IsSend, IsSync, sendable, recorded_send, enum_send, struct_send}
use Rattle.std.proofs.Crossing.{crosses}
use Rattle.std.proofs.alloc.Global.TheSendSync as Global
use Rattle.std.proofs.boxed.Box.TheSendSync as Box
use Rattle.std.proofs.vec.Vec.TheSendSync as Vec
use Rattle.std.proofs.rt.Memory.TheSendSync as Memory
use Rattle.amqp_text.proofs.binary.Binary.TheSendSync as Binary
use Rattle.amqp_text.proofs.symbol.Symbol.TheSendSync as Symbol
use Rattle.amqp_text.proofs.text.Text.TheSendSync as Text
use Rattle.amqp_data.proofs.kind.ElementKind.TheSendSync as ElementKind
use Rattle.amqp_data.proofs.value.Timestamp.TheSendSync as Timestamp
use Rattle.amqp_data.proofs.value.Uuid.TheSendSync as Uuid
use Rattle.amqp_data.proofs.value.Described.TheLaws.TheKnot.{crosses as knot}
use Rattle.amqp_fields.specs.contracts.map.FieldMap as FieldMap
use Rattle.amqp_composites.specs.contracts.error.Error as Error
use Rattle.amqp_termini.specs.contracts.states.Rejected as Rejected
use Rattle.amqp_termini.specs.contracts.states.Modified as Modified
use Rattle.amqp_termini.specs.contracts.outcome.Outcome as Outcome
use Rattle.amqp_termini.specs.contracts.transactional.TransactionalState as TransactionalState
use Rattle.amqp_termini.specs.contracts.state.DeliveryState as DeliveryState
use Rattle.amqp_delivery.proofs.info.DeliveryInfo.TheSendSync as DeliveryInfo
use Rattle.amqp_delivery.proofs.info.DisposerView.TheSendSync as DisposerView
use Rattle.amqp_delivery.specs.contracts.entry.Kept as Kept
use Rattle.amqp_delivery.specs.contracts.orders.Order as Order
use Rattle.amqp_delivery.specs.contracts.orders.OrderList as OrderList
use Rattle.amqp_delivery.specs.contracts.calls.BookCall as BookCall
use Rattle.amqp_delivery.specs.contracts.calls.BookReply as BookReply
use Rattle.amqp_delivery.specs.contracts.book.BookState as BookState
use Rattle.book_history.specs.contracts.entry.HistoryEntry as HistoryEntry
use Rattle.book_history.specs.contracts.entry.Receipt as Receipt
use Rattle.book_history.specs.contracts.history.History as History
use Rattle.atomic_table.proofs.owned.Table.TheSendSync as Table
use Rattle.atomic_table.proofs.shared.Seat.TheSendSync as TableSeat
use Rattle.atomic_table.proofs.shared.Shared.TheSendSync as TableShared
use Rattle.atomic_table.proofs.send_lease.SendLease.TheSendSync as SendLease
use Rattle.book_lock.specs.contracts.ticket_book.TicketBook as TicketBook
use Rattle.book_lock.specs.contracts.seat.TicketSeat as TicketSeat
use Rattle.book_lock.specs.contracts.desk.TicketDesk as TicketDesk
use Rattle.book_lock.specs.declared.ticket_book.TicketName as TicketName
use Rattle.amqp_threads.specs.contracts.error.DeskError as DeskError
use Rattle.amqp_threads.specs.contracts.desk.Desk as Desk
use Rattle.amqp_threads.specs.declared.locked.DeskName as DeskName
use Rattle.std.specs.declared.sync.ledger.Ledger as Ledger
use Rattle.std.proofs.sync.ledger.Book.TheSendSync as Ledgered

pub ruleset parts = (
  Global.the_send,
  Global.the_sync,
  Box.the_send,
  Box.the_sync,
  Vec.the_send,
  Vec.the_sync,
  Memory.the_send,
  Memory.the_sync,
  Binary.the_send,
  Binary.the_sync,
  Symbol.the_send,
  Symbol.the_sync,
  Text.the_send,
  Text.the_sync,
  ElementKind.the_send,
  Timestamp.the_send,
  Uuid.the_send,
  crosses,
  knot,
  sendable,
)

pub field_map : IsSend FieldMap.the_row
field_map = search parts depth 60 fits 20000

pub error : IsSend Error.the_row
error = search (field_map, parts) depth 60 fits 20000

pub rejected : IsSend Rejected.the_row
rejected = search (error, parts) depth 60 fits 20000

pub modified : IsSend Modified.the_row
modified = search (field_map, parts) depth 60 fits 20000

pub outcome : IsSend Outcome.the_row
outcome = search (modified, rejected, parts) depth 60 fits 20000

pub transactional : IsSend TransactionalState.the_row
transactional = search (outcome, parts) depth 60 fits 20000

pub state_field : IsSend (DeliveryState.the_field).row
state_field = search (rejected, modified, transactional, outcome, parts) depth 60 fits 20000

pub kept : IsSend Kept.the_row
kept = search (state_field, parts) depth 60 fits 20000

pub order_field : IsSend (Order.the_field).row
order_field = search (state_field, parts) depth 60 fits 20000

pub order : IsSend Order.the_row
order = search (order_field, parts) depth 60 fits 20000

pub orders : IsSend OrderList.the_row
orders = search (order, parts) depth 60 fits 20000

pub call_field : IsSend (BookCall.the_field).row
call_field = search (DeliveryInfo.the_send, DeliveryInfo.the_field_send, DisposerView.the_field_send, DisposerView.the_send, parts) depth 60 fits 20000

pub reply_field : IsSend (BookReply.the_field).row
reply_field = search (orders, parts) depth 60 fits 20000

pub entry : IsSend HistoryEntry.the_row
entry = search (call_field, reply_field, parts) depth 60 fits 20000

pub receipt_field : IsSend (Receipt.the_field).row
receipt_field = search (entry, parts) depth 60 fits 20000

pub receipt : IsSend Receipt.the_row
receipt = search (receipt_field, parts) depth 60 fits 20000

pub history : IsSend History.the_row
history = search (entry, parts) depth 60 fits 20000

pub book : IsSend BookState.the_row
book = search (kept, orders, parts) depth 60 fits 20000

pub desk_error : IsSend DeskError.the_row
desk_error = search (receipt_field, entry, parts) depth 60 fits 20000

pub desk_field : (L : RattleType) (n : DeskName.Ghosts L.Denot) (l : Ledger.Ghosts L.Denot) → IsSend L → IsSync L → IsSync (Desk.the_field L n l).row
desk_field L n l sends shares = search (book, history, Ledgered.the_send, parts) depth 60 fits 20000

pub desk : (L : RattleType) (n : DeskName.Ghosts L.Denot) (l : Ledger.Ghosts L.Denot) → IsSend L → IsSync L → IsSync (Desk.the_row L n l)
desk L n l sends shares = search (desk_field, sendable) depth 60 fits 20000

-- ---- with tickets

pub ticket_book : (L : RattleType) (n : TicketName.Ghosts L.Denot) → IsSend L → IsSend (TicketBook.the_row L n)
ticket_book L n sends = search (book, history, parts) depth 60 fits 20000

pub ticket_seat : (L : RattleType) (n : TicketName.Ghosts L.Denot) → IsSend L → IsSend (TicketSeat.the_row L n)
ticket_seat L n sends = search (ticket_book, receipt, DisposerView.the_field_send, DisposerView.the_send, TableSeat.the_send, parts) depth 60 fits 20000

pub ticket_desk : (L : RattleType) (n : TicketName.Ghosts L.Denot) → IsSend L → IsSync L → IsSync (TicketDesk.the_row L n)
ticket_desk L n sends shares = search (ticket_book, Table.the_sync, TableShared.the_sync, SendLease.the_sync, parts) depth 60 fits 20000

-- What lies under the lock of a desk, and what its seats keep.
use Rattle.std.specs.Prelude.{ℕ, ◌+◌, List, [], ◌∷◌, ◌++◌, length}
use Rattle.amqp_delivery.specs.Book.{Book}
use Rattle.amqp_delivery.specs.declared.info.DisposerView.{DisposerView}
use Rattle.book_history.specs.History.{Event}
use Rattle.book_history.specs.declared.entry.Receipt.{Receipt}

-- what lies under the lock: the book, its history, and how many calls the ledger counts
pub record Locked : Type 0 where
  pub book : Book
  pub history : List Event
  pub total : ℕ

-- a seat: its number, its view, and the receipts of its calls, in order
pub record Seat : Type 0 where
  pub number : ℕ
  pub view : DisposerView
  pub receipts : List Receipt

-- the seat after a call
abbrev pub with_receipt : Seat → Receipt → Seat
with_receipt s r = record s { receipts = s.receipts ++ r ∷ [] }

-- how many calls the seats made
abbrev pub calls_of : List Seat → ℕ
calls_of [] = 0
calls_of (s ∷ ss) = length s.receipts + calls_of ss

abbrev pub new_seat : DisposerView → ℕ → Seat
new_seat view k = record { number = k; view = view; receipts = [] }

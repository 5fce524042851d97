-- What the seats of a ticket desk keep.
use Rattle.std.specs.Prelude.{◌≡◌, ℕ, ◌<◌, ◌≤◌, List, [], ◌∷◌, ◌++◌, map, length}
use Rattle.atomic_table.specs.Seated.{TableId}
use Rattle.amqp_delivery.specs.declared.info.DisposerView.{DisposerView}
use Rattle.amqp_delivery.specs.Book.{Book}
use Rattle.book_history.specs.History.{Event, Replays}
use Rattle.book_history.specs.Receipts.{Stand}
use Rattle.book_history.specs.declared.entry.Receipt.{Receipt}
use Rattle.book_lock.specs.declared.error.TicketError.{TicketError}
use Rattle.book_lock.specs.declared.error.TicketError.TheVariants.{Memory, Full}
use Rattle.book_lock.specs.Begins.{Begins, of_seat, IsAmong}

-- a seat: its number, its view, the receipts of its calls, the beginning of the history that it has seen, and its desk's table
pub record Seat : Type 0 where
  pub number : ℕ
  pub view : DisposerView
  pub receipts : List Receipt
  pub front : List Event
  pub table : TableId

-- a note: the beginning of the history that its seat had seen, and the desk's table
pub record Note : Type 0 where
  pub front : List Event
  pub table : TableId

abbrev pub entries : List Receipt → List Event
entries rs = map (λ r. r.entry) rs

-- in this history each receipt's entry stands at its place, and the entries with this number are those of the receipts, each once,
-- in their order
pub record HasOwn (number : ℕ) (receipts : List Receipt) (history : List Event) : Type 0 where
  pub stand : Stand 0 history receipts
  pub own : of_seat number history ≡ entries receipts

-- a run of the book's steps, from the first book to some book, with each reply that of its step
abbrev pub IsLegal : Book → List Event → Type 0
IsLegal first history = (last : Book) × Replays first history last

-- the same but for what was seen, which goes on from what was seen before
pub record Keeps (old new : Seat) : Type 0 where
  pub number : new.number ≡ old.number
  pub view : new.view ≡ old.view
  pub table : new.table ≡ old.table
  pub receipts : new.receipts ≡ old.receipts
  pub front : Begins old.front new.front

-- a call was made: what was seen ends with its entry, at the place of its receipt, and goes on from what was seen before
pub record Adds (old new : Seat) (r : Receipt) : Type 0 where
  pub number : new.number ≡ old.number
  pub view : new.view ≡ old.view
  pub table : new.table ≡ old.table
  pub receipts : new.receipts ≡ old.receipts ++ r ∷ []
  pub before : List Event
  pub goes_on : Begins old.front before
  pub place : r.place ≡ length before
  pub front : new.front ≡ before ++ r.entry ∷ []

-- the desk is full only where the ticket is not below the number of calls
abbrev pub IsFull : ℕ → TicketError → Type 0
IsFull calls (Memory e) = Unit {0}
IsFull calls (Full ticket) = calls ≤ ticket

-- a seat that has seen nothing
abbrev pub new_seat : DisposerView → ℕ → TableId → Seat
new_seat view k table = record { number = k; view = view; receipts = []; front = []; table = table }

-- all seats are of this table
abbrev pub AllAt : TableId → List Seat → Type 0
AllAt table [] = Unit {0}
AllAt table (s ∷ ss) = (s.table ≡ table) × AllAt table ss

abbrev pub numbers_of : List Seat → List ℕ
numbers_of ss = map (λ s. s.number) ss

-- each number below the count is that of a seat
abbrev pub AllHere : ℕ → List Seat → Type 0
AllHere count ss = (n : ℕ) → n < count → IsAmong n (numbers_of ss)

-- the calls of all seats stand in this history
abbrev pub AllOwn : List Event → List Seat → Type 0
AllOwn history [] = Unit {0}
AllOwn history (s ∷ ss) = HasOwn s.number s.receipts history × AllOwn history ss

-- what each seat has seen begins this history
abbrev pub AllSeen : List Event → List Seat → Type 0
AllSeen history [] = Unit {0}
AllSeen history (s ∷ ss) = Begins s.front history × AllSeen history ss

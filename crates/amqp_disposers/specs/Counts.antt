-- What a run of disposers counts and writes.
use Rattle.std.specs.Prelude.{◌≡◌, ℕ, ◌*◌, List, [], ◌∷◌, ◌++◌, Option, codes, decimal}
use Rattle.list_laws.specs.Told.{Gains}
use Rattle.amqp_streams.specs.Streams.{WritesFront}
use Rattle.amqp_delivery.specs.Book.{Book}
use Rattle.book_history.specs.History.{Event, Replays}
use Rattle.book_history.specs.Counts.{accept_count, settled_in}
use Rattle.amqp_disposers.specs.Deliveries.{deliveries_below, registered_all, first_book}

-- both numbers are read off one history, which leads from the book with the deliveries to the one that is left: each worker
-- accepted each delivery, and each delivery was settled once
pub record IsCounted (count workers calls settled : ℕ) : Type 0 where
  pub history : List Event
  pub left : Book
  pub replays : Replays (registered_all first_book (deliveries_below count)) history left
  pub accepts : calls ≡ accept_count history
  pub orders : settled ≡ settled_in history left
  pub each_call : calls ≡ count * workers
  pub each_once : settled ≡ count

-- a word, a number and a line feed
abbrev pub line_of : List ℕ → ℕ → List ℕ
line_of word number = word ++ decimal number ++ 10 ∷ []

abbrev pub text_of : ℕ → ℕ → List ℕ
text_of calls settled = line_of (codes "calls ") calls ++ line_of (codes "settled ") settled

-- the lines of a run
pub record IsCountText (count workers : ℕ) (text : List ℕ) : Type 0 where
  pub calls : ℕ
  pub settled : ℕ
  pub counted : IsCounted count workers calls settled
  pub shown : text ≡ text_of calls settled

-- the lines of a run were written whole
pub record WritesCounts (count workers : ℕ) (written written' : Option (List ℕ)) : Type 0 where
  pub text : List ℕ
  pub lines : IsCountText count workers text
  pub wrote : Gains written written' text

-- a front of them was written
pub record WritesSomeCounts (count workers : ℕ) (written written' : Option (List ℕ)) : Type 0 where
  pub text : List ℕ
  pub lines : IsCountText count workers text
  pub front : WritesFront text written written'

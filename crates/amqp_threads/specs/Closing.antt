-- When a desk is closed with an error.
use Rattle.std.specs.Prelude.{◌≡◌, ◌≢◌, ℕ, ◌<◌, ◌⊎◌, List, length, take, slice_get, Option, Some}
use Rattle.amqp_delivery.specs.Book.{Book}
use Rattle.book_history.specs.History.{Event, Replays}
use Rattle.book_history.specs.Receipts.{next_place}
use Rattle.book_history.specs.declared.entry.Receipt.{Receipt}
use Rattle.amqp_threads.specs.Seats.{Seat, calls_of}
use Rattle.amqp_threads.specs.declared.error.DeskError.{DeskError}
use Rattle.amqp_threads.specs.declared.error.DeskError.TheVariants.{Memory, Differs}

-- the error is want of memory, or says this
abbrev pub IsDiffers : Receipt → Option Event → DeskError → Type 0
IsDiffers r e (Memory error) = Unit {0}
IsDiffers r e (Differs receipt entry) = (receipt ≡ r) × (entry ≡ e)

-- the receipt stands below low, or at its place is another entry or none
abbrev pub DiffersAt : List Event → Receipt → ℕ → DeskError → Type 0
DiffersAt history r low (Memory error) = Unit {0}
DiffersAt history r low (Differs receipt entry) =
    (receipt ≡ r) × (entry ≡ slice_get history receipt.place) × ((receipt.place < low) ⊎ (entry ≢ Some receipt.entry))

-- the receipt is one of these, and its place does not rise, or has another entry or none
abbrev pub Differing : List Event → List Receipt → DeskError → Type 0
Differing history receipts (Memory error) = Unit {0}
Differing history receipts (Differs receipt entry) =
    (i : ℕ) × (slice_get receipts i ≡ Some receipt) × (entry ≡ slice_get history receipt.place)
    × ((receipt.place < next_place (take i receipts)) ⊎ (entry ≢ Some receipt.entry))

-- a seat keeps a receipt that fails in this history
abbrev pub FailsIn : List Event → List Seat → DeskError → Type 0
FailsIn history seats (Memory error) = Unit {0}
FailsIn history seats (Differs receipt entry) = (k : ℕ) × (s : Seat)
    × (slice_get seats k ≡ Some s) × Differing history s.receipts (Differs receipt entry)

-- a seat keeps a receipt that fails in a history of the book, with as many entries as the seats made calls
abbrev pub MayFail : Book → List Seat → DeskError → Type 0
MayFail first seats (Memory error) = Unit {0}
MayFail first seats (Differs receipt entry) = (last : Book) × (history : List Event)
    × Replays first history last × (length history ≡ calls_of seats) × FailsIn history seats (Differs receipt entry)

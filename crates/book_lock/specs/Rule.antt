-- The rule of a ticketed lock.
use Rattle.std.specs.Prelude.{◌≡◌, ℕ, ◌<◌, ◌≤◌, ◌⊎◌, true, false, List, [], ◌∷◌, length, Option, Some}
use mathlib.Core.Option.{none, some}
use mathlib.Core.Option as maybe
use lib.ListN.{get_elem?}
use Rattle.atomic_table.specs.Table.{State}
use Rattle.book_history.specs.History.{Event}
use Rattle.book_lock.specs.declared.rule.TicketView.{TicketView}
use Rattle.book_lock.specs.Begins.{Begins, of_seat, IsAmong, IsOfOthers}
use Rattle.book_lock.specs.Tickets.{Held}

-- a seat that has seen so much, and makes its calls with these numbers
abbrev pub newcomer : List Event → List ℕ → TicketView
newcomer front numbers = record { waits = false; ticket = 0; turn = false; front = front; told = []; numbers = numbers; told_numbers = [] }

-- the seat is told what the other has seen, and has its numbers too
abbrev pub informed : TicketView → TicketView → TicketView
informed v w =
    record { waits = v.waits; ticket = v.ticket; turn = v.turn; front = v.front; told = w.front; numbers = v.numbers; told_numbers = w.numbers }

-- the same seat with these numbers
abbrev pub numbered : TicketView → List ℕ → TicketView
numbered v ns =
    record { waits = v.waits; ticket = v.ticket; turn = v.turn; front = v.front; told = v.told; numbers = ns; told_numbers = v.told_numbers }

-- the first of these numbers
abbrev pub first_of : List ℕ → List ℕ
first_of [] = []
first_of (n ∷ ns) = n ∷ []

-- the others
abbrev pub rest_of : List ℕ → List ℕ
rest_of [] = []
rest_of (n ∷ ns) = ns

-- the number is the seat's own, or one of those that it was told of
abbrev pub IsMine : ℕ → TicketView → Type 0
IsMine n v = IsAmong n v.numbers ⊎ IsAmong n v.told_numbers

-- the history begins with what the seat has seen, and with what it was told; what comes behind either is of no seat with the
-- numbers that go with it
abbrev pub Learns : TicketView → List Event → Type 0
Learns v log =
    Begins v.front log × Begins v.told log × IsOfOthers v.numbers v.front log × IsOfOthers v.told_numbers v.told log

-- what a seat knows holds: it has seen a beginning of the history, in which all its calls stand; its ticket is drawn and not
-- served yet; and in its turn its ticket is served, it has seen all, and it has a number to make calls with
pub record Fits (count next serving : ℕ) (log : List Event) (v : TicketView) : Type 0 where
  pub learns : Learns v log
  pub below : (n : ℕ) → IsMine n v → n < count
  pub drawn : v.waits ≡ true → (serving ≤ v.ticket) × (v.ticket < next)
  pub turn : v.turn ≡ true → (v.waits ≡ true) × (v.ticket ≡ serving) × (v.front ≡ log) × ((n : ℕ) × IsAmong n v.numbers)

-- the book is at home with the history and nobody has the turn, or a seat has the turn
abbrev pub Home : List (maybe.Option (Option Held)) → List TicketView → List Event → Type 0
Home homes views log =
    ((x : Held) × (homes ≡ some (Some x) ∷ []) × (x.history ≡ log) × ((i : ℕ) (v : TicketView) → get_elem? views i ≡ some v → v.turn ≡ false))
    ⊎ ((homes ≡ none ∷ []) × ((i : ℕ) × (v : TicketView) × (get_elem? views i ≡ some v) × (v.turn ≡ true)))

-- with so many numbers: the words are the next ticket and the number that is served; the history is no longer than that number,
-- and has no entry of a number that there is not; tickets are apart, and so are the seats' numbers
pub record Kept (count : ℕ) (s : State (Option Held) TicketView) : Type 0 where
  pub next : ℕ
  pub serving : ℕ
  pub log : List Event
  pub words : s.words ≡ next ∷ serving ∷ []
  pub few : serving ≤ next
  pub short : length log ≤ serving
  pub strangers : (n : ℕ) → count ≤ n → of_seat n log ≡ []
  pub each : (i : ℕ) (v : TicketView) → get_elem? s.views i ≡ some v → Fits count next serving log v
  pub apart : (i j : ℕ) (v w : TicketView) → get_elem? s.views i ≡ some v → get_elem? s.views j ≡ some w → v.waits ≡ true → w.waits ≡ true → v.ticket ≡ w.ticket → i ≡ j
  pub lone : (i j n : ℕ) (v w : TicketView) → get_elem? s.views i ≡ some v → get_elem? s.views j ≡ some w → IsMine n v → IsMine n w → i ≡ j
  pub home : Home s.homes s.views log

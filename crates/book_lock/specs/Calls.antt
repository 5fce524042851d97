-- What the calls of a ticketed lock do.
use Rattle.std.specs.Prelude.{◌≡◌, ◌≢◌, ℕ, ◌+◌, ◌≤◌, ◌⊎◌, false, List, [], ◌∷◌, ◌++◌, length, Option, Some}
use Rattle.atomic_table.specs.Table.{Me}
use Rattle.book_history.specs.History.{Event}
use Rattle.book_history.specs.declared.entry.Receipt.{Receipt}
use Rattle.book_lock.specs.declared.rule.TicketView.{TicketView}
use Rattle.book_lock.specs.Tickets.{Held}
use Rattle.book_lock.specs.Begins.{Begins, of_seat, IsAmong, Follows}
use Rattle.book_lock.specs.Rule.{Learns}
use Rattle.book_lock.specs.Plays.{in_turn, seeing, longer, having_met}

-- the turn began: the seat holds the book, and has seen its history
abbrev pub Turns : Me (Option Held) TicketView → Me (Option Held) TicketView → Type 0
Turns me me' =
    (x : Held) × Learns me.0 x.history × (length x.history ≤ me.0.ticket) × (me' ≡ (in_turn me.0 x.history, (0, Some x) ∷ me.1))

-- the history so far was seen
abbrev pub Sees : Me (Option Held) TicketView → Me (Option Held) TicketView → Type 0
Sees me me' = (log : List Event) × Learns me.0 log × (me' ≡ (seeing me.0 log, me.1))

-- of seats with other numbers the history has what it begins with
abbrev pub IsOwnWork : List ℕ → List Event → List Event → Type 0
IsOwnWork numbers front log = (n : ℕ) → (IsAmong n numbers → ⊥) → of_seat n log ≡ of_seat n front

-- of all seats but this one the history has what it begins with
abbrev pub IsWorkOf : ℕ → List Event → List Event → Type 0
IsWorkOf seat front log = (n : ℕ) → n ≢ seat → of_seat n log ≡ of_seat n front

-- the seat holds the book, whose history goes on from what it sees, with its own entries, and by one at most
abbrev pub Holds : Me (Option Held) TicketView → Type 0
Holds me = (x : Held) × (me.1 ≡ (0, Some x) ∷ []) × Begins me.0.front x.history × (length x.history ≤ me.0.ticket + 1)
    × IsOwnWork me.0.numbers me.0.front x.history

-- the turn has begun: the seat holds the book, whose history is what it sees
abbrev pub Begun : Me (Option Held) TicketView → Type 0
Begun me = (x : Held) × (me.1 ≡ (0, Some x) ∷ []) × (x.history ≡ me.0.front)

-- a seat without a ticket, which holds nothing
pub record Idle (me : Me (Option Held) TicketView) : Type 0 where
  pub holds : me.1 ≡ []
  pub waits : me.0.waits ≡ false
  pub turn : me.0.turn ≡ false

-- a turn was taken: what is seen goes on from what was seen before, with entries of others, and ends with its own entry
pub record Taken (me me' : Me (Option Held) TicketView) (r : Receipt) : Type 0 where
  pub idle : Idle me'
  pub numbers : me'.0.numbers ≡ me.0.numbers
  pub before : List Event
  pub follows : Follows me.0.front me.0.numbers before
  pub place : r.place ≡ length before
  pub front : me'.0.front ≡ before ++ r.entry ∷ []

-- no entry was made: what is seen goes on from what was seen before, with entries of others
pub record Passed (me me' : Me (Option Held) TicketView) : Type 0 where
  pub idle : Idle me'
  pub numbers : me'.0.numbers ≡ me.0.numbers
  pub follows : Follows me.0.front me.0.numbers me'.0.front

-- another was met
abbrev pub Meets : Me (Option Held) TicketView → Me (Option Held) TicketView → Type 0
Meets me me' =
    (Begins me.0.front me.0.told ⊎ Begins me.0.told me.0.front)
    × Follows me.0.front me.0.numbers (longer me.0.front me.0.told) × Follows me.0.told me.0.told_numbers (longer me.0.front me.0.told)
    × (me' ≡ (having_met me.0, me.1))

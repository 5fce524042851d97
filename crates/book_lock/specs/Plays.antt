-- What each step of a ticketed lock tells its seat.
use Rattle.std.specs.Prelude.{◌≡◌, ◌≢◌, ℕ, ◌≤◌, ◌⊎◌, nat_lt, cond, true, false, List, [], ◌∷◌, ◌++◌, length, Option, Some}
use Rattle.atomic_table.specs.Table.{Step, Me}
use Rattle.book_history.specs.History.{Event}
use Rattle.book_lock.specs.declared.rule.TicketView.{TicketView}
use Rattle.book_lock.specs.Tickets.{Held}
use Rattle.book_lock.specs.Begins.{Begins, Follows}
use Rattle.book_lock.specs.Rule.{Learns}

-- with a ticket
abbrev pub waiting : TicketView → ℕ → TicketView
waiting v n =
    record { waits = true; ticket = n; turn = false; front = v.front; told = v.told; numbers = v.numbers; told_numbers = v.told_numbers }

-- in its turn, having seen this history
abbrev pub in_turn : TicketView → List Event → TicketView
in_turn v log =
    record { waits = v.waits; ticket = v.ticket; turn = true; front = log; told = v.told; numbers = v.numbers; told_numbers = v.told_numbers }

-- after its turn
abbrev pub after_turn : TicketView → List Event → TicketView
after_turn v log = record { waits = false; ticket = v.ticket; turn = false; front = log; told = []; numbers = v.numbers; told_numbers = [] }

-- having seen this history; the numbers that it was told of are its own
abbrev pub seeing : TicketView → List Event → TicketView
seeing v log =
    record { waits = v.waits; ticket = v.ticket; turn = v.turn; front = log; told = []; numbers = v.numbers ++ v.told_numbers; told_numbers = [] }

-- the ticket is drawn where the next one is the number given
abbrev pub Drawn : Step (Option Held) → Me (Option Held) TicketView → ℕ → Me (Option Held) TicketView → Type 0
Drawn s me found me' = (found ≡ s.first → me' ≡ (waiting me.0 found, me.1)) × (found ≢ s.first → me' ≡ me)

-- the turn begins where the ticket is served: the seat holds the book, with the history that it sees, which is no longer than
-- the ticket's number
abbrev pub Looked : Step (Option Held) → Me (Option Held) TicketView → ℕ → Me (Option Held) TicketView → Type 0
Looked s me found me' =
    (found ≡ me.0.ticket → (x : Held) × Learns me.0 x.history × (length x.history ≤ me.0.ticket) × (me' ≡ (in_turn me.0 x.history, (0, Some x) ∷ me.1)))
    × (found ≢ me.0.ticket → me' ≡ me)

-- the book is put back as it is held, and the seat has seen its history
abbrev pub Advanced : Step (Option Held) → Me (Option Held) TicketView → ℕ → Me (Option Held) TicketView → Type 0
Advanced s me found me' = (x : Held) → me.1 ≡ (0, Some x) ∷ [] → me' ≡ (after_turn me.0 x.history, [])

-- the history so far is seen, which goes on from what was seen before, and from what the seat was told
abbrev pub Seen : Step (Option Held) → Me (Option Held) TicketView → ℕ → Me (Option Held) TicketView → Type 0
Seen s me found me' = (log : List Event) × Learns me.0 log × (me' ≡ (seeing me.0 log, me.1))

-- of two beginnings of one history the longer
abbrev pub longer : List Event → List Event → List Event
longer front told = cond (nat_lt (length front) (length told)) told front

-- having met another: what was seen is the longer of what both had seen; the numbers that it was told of are its own
abbrev pub having_met : TicketView → TicketView
having_met v =
    record { waits = v.waits; ticket = v.ticket; turn = v.turn; front = longer v.front v.told; told = []; numbers = v.numbers ++ v.told_numbers; told_numbers = [] }

-- of what was seen and what was told one begins the other, and the longer is seen, in which nothing comes behind either that is of the
-- numbers that go with it
abbrev pub Met : Step (Option Held) → Me (Option Held) TicketView → ℕ → Me (Option Held) TicketView → Type 0
Met s me found me' =
    (Begins me.0.front me.0.told ⊎ Begins me.0.told me.0.front)
    × Follows me.0.front me.0.numbers (longer me.0.front me.0.told) × Follows me.0.told me.0.told_numbers (longer me.0.front me.0.told)
    × (me' ≡ (having_met me.0, me.1))

-- Beginnings of a history, and the calls of one seat in it.
use Rattle.std.specs.Prelude.{◌≡◌, ℕ, ◌+◌, ◌⊎◌, ◌==◌, zero, suc, cond, List, [], ◌∷◌, ◌++◌}
use Rattle.book_history.specs.History.{Event}

-- the history begins with these entries
abbrev pub Begins : List Event → List Event → Type 0
Begins front log = (rest : List Event) × (log ≡ front ++ rest)

-- the entries of the seat with this number, in their order
abbrev pub of_seat : ℕ → List Event → List Event
of_seat n [] = []
of_seat n (e ∷ es) = cond (e.seat == n) (e ∷ of_seat n es) (of_seat n es)

-- the number is one of these
abbrev pub IsAmong : ℕ → List ℕ → Type 0
IsAmong n [] = ⊥
IsAmong n (m ∷ ms) = (m ≡ n) ⊎ IsAmong n ms

-- so many numbers, from this one on
abbrev pub from : ℕ → ℕ → List ℕ
from n zero = []
from n (suc m) = n ∷ from (n + 1) m

-- of the seats with these numbers the history has no entries but those that it begins with
abbrev pub IsOfOthers : List ℕ → List Event → List Event → Type 0
IsOfOthers numbers front log = (n : ℕ) → IsAmong n numbers → of_seat n log ≡ of_seat n front

-- the history goes on from this beginning, and what comes behind it is of none of these seats
abbrev pub Follows : List Event → List ℕ → List Event → Type 0
Follows front numbers log = Begins front log × IsOfOthers numbers front log

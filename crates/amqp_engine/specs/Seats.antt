-- Which channels of this end sessions have: of each from 0 on whether it is taken.
use Rattle.std.specs.Prelude.{ℕ, ◌+◌, Bool, true, false, List, [], ◌∷◌}
use Prim.Native.Nat.{zero, suc}

-- the first channel that no session has
abbrev pub first_free : List Bool → ℕ
first_free [] = 0
first_free (true ∷ seats) = first_free seats + 1
first_free (false ∷ seats) = 0

-- that channel is taken
abbrev pub seat_taken : List Bool → ℕ → List Bool
seat_taken [] channel = true ∷ []
seat_taken (x ∷ seats) zero = true ∷ seats
seat_taken (x ∷ seats) (suc channel) = x ∷ seat_taken seats channel

-- how many of the first channels are taken
abbrev pub taken_up_to : ℕ → List Bool → ℕ
taken_up_to zero seats = 0
taken_up_to (suc n) [] = 0
taken_up_to (suc n) (true ∷ seats) = taken_up_to n seats + 1
taken_up_to (suc n) (false ∷ seats) = taken_up_to n seats

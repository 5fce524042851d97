-- A line of a script without its passwords.
use Rattle.std.specs.Prelude.{List, ℕ, [], ◌∷◌, ◌++◌, ◌&&◌, ◌||◌, not, ◌==◌, if◌then◌else◌, codes}

-- how much of ` pass=` is read, with a byte more
abbrev pub next_read : ℕ → ℕ → ℕ
next_read read b =
    if b == 32 then 1
    else if (read == 1) && (b == 112) then 2
    else if (read == 2) && (b == 97) then 3
    else if (read == 3) && (b == 115) then 4
    else if (read == 4) && (b == 115) then 5
    else if (read == 5) && (b == 61) then 6
    else 0

-- a byte that is shown, and `***` behind the last of ` pass=`
abbrev pub unhidden : ℕ → ℕ → List ℕ
unhidden b read = if read == 6 then b ∷ codes "***" else b ∷ []

-- the bytes behind ` pass=` up to the next blank are left out
abbrev pub hidden_from : ℕ → List ℕ → List ℕ
hidden_from read [] = []
hidden_from read (b ∷ line) = if not (read == 6) || (b == 32) then unhidden b (next_read read b) ++ hidden_from (next_read read b) line else hidden_from read line

-- a line in which the value of each argument `pass` is `***`
abbrev pub hidden : List ℕ → List ℕ
hidden line = hidden_from 0 line

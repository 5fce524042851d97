-- A payload in pieces.
use Rattle.std.specs.Prelude.{ℕ, zero, suc, ◌-◌, List, [], ◌∷◌, ◌++◌, length, take}

-- the pieces, one after another
abbrev pub joined : List (List ℕ) → List ℕ
joined [] = []
joined (p ∷ ps) = p ++ joined ps

-- the pieces and one more behind them, where it has bytes
abbrev pub with_piece : List (List ℕ) → List ℕ → List (List ℕ)
with_piece ps [] = ps
with_piece ps (b ∷ bs) = ps ++ (b ∷ bs) ∷ []

-- the pieces of the first bytes: of a piece that goes further its front
abbrev pub front_pieces : ℕ → List (List ℕ) → List (List ℕ)
front_pieces n [] = []
front_pieces zero (p ∷ ps) = []
front_pieces (suc n) (p ∷ ps) = take (suc n) p ∷ front_pieces (suc n - length p) ps

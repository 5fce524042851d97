-- The names of steps.
use Rattle.std.specs.Prelude.{List, ℕ, [], ◌∷◌, ◌-◌, ◌^◌, Option, None}
use Rattle.amqp_script.specs.Number.{number_in}

-- the name of a step: its position
abbrev pub name_in : List ℕ → Option ℕ
name_in word = number_in (2 ^ 64 - 1) word

-- the one name that the arguments are
abbrev pub one_name_in : List (List ℕ) → Option ℕ
one_name_in [] = None
one_name_in (name ∷ []) = name_in name
one_name_in (name ∷ more ∷ others) = None

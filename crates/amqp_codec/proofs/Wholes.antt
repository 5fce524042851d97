-- A value that the whole input spells.
use Rattle.std.proofs.Common.{◌≡◌, ℕ, ◌-◌, List, [], ◌++◌, length, sym, arith}
use Rattle.std.proofs.lemmas.List.{append-nil}

-- nothing follows the whole input
pub with_nothing : (input : List ℕ) → input ≡ input ++ []
with_nothing input = sym (append-nil input)

-- where all bytes are used, none is left
pub none_left : (input : List ℕ) (used : ℕ) → used ≡ length input → length input - used ≡ 0
none_left input used is = omega (arith, is)

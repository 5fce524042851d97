-- Order and hash of bytes, and equality of lists of them.
use Rattle.std.specs.Prelude.{◌≡◌, ℕ, Bool, ◌++◌, IsTrue, List, [], ◌∷◌, length, Option, Some}
use Rattle.std.specs.declared.cmp.Ordering.{Ordering}
use Rattle.std.specs.Str.{bytes_eq}
use Rattle.std.specs.Ordering.{nat_cmp}
use Rattle.std.specs.Bool.{Decides}
use Rattle.std.specs.Cmp.{IsEquivalence, IsPartialEquivalence, partial_equiv_from_equiv}
use Rattle.std.specs.Cmp.Lexicographic.{slice_cmp, nat_list_eq_equiv, lists_equiv, pointwise, pointwise_decides}
use Rattle.std.specs.Hash.{HashWrites, usize}
use Rattle.std.proofs.Common.{ap}
use Rattle.std.proofs.lemmas.Slice.Eq.{bytes_eq-Decides}

-- byte by byte; of two of which one begins with the other, the shorter one is less
abbrev pub bytes_cmp : List ℕ → List ℕ → Ordering
bytes_cmp = slice_cmp nat_cmp

abbrev pub bytes_partial_cmp : List ℕ → List ℕ → Option Ordering
bytes_partial_cmp s t = Some (bytes_cmp s t)

-- how many there are, and then they themselves
abbrev pub hashed_bytes : List ℕ → HashWrites
hashed_bytes s = usize (length s) ++ s ∷ []

pub bytes_partial_laws : IsPartialEquivalence bytes_eq
bytes_partial_laws = partial_equiv_from_equiv nat_list_eq_equiv

pub hashed_alike : (s t : List ℕ) → IsTrue (bytes_eq s t) → hashed_bytes s ≡ hashed_bytes t
hashed_alike s t h = ap hashed_bytes ((bytes_eq-Decides s t).0 h)

-- ---- lists of bytes

-- they are as many, and each is the same as the other's at its place
abbrev pub lists_eq : List (List ℕ) → List (List ℕ) → Bool
lists_eq = pointwise bytes_eq

pub lists_laws : IsEquivalence lists_eq
lists_laws = lists_equiv nat_list_eq_equiv

pub lists_partial_laws : IsPartialEquivalence lists_eq
lists_partial_laws = partial_equiv_from_equiv lists_laws

pub lists_decide : (ss ts : List (List ℕ)) → Decides (lists_eq ss ts) (ss ≡ ts)
lists_decide = pointwise_decides bytes_eq-Decides

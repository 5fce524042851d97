use Rattle.std.proofs.Common.{◌≡◌, ℕ, List, [], ◌++◌, take}
use Rattle.std.specs.Int.{w32, to_be_bytes}
use Rattle.kdf_core.specs.Pbkdf2.{u_of, t_of}
use Rattle.kdf_core.proofs.derivation.block_into.Given as goal

abbrev pub invariant-rounds : goal.invariant-rounds
invariant-rounds g l =
    (key : List ℕ) → g.P.Prf.holds l.prf key [] →
    (take g.P.Prf.OUTPUT l.last ≡ u_of (g.P.Prf.mac key) (l.salt ++ to_be_bytes w32 l.index) l.round)
    × (take g.P.Prf.OUTPUT l.total ≡ t_of (g.P.Prf.mac key) (l.salt ++ to_be_bytes w32 l.index) l.round)

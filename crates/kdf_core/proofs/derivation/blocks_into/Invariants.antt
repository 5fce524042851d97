use Rattle.std.proofs.Common.{◌-◌, ◌≡◌, ℕ, ◌+◌, ◌*◌, ◌≤◌, ◌<◌, List, [], length, take}
use Rattle.kdf_core.specs.Pbkdf2.{blocks_of}
use Rattle.kdf_core.proofs.derivation.blocks_into.Given as goal

abbrev pub invariant-pieces : goal.invariant-pieces
invariant-pieces g l = record {
  inside : l.done ≤ length l.out;
  whole : l.done < length l.out → l.done ≡ l.index * g.P.Prf.OUTPUT;
  enough : l.done ≤ l.index * g.P.Prf.OUTPUT;
  few : l.index * g.P.Prf.OUTPUT < length l.out + g.P.Prf.OUTPUT;
  same : (key : List ℕ) → g.P.Prf.holds l.prf key [] →
      take l.done l.out ≡ take l.done (blocks_of (g.P.Prf.mac key) l.salt l.rounds l.index);
}

abbrev pub decreases-pieces : goal.decreases-pieces
decreases-pieces g l = l.total - l.done

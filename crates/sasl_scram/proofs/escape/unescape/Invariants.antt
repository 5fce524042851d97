use Rattle.std.proofs.Common.{◌≡◌, ℕ, List, ◌++◌, length}
use Rattle.sasl_scram.specs.Texts.{escaped_of}
use Rattle.sasl_scram.proofs.escape.unescape.Given as goal

abbrev pub invariant-bytes : goal.invariant-bytes
invariant-bytes l = record {
  read : l.name ≡ escaped_of l.user.items ++ l.rest;
  left : (user : List ℕ) → l.name ≡ escaped_of user → (w : List ℕ) × (l.rest ≡ escaped_of w);
}

abbrev pub decreases-bytes : goal.decreases-bytes
decreases-bytes l = length l.rest

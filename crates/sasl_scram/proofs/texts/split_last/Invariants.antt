use Rattle.std.proofs.Common.{◌≤◌, length, drop}
use Rattle.sasl_scram.specs.Texts.{IsValue}
use Rattle.sasl_scram.proofs.texts.split_last.Given as goal

abbrev pub invariant-bytes : goal.invariant-bytes
invariant-bytes l = record {
  inside : l.at ≤ length l.text;
  last : IsValue (drop l.at l.text);
}

abbrev pub decreases-bytes : goal.decreases-bytes
decreases-bytes l = l.at

use Rattle.std.proofs.Common.{length}
use Rattle.sasl_scram.specs.Texts.{IsExtensions}
use Rattle.sasl_scram.proofs.extensions.are_extensions.Given as goal

abbrev pub invariant-extensions : goal.invariant-extensions
invariant-extensions l = record {
  enough : IsExtensions l.rest → IsExtensions l.text;
  needed : IsExtensions l.text → IsExtensions l.rest;
}

abbrev pub decreases-extensions : goal.decreases-extensions
decreases-extensions l = length l.rest

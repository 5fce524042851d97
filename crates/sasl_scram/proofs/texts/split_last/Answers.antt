use Rattle.std.proofs.Common.{◌≡◌, ℕ, List, drop, subst, arith}
use Rattle.sasl_scram.specs.Texts.{IsValue}
use Rattle.sasl_scram.proofs.Readers.{value_splits_nowhere}
use Rattle.sasl_scram.proofs.texts.split_last.Goals as goal

pub returns-clause-missing : goal.returns-clause-missing
returns-clause-missing c = λ front last e.
    let none : c.bytes.at ≡ 0 = omega arith in
    let P : List ℕ → Type 0 = λ t. IsValue t in
    let Q : ℕ → Type 0 = λ i. IsValue (drop i c.args.text.now) in
    value_splits_nowhere front last (subst P e (subst Q none c.bytes.invariant.last))

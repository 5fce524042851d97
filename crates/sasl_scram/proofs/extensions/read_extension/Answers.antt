use Rattle.std.proofs.Common.{sym, ◌∙◌}
use Rattle.std.proofs.lemmas.Bool.{eqb-true}
use Rattle.sasl_scram.proofs.ExtensionLists.{other_extension, empty_extension}
use Rattle.sasl_scram.proofs.extensions.read_extension.Goals as goal
use Rattle.sasl_scram.proofs.extensions.read_extension.Goals.{in_default-read_next-via-in-Some+else-not-is_empty, in_default-read_next-via-in_default-read_next}

pub returns-in_default-read_next-clause-missing : goal.returns-in_default-read_next-clause-missing
returns-in_default-read_next-clause-missing c = elim c.in_default-read_next.branch [
  | in_default-read_next-via-in-Some+else-not-is_empty w ↦
      empty_extension c.args.text.now _ _ w.in-Some.ensures.found (eqb-true _ 0 (sym w.is_empty.ensures ∙ w.if-not-is_empty.false))
  | in_default-read_next-via-in_default-read_next w ↦ other_extension c.args.text.now w.in_default-read_next.ensures.missing
]

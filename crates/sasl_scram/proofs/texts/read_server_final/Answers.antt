use Rattle.std.proofs.Common.{◌≡◌, false, true, sym, ◌∙◌}
use Rattle.sasl_scram.proofs.Readers.{no_server_final, other_server_final}
use Rattle.sasl_scram.proofs.texts.read_server_final.Goals as goal
use Rattle.sasl_scram.proofs.texts.read_server_final.Goals.{in_default-via-in-Some+else-are_extensions, in_default-via-in_default}

pub returns-in_default-clause-missing : goal.returns-in_default-clause-missing
returns-in_default-clause-missing c = elim c.in_default.branch [
  | in_default-via-in-Some+else-are_extensions w ↦
      other_server_final c.args.text.now _ _ w.in-Some.ensures.found (λ e. let t : false ≡ true = sym w.if-are_extensions.false ∙ w.are_extensions.ensures.1 e in cc)
  | in_default-via-in_default w ↦ no_server_final c.args.text.now w.in_default.ensures.missing
]

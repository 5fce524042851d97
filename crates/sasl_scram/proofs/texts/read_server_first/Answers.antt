use Rattle.std.proofs.Common.{◌≡◌, false, true, sym, ◌∙◌}
use Rattle.sasl_scram.proofs.Readers.{no_server_first, other_server_first}
use Rattle.sasl_scram.proofs.texts.read_server_first.Goals as goal
use Rattle.sasl_scram.proofs.texts.read_server_first.Goals.{in_default-read_next-via-in-Some-read_next+then-is_nonce+else-are_extensions, in_default-read_next-via-in-Some-read_next+else-is_nonce, in_default-read_next-via-in_default-read_next}

pub returns-in_default-read_next-clause-missing : goal.returns-in_default-read_next-clause-missing
returns-in_default-read_next-clause-missing c = elim c.in_default-read_next.branch [
  | in_default-read_next-via-in-Some-read_next+then-is_nonce+else-are_extensions w ↦
      other_server_first c.args.text.now _ _ _ _ _ c.in-Some.ensures.found w.in-Some-read_next.ensures.found
      (λ n e. let t : false ≡ true = sym w.if-are_extensions.false ∙ w.are_extensions.ensures.1 e in cc)
  | in_default-read_next-via-in-Some-read_next+else-is_nonce w ↦
      other_server_first c.args.text.now _ _ _ _ _ c.in-Some.ensures.found w.in-Some-read_next.ensures.found
      (λ n e. let t : false ≡ true = sym w.if-is_nonce.false ∙ w.is_nonce.ensures.1 n in cc)
  | in_default-read_next-via-in_default-read_next w ↦
      no_server_first c.args.text.now _ _ _ c.in-Some.ensures.found w.in_default-read_next.ensures.missing
]

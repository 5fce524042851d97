use Rattle.std.proofs.Common.{◌≡◌, false, true, sym, ◌∙◌}
use Rattle.sasl_scram.proofs.Readers.{other_client_final_bare}
use Rattle.sasl_scram.proofs.texts.read_client_final_bare.Goals as goal
use Rattle.sasl_scram.proofs.texts.read_client_final_bare.Goals.{in_default-via-in-Some+then-is_encoded+then-is_nonce+else-are_extensions, in_default-via-in-Some+then-is_encoded+else-is_nonce, in_default-via-in-Some+else-is_encoded, in_default-via-in_default}

pub returns-in_default-clause-missing : goal.returns-in_default-clause-missing
returns-in_default-clause-missing c = elim c.in_default.branch [
  | in_default-via-in-Some+then-is_encoded+then-is_nonce+else-are_extensions w ↦
      other_client_final_bare c.args.header.now c.args.bare.now _ _ _ w.in-Some.ensures.found
      (λ h n e. let t : false ≡ true = sym w.if-are_extensions.false ∙ w.are_extensions.ensures.1 e in cc)
  | in_default-via-in-Some+then-is_encoded+else-is_nonce w ↦
      other_client_final_bare c.args.header.now c.args.bare.now _ _ _ w.in-Some.ensures.found
      (λ h n e. let t : false ≡ true = sym w.if-is_nonce.false ∙ w.is_nonce.ensures.1 n in cc)
  | in_default-via-in-Some+else-is_encoded w ↦
      other_client_final_bare c.args.header.now c.args.bare.now _ _ _ w.in-Some.ensures.found
      (λ h n e. let t : false ≡ true = sym w.if-is_encoded.false ∙ w.is_encoded.ensures.1 h in cc)
  | in_default-via-in_default w ↦ λ r f. w.in_default.ensures.missing _ _ _ f.pair_is
]

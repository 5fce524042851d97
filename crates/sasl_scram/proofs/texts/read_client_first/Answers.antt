use Rattle.sasl_scram.proofs.Readers.{no_client_first}
use Rattle.sasl_scram.proofs.texts.read_client_first.Goals as goal

pub returns-in-None-clause-missing : goal.returns-in-None-clause-missing
returns-in-None-clause-missing c = no_client_first c.args.text.now _ c.split_at.ensures.back c.in-None.ensures.missing

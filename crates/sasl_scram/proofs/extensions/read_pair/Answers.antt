use Rattle.sasl_scram.proofs.Attributes.{no_pair}
use Rattle.sasl_scram.proofs.extensions.read_pair.Goals as goal

pub returns-in-None-clause-missing : goal.returns-in-None-clause-missing
returns-in-None-clause-missing c = λ v w r.
    no_pair _ _ c.args.text.now c.in-Some.front.value.now c.in-Some.front.rest.now c.in-Some.ensures.found c.in-None.ensures.missing v w r

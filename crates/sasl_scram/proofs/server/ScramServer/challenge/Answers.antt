use Rattle.sasl_scram.proofs.Readers.{name_refusal}
use Rattle.sasl_scram.proofs.server.ScramServer.challenge.Goals as goal

pub returns-in_default-clause-err : goal.returns-in_default-clause-err
returns-in_default-clause-err g c = λ h b n r user f name. c.in_default.ensures.missing h b n r f

pub returns-in-Err-clause-err : goal.returns-in-Err-clause-err
returns-in-Err-clause-err g c = name_refusal _ c.args.text.now _ _ _ _ _ c.in-Some.ensures.found c.in-Err.ensures.err

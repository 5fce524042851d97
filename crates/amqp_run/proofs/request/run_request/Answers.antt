use Rattle.std.proofs.Common.{sym, subst}
use Rattle.amqp_wire.specs.declared.status.Status.{Status}
use Rattle.amqp_run.specs.Asked.{IsUnwritten}
use Rattle.amqp_run.proofs.Told.{reads_none}
use Rattle.amqp_run.proofs.request.run_request.Goals as goal

pub returns-in-Some-Kdf-clause-too_long : goal.returns-in-Some-Kdf-clause-too_long
returns-in-Some-Kdf-clause-too_long g c =
    reads_none 16777216 _ _ (λ h. c.run_kdf.ensures.others (subst (λ (s : Status). IsUnwritten s) (sym h) tt))

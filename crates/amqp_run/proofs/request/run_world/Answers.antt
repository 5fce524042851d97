use Rattle.std.proofs.Common.{sym, subst}
use Rattle.amqp_wire.specs.declared.status.Status.{Status}
use Rattle.amqp_run.specs.Asked.{IsUnwritten}
use Rattle.amqp_run.specs.Script.{IsBadLine}
use Rattle.amqp_run.proofs.Told.{reads_all}
use Rattle.amqp_run.proofs.request.run_world.Goals as goal

pub returns-in-Err-Bad-clause-bad_script : goal.returns-in-Err-Bad-clause-bad_script
returns-in-Err-Bad-clause-bad_script g c = λ n e.
    record { script = c.in-Ok.script.items; read = c.in-Ok.ensures.all; bad = subst (λ s. IsBadLine s n) c.as_slice.ensures (c.in-Err-Bad.ensures.bad n cc) }

pub returns-in-Ok-write_all-clause-too_long : goal.returns-in-Ok-write_all-clause-too_long
returns-in-Ok-write_all-clause-too_long g c =
    reads_all 16777216 _ _ _ _ _ c.in-Ok.ensures.exact (λ h. subst (λ (s : Status). IsUnwritten s) (sym h) tt)

use Rattle.std.proofs.Common.{refl, ap, Ok, Err}
use Rattle.amqp_engine.specs.declared.error.Error.{Error}
use Rattle.amqp_engine.proofs.engine.ConnectionEngine.write.Goals as goal

pub returns-in-Ok : goal.returns-in-Ok
returns-in-Ok g c = rw (← c.self.view_is) (record { answer = Ok c.in-Ok.flush; wire = c.poll_flush.new.self; flushed = c.in-Ok.ensures; does = (refl, refl) })

pub returns-in-Err : goal.returns-in-Err
returns-in-Err g c = rw (← c.self.view_is) (record { answer = Err c.in-Err.error; wire = c.poll_flush.new.self; flushed = c.in-Err.ensures; does = (ap (λ (e : Error). Err e) c.fail_by.ensures.value, c.fail_by.ensures.state) })

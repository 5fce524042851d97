use Rattle.std.proofs.Common.{refl, Ok, Err}
use Rattle.amqp_engine.proofs.engine.ConnectionEngine.step_once.Goals as goal

pub returns-in-Ok : goal.returns-in-Ok
returns-in-Ok g c = record { mid = c.flush_once.new.self; flush = Ok c.in-Ok.field-0; flushes = c.in-Ok.ensures; acts = c.act.ensures }

pub returns-in-Err : goal.returns-in-Err
returns-in-Err g c = record { mid = c.flush_once.new.self; flush = Err c.in-Err.error; flushes = c.in-Err.ensures; acts = (refl, refl) }

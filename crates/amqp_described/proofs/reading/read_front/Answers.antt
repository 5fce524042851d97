use Rattle.std.proofs.Common.{ap}
use Rattle.std.specs.Prelude.{Err}
use Rattle.amqp_value.specs.amqp_data.View.{view}
use Rattle.amqp_described.proofs.Front.{the_front, refused_front}
use Rattle.amqp_described.proofs.reading.read_front.Goals as goal

pub returns-in-Ok : goal.returns-in-Ok
returns-in-Ok c = (
  record { within = c.in-Ok.ensures.within; spelled = c.in-Ok.ensures.found; nests = c.in-Ok.ensures.nests },
  the_front c.args.levels c.args.input.now (view c.in-Ok.value) c.in-Ok.used c.in-Ok.ensures.only,
)

pub returns-in-Err : goal.returns-in-Err
returns-in-Err c = refused_front c.args.levels c.args.input.now c.in-Err.error c.body_error.result c.body_error.ensures c.in-Err.ensures.refused (λ e. c.in-Err.ensures.none (ap Err e))

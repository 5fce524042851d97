use Rattle.amqp_clients.proofs.Deliveries.{cause_since}
use Rattle.amqp_clients.proofs.receiving.receive_all.Goals as goal

pub returns-in-Err-clause-cause : goal.returns-in-Err-clause-cause
returns-in-Err-clause-cause g c =
    cause_since (g.K.Sink.faults c.args.sink.now) (g.K.Sink.faults c.loop-came.sink) (g.K.Sink.faults c.receive_one.new.sink) c.in-Err.failure c.loop-came.invariant.later c.in-Err.ensures.cause

use Rattle.amqp_waiting.proofs.Passing.{count_of}
use Rattle.amqp_waiting.proofs.run.serve.Goals as goal

pub returns-in-Ok-clause-done : goal.returns-in-Ok-clause-done
returns-in-Ok-clause-done g c = λ is.
    count_of _ c.in-Ok.link (g.K.Sink.written c.args.sink.now) (g.K.Sink.written c.serve_over.new.sink) (c.serve_over.ensures.done is)

pub returns-in-Ok-clause-passed : goal.returns-in-Ok-clause-passed
returns-in-Ok-clause-passed g c = λ is. record { first = c.in-Ok.link; has = c.serve_over.ensures.done is }

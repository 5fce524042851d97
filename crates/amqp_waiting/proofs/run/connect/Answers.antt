use Rattle.amqp_waiting.proofs.run.connect.Goals as goal

pub returns-in-Ok-clause-passed : goal.returns-in-Ok-clause-passed
returns-in-Ok-clause-passed g c = λ is. record { first = c.in-Ok.link; has = c.connect_over.ensures.done is }

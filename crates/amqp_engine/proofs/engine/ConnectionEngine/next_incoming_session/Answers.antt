use Rattle.amqp_engine.proofs.Steps.{ran_channels}
use Rattle.amqp_engine.proofs.engine.ConnectionEngine.next_incoming_session.Goals as goal

pub returns-clause-ran : goal.returns-clause-ran
returns-clause-ran g c = ran_channels g.L.Link _ _ _ c.pop_asked.ensures.rest

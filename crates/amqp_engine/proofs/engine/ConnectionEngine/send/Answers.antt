use Rattle.amqp_engine.proofs.Steps.{ran_sends}
use Rattle.amqp_engine.proofs.engine.ConnectionEngine.send.Goals as goal

pub returns-clause-ran : goal.returns-clause-ran
returns-clause-ran g c = ran_sends g.L.Link _ _ _ _ c.into_parts-channel.ensures.session c.put_if_open-sent.ensures

use Rattle.amqp_engine.proofs.Steps.{ran_flushes}
use Rattle.amqp_engine.proofs.engine.ConnectionEngine.flush.Goals as goal

pub returns-clause-ran : goal.returns-clause-ran
returns-clause-ran g c = ran_flushes g.L.Link _ _ _ c.flush_once.ensures

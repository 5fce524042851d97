use Rattle.amqp_engine.proofs.Steps.{ran_allocates}
use Rattle.amqp_engine.proofs.engine.ConnectionEngine.allocate_session.Goals as goal

pub returns-clause-ran : goal.returns-clause-ran
returns-clause-ran g c = ran_allocates g.L.Link _ _ _ c.allocate.ensures

use Rattle.amqp_engine.proofs.Outcomes.{closed}
use Rattle.amqp_engine.proofs.engine.ConnectionEngine.close.Goals as goal

pub returns-clause-ran : goal.returns-clause-ran
returns-clause-ran g c = closed g.L.Link _ c.args.error _ _ c.close_if_open.ensures

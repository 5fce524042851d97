use Rattle.amqp_engine.proofs.Outcomes.{stepped}
use Rattle.amqp_engine.proofs.engine.ConnectionEngine.step.Goals as goal

pub returns-clause-ran : goal.returns-clause-ran
returns-clause-ran g c = stepped g.L.Link c.args.at _ _ _ c.step_once.ensures

use Rattle.amqp_engine.proofs.Says.{starts_calm}
use Rattle.amqp_engine.proofs.laws.keeps_no_error.Goals as goal

pub returns-clause-start : goal.returns-clause-start
returns-clause-start g c = starts_calm

pub returns-clause-goes_on : goal.returns-clause-goes_on
returns-clause-goes_on g c = λ old new r. r.calm

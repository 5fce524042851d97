use Rattle.amqp_engine.proofs.Answered.{no_higher, higher_closes}
use Rattle.amqp_engine.proofs.laws.keeps_to_handles.Goals as goal

pub returns-clause-within : goal.returns-clause-within
returns-clause-within g c = no_higher

pub returns-clause-closes : goal.returns-clause-closes
returns-clause-closes g c = higher_closes

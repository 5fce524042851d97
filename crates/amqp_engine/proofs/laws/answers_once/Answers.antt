use Rattle.amqp_engine.proofs.Answered.{first, stays, within}
use Rattle.amqp_engine.proofs.laws.answers_once.Goals as goal

pub returns-clause-first : goal.returns-clause-first
returns-clause-first g c = first

pub returns-clause-stays : goal.returns-clause-stays
returns-clause-stays g c = stays

pub returns-clause-within : goal.returns-clause-within
returns-clause-within g c = within

use Rattle.amqp_engine.proofs.Reasons.{reason_told}
use Rattle.amqp_engine.proofs.Says.{starts, goes_on, written}
use Rattle.amqp_engine.proofs.laws.says_a_sentence.Goals as goal

pub returns-clause-start : goal.returns-clause-start
returns-clause-start g c = starts

pub returns-clause-goes_on : goal.returns-clause-goes_on
returns-clause-goes_on g c = goes_on g.L.Link

pub returns-clause-written : goal.returns-clause-written
returns-clause-written g c = written

pub returns-clause-reason : goal.returns-clause-reason
returns-clause-reason g c = reason_told

use Rattle.amqp_engine.proofs.Owed.{owes_little}
use Rattle.amqp_engine.proofs.Outcomes.{stepped, stops_so, closed}
use Rattle.amqp_engine.proofs.laws.tells_of_its_call.Goals as goal

pub returns-clause-step : goal.returns-clause-step
returns-clause-step g c = λ at old new result. stepped g.L.Link at old result new

pub returns-clause-stopped : goal.returns-clause-stopped
returns-clause-stopped g c = stops_so g.L.Link

pub returns-clause-close : goal.returns-clause-close
returns-clause-close g c = λ old new y result. closed g.L.Link old y result new

pub returns-clause-owed : goal.returns-clause-owed
returns-clause-owed g c = owes_little

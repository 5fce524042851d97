use Rattle.amqp_sessions.proofs.Waits.{no_end_waits, no_begin_waits}
use Rattle.amqp_sessions.proofs.laws.waits_no_more.Goals as goal

pub returns-clause-end : goal.returns-clause-end
returns-clause-end c = no_end_waits

pub returns-clause-begin : goal.returns-clause-begin
returns-clause-begin c = no_begin_waits

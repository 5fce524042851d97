use Rattle.call_waits.proofs.Starts.{sender_waits, receiver_waits, accepted_waits}
use Rattle.call_waits.proofs.Moves.{waits_on}
use Rattle.call_waits.proofs.calls.calls_wait.Goals as goal

pub returns-clause-sender : goal.returns-clause-sender
returns-clause-sender c = sender_waits

pub returns-clause-receiver : goal.returns-clause-receiver
returns-clause-receiver c = receiver_waits

pub returns-clause-accepted : goal.returns-clause-accepted
returns-clause-accepted c = accepted_waits

pub returns-clause-on : goal.returns-clause-on
returns-clause-on c = waits_on

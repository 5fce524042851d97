use Rattle.session_waits.proofs.Waits.{none_waits, all_wait_on}
use Rattle.session_waits.proofs.sessions.session_calls_wait.Goals as goal

pub returns-clause-none : goal.returns-clause-none
returns-clause-none c = none_waits

pub returns-clause-kept : goal.returns-clause-kept
returns-clause-kept c = all_wait_on

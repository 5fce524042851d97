use Rattle.link_waits.proofs.Deeds.{none_waits, all_wait_on}
use Rattle.link_waits.proofs.links.all_calls_wait.Goals as goal

pub returns-clause-none : goal.returns-clause-none
returns-clause-none c = none_waits

pub returns-clause-kept : goal.returns-clause-kept
returns-clause-kept c = all_wait_on

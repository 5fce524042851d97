use Rattle.call_waits.proofs.Telling.{send_waits, recv_waits}
use Rattle.call_waits.proofs.calls.told_to_wait.Goals as goal

pub returns-clause-send : goal.returns-clause-send
returns-clause-send c = send_waits

pub returns-clause-recv : goal.returns-clause-recv
returns-clause-recv c = recv_waits

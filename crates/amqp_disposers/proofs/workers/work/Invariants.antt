use Rattle.std.proofs.Common.{take}
use Rattle.amqp_disposers.specs.Work.{Serves}
use Rattle.amqp_disposers.proofs.workers.work.Given as goal

abbrev pub invariant-loop-i : goal.invariant-loop-i
invariant-loop-i g l = Serves l.fn.seat (take l.i l.infos) l.seat

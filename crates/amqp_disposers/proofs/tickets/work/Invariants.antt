use Rattle.std.proofs.Common.{take}
use Rattle.amqp_disposers.specs.Tickets.{TicketServes}
use Rattle.amqp_disposers.proofs.tickets.work.Given as goal

abbrev pub invariant-loop-i : goal.invariant-loop-i
invariant-loop-i g l = TicketServes l.fn.seat (take l.i l.infos) l.seat

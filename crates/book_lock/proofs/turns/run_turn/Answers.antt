use Rattle.std.proofs.Common.{sym, subst}
use Rattle.atomic_table.specs.Table.{Me}
use Rattle.std.proofs.Common.{Option}
use Rattle.book_lock.specs.declared.rule.TicketView.{TicketView}
use Rattle.book_lock.specs.Tickets.{Held}
use Rattle.book_lock.specs.Begins.{IsAmong}
use Rattle.book_lock.proofs.turns.run_turn.Goals as goal

pub wait_turn-requires-clause-number : goal.wait_turn-requires-clause-number
wait_turn-requires-clause-number g c = (c.args.seat, subst (λ (m : Me (Option Held) TicketView). IsAmong c.args.seat m.0.numbers) (sym c.in-Ok.ensures.me.1) c.requires.number)

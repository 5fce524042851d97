use Rattle.std.proofs.Common.{sym, subst}
use Rattle.amqp_peer.specs.Peering.{Peering}
use Rattle.amqp_peer.specs.Runs.{RestedFrom, IsAskedToClose}
use Rattle.amqp_peer.proofs.Turns.{close_step, close_failed_step, on_ok}
use Rattle.amqp_peer.proofs.peer.Peer.close_stopped.Goals as goal

pub returns-in-Ok-clause-ok : goal.returns-in-Ok-clause-ok
returns-in-Ok-clause-ok g c =
    let n = rw (← c.self.view_is) at c.requires.stopped in
    on_ok c.conclude_close.result (λ e condition. subst (λ (z : Peering _). RestedFrom g.L.Link c.args.at 1 (IsAskedToClose condition c.args.self.now) c.args.self.now z) (sym e) (rw (← c.self.view_is) (close_step g.L.Link c.args.at condition _ c.step.new.self c.in-Ok.field-0 n c.in-Ok.ensures.stepped))) c.conclude_close.ensures.ok

pub returns-in_ok-error-in-Err-clause-ok : goal.returns-in_ok-error-in-Err-clause-ok
returns-in_ok-error-in-Err-clause-ok g c =
    let n = rw (← c.self.view_is) at c.requires.stopped in
    let ended = rw c.note.ensures at c.conclude_close-in-Err.ensures.ok in
    on_ok c.conclude_close-in-Err.result (λ e condition. subst (λ (z : Peering _). RestedFrom g.L.Link c.args.at 1 (IsAskedToClose condition c.args.self.now) c.args.self.now z) (sym e) (rw (← c.self.view_is) (close_failed_step g.L.Link c.args.at condition _ c.step.new.self c.in-Err.error c.in_ok-error-in-Err.error n c.in-Err.ensures.stepped (sym c.in_ok-error-in-Err.ensures)))) ended

use Rattle.std.proofs.Common.{◌^◌, ap, ◌∙◌, subst}
use Rattle.amqp_peer.specs.Peering.{Peering}
use Rattle.amqp_peer.specs.Runs.{RestedFrom, IsToClose}
use Rattle.amqp_peer.proofs.Advances.{rested_then}
use Rattle.amqp_peer.proofs.Starts.{asked_waits}
use Rattle.amqp_peer.proofs.Turns.{on_ok}
use Rattle.amqp_peer.proofs.peer.Peer.close_open.Goals as goal

pub returns-clause-ok : goal.returns-clause-ok
returns-clause-ok g c =
    let answered = c.in_ok-answer.ensures.ok in
    on_ok c.go_on.result (λ r p. asked_waits g.L.Link c.args.at (2 ^ 62) c.args.condition c.args.self.now c.go_on.new.self (subst (λ (z : Peering _). RestedFrom g.L.Link c.args.at (2 ^ 62) (IsToClose c.args.condition z) z c.go_on.new.self) answered (rested_then g.L.Link c.args.at 0 (2 ^ 62) (IsToClose c.args.condition c.answer.new.self) c.answer.new.self c.queue_close.new.self c.go_on.new.self (c.in_ok-queue_close.ensures.ok c.args.at (ap (λ (z : Peering _). z.progress) answered ∙ p)) r))) c.go_on.ensures.ok

use Rattle.std.proofs.Common.{◌≤◌, ◌^◌, arith}
use Rattle.amqp_peer.proofs.Starts.{polled, polled_idle}
use Rattle.amqp_peer.proofs.Turns.{on_ok}
use Rattle.amqp_peer.proofs.peer.Peer.run.Goals as goal

pub returns-in-Early-clause-ok : goal.returns-in-Early-clause-ok
returns-in-Early-clause-ok g c =
    let few : 2 ^ 63 ≤ 2 ^ 63 = omega arith in
    on_ok c.open.result (λ r. polled g.L.Link c.args.at (2 ^ 63) c.args.self.now c.open.new.self few r) c.open.ensures.ok

pub returns-in-Late-clause-ok : goal.returns-in-Late-clause-ok
returns-in-Late-clause-ok g c =
    let few : 2 ^ 62 ≤ 2 ^ 63 = omega arith in
    on_ok c.go_on.result (λ r. polled g.L.Link c.args.at (2 ^ 62) c.args.self.now c.go_on.new.self few r) c.go_on.ensures.ok

pub returns-in-Over-clause-ok : goal.returns-in-Over-clause-ok
returns-in-Over-clause-ok g c = rw (← c.self.view_is) (polled_idle g.L.Link c.args.at _ (c.way.ensures.over c.in-Over.is) (c.way.ensures.begun c.in-Over.is))

use Rattle.std.proofs.Common.{◌≤◌, ◌^◌, arith}
use Rattle.amqp_peer.specs.Runs.{IsAskedToClose}
use Rattle.amqp_peer.proofs.Advances.{rested_more}
use Rattle.amqp_peer.proofs.Turns.{on_ok}
use Rattle.amqp_peer.proofs.peer.Peer.close_on.Goals as goal

pub returns-then-has_stopped-clause-ok : goal.returns-then-has_stopped-clause-ok
returns-then-has_stopped-clause-ok g c =
    let few : 1 ≤ 2 ^ 62 = omega arith in
    on_ok c.close_stopped.result (λ r p. rested_more g.L.Link c.args.at 1 (2 ^ 62) (IsAskedToClose c.args.condition c.args.self.now) c.args.self.now c.close_stopped.new.self few (r c.args.condition)) c.close_stopped.ensures.ok

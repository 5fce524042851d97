use Rattle.std.proofs.Common.{Bool, subst}
use Rattle.amqp_clients.specs.Delivered.{Gave}
use Rattle.amqp_clients.proofs.Deliveries.{gave_on}
use Rattle.amqp_clients.proofs.receiving.next_line.Goals as goal

pub returns-then-branch-clause-gave : goal.returns-then-branch-clause-gave
returns-then-branch-clause-gave g c =
    let name = c.give-name.result in
    let line = c.line_now.new.line.items in
    let gave = subst (λ (found : Bool). Gave g.L.Link c.loop.end c.line_now.new.end c.args.link name line found) c.if-branch.true c.in_ok-line_now.ensures.gave in
    gave_on g.L.Link c.args.end.now c.loop.end c.line_now.new.end c.args.link name line c.loop.invariant gave

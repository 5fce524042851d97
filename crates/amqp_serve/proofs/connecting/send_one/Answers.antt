use Rattle.std.proofs.Common.{Bool, subst}
use Rattle.amqp_served_calls.specs.Calls.{send_call}
use Rattle.amqp_serve.specs.Ran.{Tried}
use Rattle.amqp_serve.proofs.Runs.{sent_on}
use Rattle.amqp_serve.proofs.connecting.send_one.Goals as goal

pub returns-then-branch-clause-sent : goal.returns-then-branch-clause-sent
returns-then-branch-clause-sent g c =
    let call = send_call c.args.link c.args.message.now in
    let name = c.give-name.result in
    let sent = subst (λ (is : Bool). Tried g.L.Link c.loop.end c.send_now.new.end name call is) c.if-branch.true c.in_ok-send_now.ensures.sent in
    sent_on g.L.Link c.args.end.now c.loop.end c.send_now.new.end name call c.loop.invariant sent

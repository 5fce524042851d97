use Rattle.amqp_clients.proofs.Deliveries.{sent_and_left}
use Rattle.amqp_clients.proofs.sending.send_on.Goals as goal

pub returns-clause-delivered : goal.returns-clause-delivered
returns-clause-delivered g c =
    sent_and_left g.L.Link c.args.end.now c.enter.new.end c.attach.new.end c.send_all.new.end c.leave.new.end c.args.messages.now c.in_ok-refused.refused c.in_ok-session.ensures.entered c.in_ok-link.ensures.attached
    c.in_ok-refused.ensures.delivered c.in_ok-leave.ensures.left

use Rattle.amqp_transport.proofs.Polls.{polled}
use Rattle.amqp_transport.proofs.transport.Transport.poll_once.Goals as goal

pub returns-in_ok-arrival-in-None : goal.returns-in_ok-arrival-in-None
returns-in_ok-arrival-in-None g c =
    let f = rw c.TYPE.ensures at c.in_ok-arrival-in-None.ensures in
    rw (← c.self.view_is) (polled g.L.Link _ _ _ c.args.at _ _ _ _ _ c.in-None.is f.1 c.answer.ensures)

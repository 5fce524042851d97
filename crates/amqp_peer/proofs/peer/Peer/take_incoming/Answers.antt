use Rattle.amqp_peer.proofs.Sessions.{takes_has}
use Rattle.amqp_peer.proofs.peer.Peer.take_incoming.Goals as goal

pub returns-clause-has : goal.returns-clause-has
returns-clause-has g c = rw (← c.self.view_is) (takes_has g.L.Link _ _ c.take_incoming.new.self c.take_incoming.ensures.takes)

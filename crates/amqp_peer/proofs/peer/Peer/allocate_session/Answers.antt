use Rattle.amqp_peer.proofs.Sessions.{allocates_has}
use Rattle.amqp_peer.proofs.peer.Peer.allocate_session.Goals as goal

pub returns-clause-has : goal.returns-clause-has
returns-clause-has g c = rw (← c.self.view_is) (allocates_has g.L.Link _ _ c.allocate_session.new.self c.allocate_session.ensures.allocates)

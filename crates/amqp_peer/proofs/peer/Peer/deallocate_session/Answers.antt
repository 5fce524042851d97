use Rattle.amqp_peer.proofs.Sessions.{freed_has}
use Rattle.amqp_peer.proofs.peer.Peer.deallocate_session.Goals as goal

pub returns-clause-has : goal.returns-clause-has
returns-clause-has g c = rw (← c.self.view_is) (freed_has g.L.Link _ _ c.deallocate_session.new.self c.deallocate_session.ensures.freed)

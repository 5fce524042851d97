use Rattle.amqp_peer.proofs.Sessions.{session_has}
use Rattle.amqp_peer.proofs.peer.Peer.next_incoming_session.Goals as goal

pub returns-clause-has : goal.returns-clause-has
returns-clause-has g c = rw (← c.self.view_is) (session_has g.L.Link _ _ c.next_incoming_session.new.self c.next_incoming_session.ensures.takes)

use Rattle.amqp_peer.proofs.Sessions.{passes}
use Rattle.amqp_peer.proofs.peer.Peer.pass.Goals as goal

pub returns-in-Ok-clause-ok : goal.returns-in-Ok-clause-ok
returns-in-Ok-clause-ok g c = rw (← c.self.view_is) (passes _ c.send.new.self _ c.in-Ok.field-0 c.in-Ok.ensures.sends)

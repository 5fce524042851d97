use Rattle.std.proofs.Common.{◌^◌, refl, arith}
use Rattle.amqp_peer.proofs.Starts.{closed}
use Rattle.amqp_peer.proofs.Turns.{on_ok}
use Rattle.amqp_peer.proofs.peer.Peer.close.Goals as goal

pub returns-clause-ok : goal.returns-clause-ok
returns-clause-ok g c = rw (← c.self.view_is) (on_ok c.close_on.result (λ r p. closed g.L.Link c.args.at (2 ^ 62) c.args.name c.args.condition _ c.close_on.new.self (omega arith) p (r refl)) c.close_on.ensures.ok)

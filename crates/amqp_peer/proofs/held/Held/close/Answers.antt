use Rattle.std.proofs.Common.{refl}
use Rattle.amqp_peer.proofs.held.Held.close.Goals as goal

pub returns-clause-closed : goal.returns-clause-closed
returns-clause-closed g c = rw c.in-Late.is (c.close.new.self, refl, c.close.ensures.ran)

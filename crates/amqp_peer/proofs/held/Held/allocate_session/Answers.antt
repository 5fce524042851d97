use Rattle.std.proofs.Common.{refl}
use Rattle.amqp_peer.proofs.held.Held.allocate_session.Goals as goal

pub returns-clause-allocates : goal.returns-clause-allocates
returns-clause-allocates g c = rw c.in-Late.is (c.allocate_session.new.self, refl, c.allocate_session.ensures.does)

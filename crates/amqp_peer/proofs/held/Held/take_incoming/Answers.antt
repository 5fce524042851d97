use Rattle.std.proofs.Common.{refl}
use Rattle.amqp_peer.proofs.held.Held.take_incoming.Goals as goal

pub returns-in-Late-clause-takes : goal.returns-in-Late-clause-takes
returns-in-Late-clause-takes g c = rw c.in-Late.is (c.take_incoming.new.self, refl, c.take_incoming.ensures.does)

use Rattle.std.proofs.Common.{refl}
use Rattle.amqp_peer.proofs.held.Held.send.Goals as goal

pub returns-clause-sends : goal.returns-clause-sends
returns-clause-sends g c = rw c.in-Late.is (c.send.new.self, refl, c.send.ensures.does)

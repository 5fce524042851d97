use Rattle.std.proofs.Common.{refl}
use Rattle.amqp_peer.proofs.held.Held.next_incoming_session.Goals as goal

pub returns-in-Late-clause-takes : goal.returns-in-Late-clause-takes
returns-in-Late-clause-takes g c = rw c.in-Late.is (c.next_incoming_session.new.self, refl, c.next_incoming_session.ensures.does)

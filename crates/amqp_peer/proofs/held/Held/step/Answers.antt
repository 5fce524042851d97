use Rattle.std.proofs.Common.{refl}
use Rattle.amqp_peer.proofs.held.Held.step.Goals as goal

pub returns-clause-stepped : goal.returns-clause-stepped
returns-clause-stepped g c = rw c.in-Late.is (c.step.new.self, refl, c.step.ensures.ran, c.step.ensures.does)

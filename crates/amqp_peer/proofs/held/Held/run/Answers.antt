use Rattle.std.proofs.Common.{refl}
use Rattle.amqp_peer.proofs.held.Held.run.Goals as goal

pub returns-clause-ran : goal.returns-clause-ran
returns-clause-ran g c = rw c.in-Early.is (c.run.new.self, refl, c.run.ensures)

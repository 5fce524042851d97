use Rattle.amqp_transport.proofs.Readings.{one_reading}
use Rattle.amqp_transport.proofs.laws.one_reading.Goals as goal

pub returns : goal.returns
returns g c = one_reading g.F.FrameKind.TYPE g.F.FrameKind.spells g.met.F.FrameKind.one

use Rattle.amqp_transport.proofs.Readings.{written}
use Rattle.amqp_transport.proofs.laws.written_is_read.Goals as goal

pub returns : goal.returns
returns g c = written g.F.FrameKind.TYPE g.F.FrameKind.spells g.F.FrameKind.canonical g.F.FrameKind.channel_of g.F.FrameKind.again

use Rattle.amqp_transport.proofs.Readings.{first_frames}
use Rattle.amqp_transport.proofs.laws.reads_what_was_written.Goals as goal

pub returns : goal.returns
returns g c = first_frames g.F.FrameKind.TYPE g.F.FrameKind.spells g.F.FrameKind.canonical g.F.FrameKind.channel_of g.F.FrameKind.again g.met.F.FrameKind.one

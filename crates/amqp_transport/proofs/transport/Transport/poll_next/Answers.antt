use Rattle.amqp_transport.proofs.Streams.{grew}
use Rattle.amqp_transport.proofs.transport.Transport.poll_next.Goals as goal

pub returns-clause-joined : goal.returns-clause-joined
returns-clause-joined g c = grew g.L.Link _ _ _ c.args.at _ _ c.poll_once.ensures

use Rattle.amqp_peer.proofs.Sends.{sent_passes}
use Rattle.amqp_peer.proofs.peer.Peer.send.Goals as goal

pub returns-in-Ok-clause-sent : goal.returns-in-Ok-clause-sent
returns-in-Ok-clause-sent g c = sent_passes g.L.Link _ _ c.pass.new.self c.args.frame.of_a_session c.in-Ok.ensures.ok

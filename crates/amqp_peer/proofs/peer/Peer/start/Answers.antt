use Rattle.amqp_peer.proofs.Starts.{started}
use Rattle.amqp_peer.proofs.Turns.{on_ok}
use Rattle.amqp_peer.proofs.peer.Peer.start.Goals as goal

pub returns-clause-ok : goal.returns-clause-ok
returns-clause-ok g c =
    rw (← c.self.view_is) (on_ok c.begin.result (λ r call p prep sasl. started g.L.Link c.args.at c.args.name call _ c.begin.new.self p (r call prep sasl)) c.begin.ensures.ok)

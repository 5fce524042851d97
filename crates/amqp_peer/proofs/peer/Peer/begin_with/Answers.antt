use Rattle.std.proofs.Common.{◌^◌}
use Rattle.amqp_peer.proofs.Turns.{on_ok, begin_refused_step}
use Rattle.amqp_peer.proofs.peer.Peer.begin_with.Goals as goal

pub returns-in-Ok-clause-ok : goal.returns-in-Ok-clause-ok
returns-in-Ok-clause-ok g c =
    on_ok c.begin_made.result (λ r call prep sasl. r call c.args.sasl prep sasl c.in-Ok.ensures.ok c.in-Ok.ensures.begins) c.begin_made.ensures.ok

pub returns-clause-ok : goal.returns-clause-ok
returns-clause-ok g c =
    on_ok c.refuse.result (λ f call prep sasl. begin_refused_step g.L.Link c.args.at (2 ^ 63) call c.args.self.now c.refuse.new.self c.args.sasl c.in-Err.error c.requires.early sasl c.in-Err.ensures.err c.in-None.ensures f) c.refuse.ensures.ok

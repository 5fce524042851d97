use Rattle.std.proofs.Common.{◌^◌, ◌∙◌}
use Rattle.amqp_peer.proofs.Turns.{on_ok, begin_plain_step}
use Rattle.amqp_peer.proofs.peer.Peer.begin_plain.Goals as goal

pub returns-in-Ok-clause-ok : goal.returns-in-Ok-clause-ok
returns-in-Ok-clause-ok g c =
    on_ok c.open.result (λ r call prep sasl. begin_plain_step g.L.Link c.args.at (2 ^ 63) call c.args.self.now _ c.open.new.self c.begin_plain.new.self c.args.prepared (c.self.view_is ∙ c.in_ok-answer.ensures.ok) c.requires c.in-Ok.ensures.ok prep sasl r) c.open.ensures.ok

use Rattle.std.proofs.Common.{◌^◌, ◌∙◌}
use Rattle.amqp_peer.proofs.Turns.{on_ok, begin_with_step}
use Rattle.amqp_peer.proofs.peer.Peer.begin_made.Goals as goal

pub returns-in-Ok-clause-ok : goal.returns-in-Ok-clause-ok
returns-in-Ok-clause-ok g c =
    on_ok c.open.result (λ r call asked prep sasl made holds. begin_with_step g.L.Link c.args.at (2 ^ 63) call c.args.self.now _ c.open.new.self c.begin.new.self c.args.prepared asked c.args.exchange (c.self.view_is ∙ c.in_ok-answer.ensures.ok) c.requires c.in-Ok.ensures.ok prep sasl made holds r) c.open.ensures.ok

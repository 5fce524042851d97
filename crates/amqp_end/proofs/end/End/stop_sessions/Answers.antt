use Rattle.amqp_end.proofs.Goes.{on_ok, on_then}
use Rattle.amqp_end.proofs.Handed.{all_before}
use Rattle.amqp_end.proofs.end.End.stop_sessions.Goals as goal

pub returns-clause-ok : goal.returns-clause-ok
returns-clause-ok g c =
    on_ok c.hand_on_all.result (λ h at. on_then g.L.Link at c.args.self.now c.halt_for.new.self c.hand_on_all.new.self (c.in_ok-halt_for.ensures.ok at) (h at)) c.hand_on_all.ensures.goes

pub returns-clause-handed : goal.returns-clause-handed
returns-clause-handed g c =
    on_ok c.hand_on_all.result (λ h at. all_before g.L.Link at c.args.self.now c.halt_for.new.self c.hand_on_all.new.self (c.in_ok-halt_for.ensures.ok at).goes (h at)) c.hand_on_all.ensures.handed

use Rattle.std.proofs.Common.{[]}
use Rattle.amqp_end.proofs.Goes.{on_ok, on_both, goes_then}
use Rattle.amqp_end.proofs.Handed.{all_then}
use Rattle.amqp_end.proofs.end.End.go_on.Goals as goal

pub returns-clause-goes : goal.returns-clause-goes
returns-clause-goes g c =
    let at = c.args.at in
    on_ok c.run.result (λ h. goes_then g.L.Link at [] [] c.args.self.now c.hand_on_all.new.self c.run.new.self (c.in_ok-hand_on_all.ensures.goes at).goes h) c.run.ensures.goes

pub returns-clause-handed : goal.returns-clause-handed
returns-clause-handed g c =
    let at = c.args.at in
    on_both c.run.result
    (λ h k. all_then g.L.Link at c.args.self.now c.hand_on_all.new.self c.run.new.self (c.in_ok-hand_on_all.ensures.goes at).goes (c.in_ok-hand_on_all.ensures.handed at) h k)
    c.run.ensures.goes c.run.ensures.kept

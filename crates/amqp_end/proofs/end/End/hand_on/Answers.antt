use Rattle.amqp_end.proofs.Goes.{on_ok, on_then}
use Rattle.amqp_end.proofs.Handed.{hands_heard, hands_after}
use Rattle.amqp_end.proofs.end.End.hand_on.Goals as goal

pub returns-clause-goes : goal.returns-clause-goes
returns-clause-goes g c =
    on_ok c.write_on_session.result (λ h at. on_then g.L.Link at c.args.self.now c.hear_session.new.self c.write_on_session.new.self (c.in_ok-hear_session.ensures.goes at) (h at)) c.write_on_session.ensures.goes

pub returns-then-branch-clause-one : goal.returns-then-branch-clause-one
returns-then-branch-clause-one g c = hands_heard g.L.Link c.args.self.now c.hear_session.new.self _ c.if-branch.true c.in_ok-hear_session.ensures.one

pub returns-clause-one : goal.returns-clause-one
returns-clause-one g c =
    hands_after g.L.Link c.args.self.now c.hear_session.new.self c.write_on_session.new.self _ c.write_on_session.result (λ at. (c.in_ok-hear_session.ensures.goes at).goes) c.if-branch.false c.in_ok-hear_session.ensures.one c.write_on_session.ensures.one

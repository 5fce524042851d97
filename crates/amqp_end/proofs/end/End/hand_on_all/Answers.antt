use Rattle.std.proofs.Common.{◌∙◌, ◌+◌, ◌^◌, arith, inl, inr, refl}
use Rattle.amqp_end.proofs.Goes.{on_none, on_then}
use Rattle.amqp_end.proofs.Handed.{over_none, over_then, over_fewer, handed_one, handed_none}
use Rattle.amqp_end.proofs.end.End.hand_on_all.Goals as goal

pub returns-then-not-branch-clause-goes : goal.returns-then-not-branch-clause-goes
returns-then-not-branch-clause-goes g c = λ at. on_then g.L.Link at c.args.self.now c.handed.self c.hand_on.new.self (c.handed.invariant.goes at) (c.in_ok-hand_on.ensures.goes at)

pub handed-init : goal.handed-init
handed-init g c = record { goes = λ at. on_none g.L.Link at c.args.self.now; connection = refl; over = (0, omega arith, λ at. over_none g.L.Link at c.args.self.now) }

pub handed-preserved : goal.handed-preserved
handed-preserved g c = record {
  goes = λ at. on_then g.L.Link at c.args.self.now c.handed.self c.hand_on.new.self (c.handed.invariant.goes at) (c.in_ok-hand_on.ensures.goes at);
  connection = c.hand_on.ensures.connection ∙ c.handed.invariant.connection;
  over = (
    c.handed.invariant.over.0 + 1,
    omega (arith, c.handed.invariant.over.1),
    λ at. over_then g.L.Link at c.handed.invariant.over.0 1 c.args.self.now c.handed.self c.hand_on.new.self (c.handed.invariant.over.2 at) (handed_one g.L.Link at c.handed.self c.hand_on.new.self _ c.if-not-branch.false c.in_ok-hand_on.ensures.one),
  );
}

pub returns-then-not-branch-clause-handed : goal.returns-then-not-branch-clause-handed
returns-then-not-branch-clause-handed g c = λ at. inl (handed_none g.L.Link c.handed.self c.hand_on.new.self _ c.if-not-branch.true c.in_ok-hand_on.ensures.one)

pub returns-clause-handed : goal.returns-clause-handed
returns-clause-handed g c = λ at. inr (over_fewer g.L.Link at (2 ^ 62) c.handed.invariant.over.0 c.args.self.now c.handed.self (omega (arith, c.handed.invariant.over.1, c.handed-test.false)) (c.handed.invariant.over.2 at))

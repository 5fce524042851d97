use Rattle.std.proofs.Common.{arith, inl}
use Rattle.amqp_end.proofs.Goes.{on_none, on_then}
use Rattle.amqp_end.proofs.Rests.{early_rests}
use Rattle.amqp_end.proofs.Handed.{all_then}
use Rattle.amqp_end.proofs.end.End.steps.Goals as goal

pub returns-then-not-branch-clause-goes : goal.returns-then-not-branch-clause-goes
returns-then-not-branch-clause-goes g c = (on_then g.L.Link c.args.at c.args.self.now c.steps.self c.advance.new.self c.steps.invariant.goes c.in_ok-advance.ensures.goes).goes

pub steps-preserved : goal.steps-preserved
steps-preserved g c = record {
  goes = on_then g.L.Link c.args.at c.args.self.now c.steps.self c.advance.new.self c.steps.invariant.goes c.in_ok-advance.ensures.goes;
  late = c.in_ok-advance.ensures.goes.late c.steps.invariant.late;
  kept = λ k. all_then g.L.Link c.args.at c.args.self.now c.steps.self c.advance.new.self c.steps.invariant.goes.goes (c.steps.invariant.kept k) c.in_ok-advance.ensures.goes.goes c.in_ok-advance.ensures.kept;
  rests = λ h. c.in_ok-advance.ensures.rests;
}

pub returns-clause-rests : goal.returns-clause-rests
returns-clause-rests g c = c.steps.invariant.rests (omega (arith, c.steps-test.false))

pub steps-init : goal.steps-init
steps-init g c = record { goes = on_none g.L.Link c.args.at c.args.self.now; late = c.is_running.ensures.0 c.if-not-is_running.false; kept = λ k. inl k; rests = λ h. absurd (omega (arith, h)) }

pub returns-then-not-is_running-clause-rests : goal.returns-then-not-is_running-clause-rests
returns-then-not-is_running-clause-rests g c = early_rests c.args.self.now (λ l. absurd (cc (c.is_running.ensures.1 l, c.if-not-is_running.true)))

pub returns-clause-goes : goal.returns-clause-goes
returns-clause-goes g c = c.steps.invariant.goes.goes

pub returns-then-not-branch-clause-rests : goal.returns-then-not-branch-clause-rests
returns-then-not-branch-clause-rests g c = c.in_ok-advance.ensures.rests

pub returns-then-not-branch-clause-kept : goal.returns-then-not-branch-clause-kept
returns-then-not-branch-clause-kept g c =
    λ k. all_then g.L.Link c.args.at c.args.self.now c.steps.self c.advance.new.self c.steps.invariant.goes.goes (c.steps.invariant.kept k) c.in_ok-advance.ensures.goes.goes c.in_ok-advance.ensures.kept

pub returns-then-not-is_running-clause-kept : goal.returns-then-not-is_running-clause-kept
returns-then-not-is_running-clause-kept g c = λ k. inl k

pub returns-clause-kept : goal.returns-clause-kept
returns-clause-kept g c = c.steps.invariant.kept

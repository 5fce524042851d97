use Rattle.std.proofs.Common.{refl, ap, ◌∙◌}
use Rattle.amqp_sessions.specs.State.{State}
use Rattle.amqp_end.proofs.Goes.{on_then, on_still, on_freed, none_freed}
use Rattle.amqp_end.proofs.Handed.{between_then, between_sessions}
use Rattle.amqp_end.proofs.end.End.give_back.Goals as goal

pub channels-preserved : goal.channels-preserved
channels-preserved g c = record {
  goes = λ at. on_then g.L.Link at _ c.channels.self _ (c.channels.invariant.goes at) (on_freed g.L.Link at c.in-Some.channel c.channels.self _ c.in-Some.ensures c.deallocate_session.ensures.freed refl refl refl refl);
  output = ap (λ (z : State). z.output) c.in-Some.ensures.1 ∙ c.channels.invariant.output;
  between = between_then _ c.channels.self _ c.channels.invariant.between (between_sessions c.channels.self _ (ap (λ (z : State). z.incoming) c.in-Some.ensures.1) refl);
}

pub returns-clause-goes : goal.returns-clause-goes
returns-clause-goes g c = λ at. on_then g.L.Link at _ c.channels.self _ (c.channels.invariant.goes at) (on_still g.L.Link at c.channels.self _ refl (none_freed _ _ c.in_default.ensures) refl refl refl refl)

pub returns-clause-output : goal.returns-clause-output
returns-clause-output g c = ap (λ (z : State). z.output) c.in_default.ensures.1 ∙ c.channels.invariant.output

pub returns-clause-freed : goal.returns-clause-freed
returns-clause-freed g c = ap (λ (z : State). z.freed) c.in_default.ensures.1 ∙ c.in_default.ensures.0

pub returns-clause-between : goal.returns-clause-between
returns-clause-between g c = between_then _ c.channels.self _ c.channels.invariant.between (between_sessions c.channels.self _ (ap (λ (z : State). z.incoming) c.in_default.ensures.1) refl)

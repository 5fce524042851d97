use Rattle.std.proofs.Common.{refl, ap}
use Rattle.amqp_end.proofs.Goes.{on_then, on_still, on_wrote, none_written}
use Rattle.amqp_sessions.specs.State.{State}
use Rattle.amqp_end.proofs.Handed.{between_then, between_sessions}
use Rattle.amqp_end.proofs.end.End.write.Goals as goal

pub frames-preserved : goal.frames-preserved
frames-preserved g c = record {
  goes = λ at. on_then g.L.Link at _ c.frames.self _ (c.frames.invariant.goes at)
      (on_wrote g.L.Link at _ c.frames.self _ c.in-Some.ensures c.in-Ok.ensures.passes c.in-Ok.ensures.sent c.frames.invariant.opened c.send.ensures.late refl refl refl refl);
  late = c.send.ensures.late;
  opened = c.in-Ok.ensures.sent.opens c.frames.invariant.opened;
  between = between_then _ c.frames.self _ c.frames.invariant.between (between_sessions c.frames.self _ (ap (λ (z : State). z.incoming) c.in-Some.ensures.1) refl);
}

pub returns-clause-goes : goal.returns-clause-goes
returns-clause-goes g c = λ at. on_then g.L.Link at _ c.frames.self _ (c.frames.invariant.goes at) (on_still g.L.Link at c.frames.self _ refl (none_written _ _ c.in_default.ensures) refl refl refl refl)

pub returns-clause-written : goal.returns-clause-written
returns-clause-written g c = c.in_default.ensures.0.1

pub returns-clause-between : goal.returns-clause-between
returns-clause-between g c = between_then c.args.self.now c.frames.self _ c.frames.invariant.between (between_sessions c.frames.self _ (ap (λ (z : State). z.incoming) c.in_default.ensures.1) refl)

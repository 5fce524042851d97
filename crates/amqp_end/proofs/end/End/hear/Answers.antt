use Rattle.std.proofs.Common.{refl}
use Rattle.amqp_end.proofs.Goes.{on_then, on_heard, on_none_heard, none_waits}
use Rattle.amqp_end.proofs.Handed.{between_sessions, all_before, all_still}
use Rattle.amqp_end.proofs.end.End.hear.Goals as goal

pub frames-preserved : goal.frames-preserved
frames-preserved g c =
    let mid = record c.frames.self { connection = c.take_incoming.new.self; sessions = c.on_frame.new.self } in
    record {
      goes = λ at. on_then g.L.Link at _ c.hand_on_all.new.self _
          (on_then g.L.Link at _ mid c.hand_on_all.new.self
          (on_then g.L.Link at _ c.frames.self mid (c.frames.invariant.goes at) (on_heard g.L.Link at _ c.frames.self mid c.in-Some.ensures.takes c.in-Some.ensures.rest c.in_ok-on_frame.ensures.state refl refl refl refl))
          (c.in_ok-hand_on_all.ensures.goes at))
          (c.in_ok-look_at_links.ensures.goes at);
      kept = λ at k. all_still g.L.Link at _ c.hand_on_all.new.self _
          (all_before g.L.Link at _ mid c.hand_on_all.new.self
          (on_then g.L.Link at _ c.frames.self mid (c.frames.invariant.goes at) (on_heard g.L.Link at _ c.frames.self mid c.in-Some.ensures.takes c.in-Some.ensures.rest c.in_ok-on_frame.ensures.state refl refl refl refl)).goes
          (c.in_ok-hand_on_all.ensures.handed at))
          (c.in_ok-look_at_links.ensures.goes at).goes c.in_ok-look_at_links.ensures.between;
    }

pub returns-clause-goes : goal.returns-clause-goes
returns-clause-goes g c =
    λ at. on_then g.L.Link at _ c.frames.self _ (c.frames.invariant.goes at) (on_none_heard g.L.Link at c.frames.self _ c.in_default.ensures.takes c.in_default.ensures.rest refl refl refl refl refl)

pub returns-clause-kept : goal.returns-clause-kept
returns-clause-kept g c =
    λ at k. all_still g.L.Link at _ c.frames.self _ (c.frames.invariant.kept at k) (on_none_heard g.L.Link at c.frames.self _ c.in_default.ensures.takes c.in_default.ensures.rest refl refl refl refl refl).goes (between_sessions c.frames.self _ refl refl)

pub returns-clause-heard : goal.returns-clause-heard
returns-clause-heard g c = none_waits _ _ c.in_default.ensures.takes

use Rattle.std.proofs.Common.{refl, []}
use Rattle.amqp_end.proofs.Goes.{goes_then, goes_step}
use Rattle.amqp_end.proofs.Handed.{between_sessions, kept_still, all_then}
use Rattle.amqp_end.proofs.end.End.advance.Goals as goal

pub returns-in_ok-take_up-in-Ok-clause-goes : goal.returns-in_ok-take_up-in-Ok-clause-goes
returns-in_ok-take_up-in-Ok-clause-goes g c =
    let mid = record c.args.self.now { connection = c.step.new.self } in
    let step = goes_step g.L.Link c.args.at c.in-Ok.more c.args.self.now mid c.in-Ok.ensures.hands c.in-Ok.ensures.hands_last refl refl refl refl refl in
    let up = c.in_ok-take_up-in-Ok.ensures.goes c.args.at in
    record {
      goes = goes_then g.L.Link c.args.at [] [] c.args.self.now mid c.take_up.new.self step up.goes;
      late = λ z. up.late c.in-Ok.ensures.late;
      heard = λ z. c.in_ok-take_up-in-Ok.ensures.rests.heard;
    }

pub returns-in_ok-take_up-in-Ok-clause-rests : goal.returns-in_ok-take_up-in-Ok-clause-rests
returns-in_ok-take_up-in-Ok-clause-rests g c = c.in_ok-take_up-in-Ok.ensures.rests

pub returns-in_ok-take_up-in-Ok-clause-kept : goal.returns-in_ok-take_up-in-Ok-clause-kept
returns-in_ok-take_up-in-Ok-clause-kept g c = λ k.
    let mid = record c.args.self.now { connection = c.step.new.self } in
    let step = goes_step g.L.Link c.args.at c.in-Ok.more c.args.self.now mid c.in-Ok.ensures.hands c.in-Ok.ensures.hands_last refl refl refl refl refl in
    all_then g.L.Link c.args.at c.args.self.now mid c.take_up.new.self step (kept_still g.L.Link c.args.at c.args.self.now mid (between_sessions c.args.self.now mid refl refl) k)
    (c.in_ok-take_up-in-Ok.ensures.goes c.args.at).goes (c.in_ok-take_up-in-Ok.ensures.kept c.args.at)

use Rattle.std.proofs.Common.{refl, None}
use Rattle.amqp_end.specs.Moves.{HandedOut}
use Rattle.amqp_end.proofs.Goes.{on_ok, on_both, on_then, on_move}
use Rattle.amqp_end.proofs.Handed.{all_before, all_still}
use Rattle.amqp_end.proofs.end.End.let_out.Goals as goal

pub returns-clause-goes : goal.returns-clause-goes
returns-clause-goes g c =
    let mid = record c.args.self.now { sessions = c.hand_out.new.self } in
    on_ok c.hand_over.result
    (λ h at. on_then g.L.Link at c.args.self.now c.hand_on_all.new.self c.hand_over.new.self
    (on_then g.L.Link at c.args.self.now mid c.hand_on_all.new.self
    (on_move g.L.Link at (HandedOut c.args.session) c.args.self.now mid tt tt tt refl c.in_ok-hand_out.ensures refl refl refl refl) (c.in_ok-hand_on_all.ensures.goes at)) (h at))
    c.hand_over.ensures.goes

pub returns-clause-handed : goal.returns-clause-handed
returns-clause-handed g c =
    let mid = record c.args.self.now { sessions = c.hand_out.new.self } in
    on_both c.hand_over.result
    (λ h b at. all_still g.L.Link at c.args.self.now c.hand_on_all.new.self c.hand_over.new.self
    (all_before g.L.Link at c.args.self.now mid c.hand_on_all.new.self
    (on_move g.L.Link at {call = None} (HandedOut c.args.session) c.args.self.now mid tt tt tt refl c.in_ok-hand_out.ensures refl refl refl refl).goes (c.in_ok-hand_on_all.ensures.handed at)) (h at).goes b)
    c.hand_over.ensures.goes c.hand_over.ensures.between

use Rattle.std.proofs.Common.{refl, sym, true, None}
use Rattle.amqp_end.specs.Moves.{Concluded}
use Rattle.amqp_end.proofs.Goes.{on_ok, on_any, on_then, on_move}
use Rattle.amqp_end.proofs.Rests.{said_stopped}
use Rattle.amqp_end.proofs.Handed.{all_before}
use Rattle.amqp_end.proofs.end.End.conclude.Goals as goal

pub returns-in-Some-clause-goes : goal.returns-in-Some-clause-goes
returns-in-Some-clause-goes g c =
    let mid = record c.args.self.now { has_concluded = true; sessions = c.conclude.new.self } in
    on_ok c.hand_on_all.result
    (λ h at. on_then g.L.Link at c.args.self.now mid c.hand_on_all.new.self (on_move g.L.Link at (Concluded c.in-Some.reason.now) c.args.self.now mid tt (sym c.in-Some.ensures) tt refl c.in_ok-conclude.ensures refl refl refl refl) (h at))
    c.hand_on_all.ensures.goes

pub returns-in-Some-clause-said : goal.returns-in-Some-clause-said
returns-in-Some-clause-said g c =
    on_any c.hand_on_all.result (λ k. said_stopped c.args.self.now c.hand_on_all.new.self c.in-Some.reason.now c.in-Some.ensures c.hand_on_all.ensures.connection)

pub returns-in-Some-clause-kept : goal.returns-in-Some-clause-kept
returns-in-Some-clause-kept g c =
    let mid = record c.args.self.now { has_concluded = true; sessions = c.conclude.new.self } in
    on_ok c.hand_on_all.result
    (λ h at k. all_before g.L.Link at c.args.self.now mid c.hand_on_all.new.self (on_move g.L.Link at {call = None} (Concluded c.in-Some.reason.now) c.args.self.now mid tt (sym c.in-Some.ensures) tt refl c.in_ok-conclude.ensures refl refl refl refl).goes (h at))
    c.hand_on_all.ensures.handed

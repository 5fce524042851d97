use Rattle.std.proofs.Common.{refl, inr, None}
use Rattle.amqp_end.specs.Moves.{HandedOut}
use Rattle.amqp_end.proofs.Goes.{on_ok, on_then, on_move, awaited}
use Rattle.amqp_end.proofs.Handed.{all_before}
use Rattle.amqp_end.proofs.end.End.accept_waiting.Goals as goal

pub returns-clause-goes : goal.returns-clause-goes
returns-clause-goes g c =
    let mid = record c.accept_first.new.self { sessions = c.hand_out.new.self } in
    on_ok c.hand_on_all.result
    (λ h at. on_then g.L.Link at c.args.self.now mid c.hand_on_all.new.self
    (on_then g.L.Link at c.args.self.now c.accept_first.new.self mid (c.in_ok-accept_first.ensures at None (inr (awaited c.in-Some-Accept.name c.in-Some-Accept.numbers _ (rw c.in-Some-Accept.field-0-is at c.in-Some-Accept.ensures))))
    (on_move g.L.Link at (HandedOut c.in-Some-Accept.name) c.accept_first.new.self mid tt tt tt refl c.in_ok-hand_out.ensures refl refl refl refl)) (h at))
    c.hand_on_all.ensures.goes

pub returns-clause-kept : goal.returns-clause-kept
returns-clause-kept g c =
    let mid = record c.accept_first.new.self { sessions = c.hand_out.new.self } in
    on_ok c.hand_on_all.result
    (λ h at k. all_before g.L.Link at c.args.self.now mid c.hand_on_all.new.self
    (on_then g.L.Link at c.args.self.now c.accept_first.new.self mid (c.in_ok-accept_first.ensures at None (inr (awaited c.in-Some-Accept.name c.in-Some-Accept.numbers _ (rw c.in-Some-Accept.field-0-is at c.in-Some-Accept.ensures))))
    (on_move g.L.Link at (HandedOut c.in-Some-Accept.name) c.accept_first.new.self mid tt tt tt refl c.in_ok-hand_out.ensures refl refl refl refl)).goes (h at))
    c.hand_on_all.ensures.handed

use Rattle.std.proofs.Common.{refl, true}
use Rattle.amqp_end.specs.Moves.{Halted}
use Rattle.amqp_end.proofs.Goes.{on_ok, on_move}
use Rattle.amqp_end.proofs.end.End.halt_for.Goals as goal

pub returns-in-Some-clause-ok : goal.returns-in-Some-clause-ok
returns-in-Some-clause-ok g c =
    let new = record c.args.self.now { has_closed = true; sessions = c.halt.new.self } in
    on_ok c.halt.result (λ h at. on_move g.L.Link at (Halted c.in-Some.reason) c.args.self.now new tt tt tt refl h refl refl refl refl) c.halt.ensures

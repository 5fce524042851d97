use Rattle.std.proofs.Common.{refl, inl, Some}
use Rattle.amqp_end.specs.Moves.{Awaiting}
use Rattle.amqp_end.proofs.Goes.{on_ok, on_move}
use Rattle.amqp_end.proofs.end.End.accept.Goals as goal

pub returns-then-is_none : goal.returns-then-is_none
returns-then-is_none g c =
    on_ok c.await_begin.result (λ h at. on_move g.L.Link at (Awaiting c.args.name c.args.numbers) c.args.self.now _ refl tt tt refl h refl refl refl refl) c.await_begin.ensures

pub returns : goal.returns
returns g c = on_ok c.accept_first.result (λ h at. h at (Some c.args.name) (inl refl)) c.accept_first.ensures

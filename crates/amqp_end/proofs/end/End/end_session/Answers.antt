use Rattle.std.proofs.Common.{refl}
use Rattle.amqp_end.specs.Moves.{Ended}
use Rattle.amqp_end.proofs.Goes.{on_ok, on_move}
use Rattle.amqp_end.proofs.end.End.end_session.Goals as goal

pub returns : goal.returns
returns g c = on_ok c.end.result (λ h at. on_move g.L.Link at (Ended c.args.name c.args.session c.args.error) c.args.self.now _ refl tt tt refl h refl refl refl refl) c.end.ensures

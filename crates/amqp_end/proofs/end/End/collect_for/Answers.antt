use Rattle.std.proofs.Common.{refl}
use Rattle.amqp_end.proofs.Goes.{on_ok, on_told_first}
use Rattle.amqp_end.proofs.Telling.{told_first}
use Rattle.amqp_end.proofs.end.End.collect_for.Goals as goal

pub returns : goal.returns
returns g c =
    on_ok c.append.result
    (λ h at. on_told_first g.L.Link at c.args.name _ c.args.self.now _ _ c.in_ok-fresh.ensures refl refl refl refl refl (told_first c.args.name _ _ _ _ _ c.in_ok-others.ensures.told c.in_ok-others.ensures.others h))
    c.append.ensures
